use Rattle.std.proofs.Common.{◌≡◌, ◌+◌, List, map, take, Some, sym, ◌∙◌, ap, subst}
use Rattle.std.specs.Prelude.{Any, Contains}
use Rattle.std.specs.Option.{option_map}
use Rattle.std.proofs.lemmas.Bool.{false≢true}
use Rattle.std.proofs.lemmas.List.{take_all}
use Rattle.ios_config.specs.declared.twice.Stand as stands
use Rattle.ios_config.specs.Seen.{stand_seen}
use Rattle.ios_config.specs.Twice.{StandOnce, excluded, stand_of}
use Rattle.ios_config.proofs.Keys.{eq_stand, eq_stand-Decides}
use Rattle.ios_config.proofs.StandLists.{Stands, first_clash, once_more, stands_more, stands_same, inserted}
use Rattle.ios_config.proofs.twice.first_duplicate.Goals as goal
use Rattle.ios_config.proofs.twice.first_duplicate.Goals.{in-Some+in_ok-insert-in-Some, in-None}

pub returns-then-is_excluded : goal.returns-then-is_excluded
returns-then-is_excluded c =
    first_clash c.args.commands.now c.loop-c.c-index c.c-item.result (map stand_seen c.loop-c.stands.keys) c.loop-c-test.true c.c-item.is c.loop-c.invariant.stands
    c.loop-c.invariant.once (c.is_excluded.ensures.0 c.if-is_excluded.true)

pub loop-c-preserved : goal.loop-c-preserved
loop-c-preserved c =
    let names = map stand_seen c.loop-c.stands.keys in
    let none : Any (Contains names) (excluded c.c-item.result.command) → ⊥ = λ any. false≢true (sym c.if-is_excluded.false ∙ c.is_excluded.ensures.1 any) in
    record {
      stands = elim c.match-stand_of.branch [
        | in-Some+in_ok-insert-in-Some w ↦
            let s = stand_seen w.in-Some.stand in
            let says : stand_of c.c-item.result.command ≡ Some s = sym c.stand_of.ensures ∙ ap (option_map stand_seen) w.in-Some.is in
            subst (λ (l : List stands.Stand). Stands (map stand_seen l) (take (c.loop-c.c-index + 1) c.args.commands.now)) (sym (ap (λ s. s.keys) w.stands-is))
            (stands_more c.args.commands.now c.loop-c.c-index c.c-item.result names c.loop-c-test.true c.c-item.is c.loop-c.invariant.stands
            (map stand_seen w.insert.new.self.keys) s says
            (λ t. inserted eq_stand stand_seen eq_stand-Decides c.loop-c.stands.keys w.insert.new.self.keys w.in-Some.stand t w.in_ok-insert-in-Some.ensures.keys))
        | in-None w ↦
            subst (λ (l : List stands.Stand). Stands (map stand_seen l) (take (c.loop-c.c-index + 1) c.args.commands.now)) (sym (ap (λ s. s.keys) w.stands-is))
            (stands_same c.args.commands.now c.loop-c.c-index c.c-item.result names c.loop-c-test.true c.c-item.is c.loop-c.invariant.stands
            (sym c.stand_of.ensures ∙ ap (option_map stand_seen) w.in-None.is))
      ];
      once = once_more c.args.commands.now c.loop-c.c-index c.c-item.result names c.loop-c-test.true c.c-item.is c.loop-c.invariant.stands c.loop-c.invariant.once none;
    }

pub returns : goal.returns
returns c = subst StandOnce (take_all c.loop-c.c-index c.args.commands.now c.loop-c-test.false) c.loop-c.invariant.once
