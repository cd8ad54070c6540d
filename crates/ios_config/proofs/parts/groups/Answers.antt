use Rattle.std.proofs.Common.{◌≡◌, ◌++◌, ◌∷◌, [], take, true, false, not, Bool, List, Vec, set, get_or, sym, ◌∙◌, ap, subst}
use Rattle.std.specs.List.{list_any}
use Rattle.std.specs.declared.alloc.Global.{Global}
use denote.Ref.{Bor}
use Rattle.std.proofs.lemmas.List.{map-append}
use Rattle.ios_config.specs.declared.commands.FileCommand.{FileCommand}
use Rattle.ios_config.specs.Seen.{commands_seen, group_list}
use Rattle.ios_config.proofs.Keys.{eq_part}
use Rattle.ios_config.proofs.Grouping.{joins, begins, grouped}
use Rattle.ios_config.proofs.parts.groups.Goals as goal
use Rattle.ios_config.proofs.parts.groups.Goals.{then-new+in_ok-push, else-new}

-- a test that is the other of another
other : (a b : Bool) → a ≡ not b → b ≡ not a
other a true e = sym (ap not e)
other a false e = sym (ap not e)

pub loop-command-preserved : goal.loop-command-preserved
loop-command-preserved c =
    let cs = take c.loop-command.command-index c.args.commands.now in
    let k = c.command-item.result in
    let ks = c.loop-command.parts.keys in
    let ls = c.insert_full.new.self.keys in
    let gs = c.loop-command.groups.items in
    let hs = c.add.new.groups.items in
    let found : list_any (eq_part c.part_of.result) ks ≡ not c.in_ok-place.new = other c.in_ok-place.new (list_any (eq_part c.part_of.result) ks) c.in_ok-place.ensures.added in
    grouped c.args.commands.now c.loop-command.command-index k c.loop-command-test.true c.command-item.is ls hs
    (elim c.if-new.branch [
      | then-new+in_ok-push w ↦
          begins cs k ks ls c.part_of.result gs c.loop-command.invariant c.part_of.ensures c.in_ok-place.ensures.keys
          c.if-new.groups.items hs c.in_ok-place.place c.in_ok-place.ensures.index (found ∙ ap not w.if-new.true)
          (ap (λ (v : Vec (Vec (Bor FileCommand) Global) Global). group_list v.items) w.groups-is ∙ ap group_list w.in_ok-push.ensures.items ∙
          map-append (λ (g : Vec (Bor FileCommand) Global). commands_seen g.items) gs (w.new.result ∷ []) ∙
          ap (λ (l : List (Bor FileCommand)). group_list gs ++ commands_seen l ∷ []) w.new.ensures.items)
          c.in_ok-add.ensures
      | else-new w ↦
          joins cs k ks ls c.part_of.result gs c.loop-command.invariant c.part_of.ensures c.in_ok-place.ensures.keys
          hs c.in_ok-place.place c.in_ok-place.ensures.index (found ∙ ap not w.if-new.false)
          (subst (λ (v : Vec (Vec (Bor FileCommand) Global) Global). group_list hs ≡ set (group_list v.items) c.in_ok-place.place
          (get_or (group_list v.items) c.in_ok-place.place [] ++ k ∷ [])) w.groups-is c.in_ok-add.ensures)
    ])
