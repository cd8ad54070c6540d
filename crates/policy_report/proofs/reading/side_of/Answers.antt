use Rattle.std.proofs.Common.{arith, map, sym, ◌∙◌, length, ◌<◌}
use Rattle.std.proofs.lemmas.List.{length-map}
use Rattle.std.proofs.lemmas.Bool.{false≢true}
use Rattle.policy_report.proofs.NamedRouters.{named_next, unnamed_next, name_left}
use Rattle.policy_report.proofs.reading.side_of.Goals as goal
use Rattle.policy_report.proofs.reading.side_of.Goals.{then-named, else-named}

pub loop-router-preserved : goal.loop-router-preserved
loop-router-preserved c =
    elim c.if-named.branch [
      | then-named w ↦ rw w.next-is
          (named_next c.args.routers.now (map (λ name. name.now) c.args.names.now) c.loop-router.side.items c.push.new.self.items c.loop-router.router-index c.loop-router.next
          c.router-item.result _ (omega arith) c.router-item.is c.loop-router.invariant (c.is_named-named.ensures.0 w.if-named.true) (rw w.if-named.true at c.in_ok-push.ensures.items))
      | else-named w ↦ rw w.next-is
          (unnamed_next c.args.routers.now (map (λ name. name.now) c.args.names.now) c.loop-router.side.items c.push.new.self.items c.loop-router.router-index c.loop-router.next
          c.router-item.result _ (omega arith) c.router-item.is c.loop-router.invariant (λ e. false≢true (sym w.if-named.false ∙ c.is_named-named.ensures.1 e))
          (rw w.if-named.false at c.in_ok-push.ensures.items))
    ]

pub returns-then-next-names : goal.returns-then-next-names
returns-then-next-names c =
    let left : c.loop-router.next < length (map (λ name. name.now) c.args.names.now) = omega (arith, length-map c.args.names.now (λ name. name.now)) in
    name_left c.args.routers.now (map (λ name. name.now) c.args.names.now) c.loop-router.side.items c.loop-router.router-index c.loop-router.next _ (omega arith) left c.loop-router.invariant
