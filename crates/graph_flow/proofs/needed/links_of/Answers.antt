use Rattle.std.proofs.Common.{◌≡◌, ◌+◌, Some, None, inl, inr, sym, ap, ◌∙◌, subst}
use Rattle.std.specs.Prelude.{is_some}
use Rattle.std.proofs.lemmas.List.{get_or_default}
use Rattle.graph_flow.specs.Flows.{unit_at}
use Rattle.graph_flow.proofs.Residuals.{none_or_some}
use Rattle.graph_flow.proofs.Risings.{AreBelow, one-more, no-more}
use Rattle.graph_flow.proofs.needed.links_of.Goals as goal
use Rattle.graph_flow.proofs.needed.links_of.Goals.{in-Some+in_ok-add, in_default}

pub loop-unit-preserved : goal.loop-unit-preserved
loop-unit-preserved c =
    elim c.match-unit.branch [
      | in-Some+in_ok-add w ↦
          let at : unit_at c.args.units.now c.loop-unit.unit-index ≡ Some w.in-Some.arc = get_or_default c.args.units.now c.loop-unit.unit-index None _ c.loop-unit-test.true ∙ w.in-Some.is in
          one-more c.args.units.now c.loop-unit.unit-index c.loop-unit.links c.match-unit.links w.in-Some.arc.link (c.requires c.loop-unit.unit-index w.in-Some.arc at)
          (ap is_some at) (w.links-is ∙ w.in_ok-add.ensures) c.loop-unit.invariant
      | in_default w ↦
          let none : unit_at c.args.units.now c.loop-unit.unit-index ≡ None = elim (none_or_some (unit_at c.args.units.now c.loop-unit.unit-index)) [
            | inl e ↦ e
            | inr (x, e) ↦ absurd (w.in_default.not-Some x (get_or_default c.args.units.now c.loop-unit.unit-index _ None c.loop-unit-test.true ∙ e))
          ] in
          subst (AreBelow c.args.units.now (c.loop-unit.unit-index + 1)) (sym w.links-is) (no-more c.args.units.now c.loop-unit.unit-index c.loop-unit.links none c.loop-unit.invariant)
    ]
