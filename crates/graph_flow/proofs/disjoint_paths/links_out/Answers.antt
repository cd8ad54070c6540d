use Rattle.std.proofs.Common.{◌≡◌, length, inl, inr, None, sym, ap, ◌∙◌, arith}
use Rattle.graph_flow.specs.Flows.{flagged, out_link}
use Rattle.graph_flow.proofs.Residuals.{none_or_some}
use Rattle.graph_flow.proofs.Extracts.{filter_map-some, filter_map-none, filter_map-shorter}
use Rattle.graph_flow.proofs.disjoint_paths.links_out.Goals as goal
use Rattle.graph_flow.proofs.disjoint_paths.links_out.Goals.{in-Some+in_ok-push, in_default}

pub push-requires : goal.push-requires
push-requires c =
    omega (arith, ap length c.loop-unit.invariant, filter_map-shorter (out_link (flagged c.args.side.now)) c.args.units.now c.loop-unit.unit-index, c.requires.few)

pub loop-unit-preserved : goal.loop-unit-preserved
loop-unit-preserved c = elim c.match-out_link.branch [
  | in-Some+in_ok-push w ↦ filter_map-some (out_link (flagged c.args.side.now)) c.args.units.now c.loop-unit.unit-index _ w.in-Some.link c.loop-unit.links c.match-out_link.links c.loop-unit-test.true
      c.loop-unit.invariant (w.links-is ∙ w.in_ok-push.ensures.ok) (sym w.in-Some.ensures)
  | in_default w ↦
      let none : c.out_link.result ≡ None = elim (none_or_some c.out_link.result) [ inl e ↦ e | inr (x, e) ↦ absurd (w.in_default.not-Some x e) ] in
      w.links-is ∙ filter_map-none (out_link (flagged c.args.side.now)) c.args.units.now c.loop-unit.unit-index _ c.loop-unit.links c.loop-unit-test.true c.loop-unit.invariant
      (sym c.out_link.ensures ∙ none)
]
