use Rattle.std.proofs.Common.{◌≡◌, List, sym, ap, ◌∙◌}
use Rattle.std.proofs.lemmas.List.{get_or_default}
use Rattle.graph_flow.specs.declared.arcs.Arc.{Arc}
use Rattle.graph_flow.specs.declared.search.Mark.TheVariants.{Unseen, After}
use Rattle.graph_flow.specs.Flows.{Units}
use Rattle.graph_flow.specs.Residual.{sent}
use Rattle.graph_flow.specs.Marks.{mark_at, way_to, IsAfter}
use Rattle.graph_flow.proofs.Turns.{sent-snoc}
use Rattle.graph_flow.proofs.Searches.{seen-node}
use Rattle.graph_flow.proofs.Marked.{way-step}
use Rattle.graph_flow.proofs.flow.send.Goals as goal

pub loop-at-preserved : goal.loop-at-preserved
loop-at-preserved c =
    let mark : mark_at c.args.marks.now c.loop-at.at ≡ After c.in-After.arc c.in-After.field-1 = get_or_default c.args.marks.now c.loop-at.at Unseen _ c.loop-at.invariant.within ∙ c.in-After.is in
    let after : IsAfter c.args.marks.now c.loop-at.at c.in-After.arc c.in-After.field-1 = c.requires.steps c.loop-at.at c.in-After.arc c.in-After.field-1 mark in
    record {
      within = seen-node c.args.marks.now c.in-After.arc.tail after.tail;
      units = ap (λ (units : Units). sent units (way_to c.args.marks.now c.in-After.arc.tail)) c.turn.ensures
          ∙ sym (sent-snoc c.loop-at.units (way_to c.args.marks.now c.in-After.arc.tail) c.in-After.arc)
          ∙ ap (λ (way : List Arc). sent c.loop-at.units way) (sym (way-step c.args.marks.now c.requires.steps c.loop-at.at c.in-After.arc c.in-After.field-1 mark))
          ∙ c.loop-at.invariant.units;
    }
