use Rattle.std.proofs.Common.{◌≡◌, ◌++◌, List, reverse, sym, ap, ◌∙◌, arith}
use Rattle.std.proofs.lemmas.List.{get_or_default}
use Rattle.graph_flow.specs.declared.arcs.Arc.{Arc}
use Rattle.graph_flow.specs.declared.search.Mark.TheVariants.{Unseen, After}
use Rattle.graph_flow.specs.Marks.{mark_at, depth_of, way_to, IsAfter}
use Rattle.graph_flow.proofs.Searches.{seen-node}
use Rattle.graph_flow.proofs.Marked.{way-step, arcs-step}
use Rattle.graph_flow.proofs.closure.arcs_back.Goals as goal

pub loop-at-preserved : goal.loop-at-preserved
loop-at-preserved c =
    let mark : mark_at c.args.marks.now c.loop-at.at ≡ After c.in-After.arc c.in-After.field-1 = get_or_default c.args.marks.now c.loop-at.at Unseen _ c.loop-at.invariant.within ∙ c.in-After.is in
    let after : IsAfter c.args.marks.now c.loop-at.at c.in-After.arc c.in-After.field-1 = c.requires.steps c.loop-at.at c.in-After.arc c.in-After.field-1 mark in
    let depth : depth_of (mark_at c.args.marks.now c.loop-at.at) ≡ c.in-After.field-1 = ap depth_of mark in
    record {
      within = seen-node c.args.marks.now c.in-After.arc.tail after.tail;
      arcs = c.loop-at.invariant.arcs
          ∙ arcs-step c.args.marks.now c.loop-at.at c.in-After.arc c.loop-at.back.items (way-step c.args.marks.now c.requires.steps c.loop-at.at c.in-After.arc c.in-After.field-1 mark)
          ∙ ap (λ (xs : List Arc). way_to c.args.marks.now c.in-After.arc.tail ++ reverse xs) (sym c.in_ok-push.ensures.items);
      steps = omega (arith, after.step, depth, c.loop-at.invariant.steps, c.in_ok-push.ensures.len);
    }
