use Rattle.std.proofs.Common.{ap, ◌∙◌}
use Rattle.graph_flow.specs.declared.arcs.LinkRow2.{LinkRow2}
use Rattle.verdicts.proofs.Pushes.{path_more}
use Rattle.verdicts.proofs.reach.paths_of.Goals as goal

pub loop-row-preserved : goal.loop-row-preserved
loop-row-preserved c =
    path_more c.slice-row-items.result.now c.loop-row.row-index c.row-item.result c.loop-row-test.true c.loop-row.paths c.push.new.self c.in_ok-links.links
    c.loop-row.invariant (c.in_ok-links.ensures ∙ ap (λ (r : LinkRow2). r.links) c.row-item.is) c.in_ok-push.ensures.ok
