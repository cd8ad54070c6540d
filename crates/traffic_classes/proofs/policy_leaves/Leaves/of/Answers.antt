use Rattle.std.proofs.Common.{sym, subst}
use Rattle.traffic_classes.specs.SortedMarks.{AreSorted}
use Rattle.traffic_classes.proofs.MarksInside.{sorted_leaves}
use Rattle.traffic_classes.proofs.policy_leaves.Leaves.of.Goals as goal

pub returns-clause-sources : goal.returns-clause-sources
returns-clause-sources c =
    sorted_leaves c.args.marks.now.sources.items c.deref.result.now c.begin_inside-from.result.now c.args.policy.now.from c.in_ok-sources.sources
    (subst (AreSorted c.args.marks.now.sources.items) (sym c.deref.ensures.value) c.args.marks.now.sorted_sources)
    c.begin_inside-from.ensures.part c.begin_inside-from.ensures.inside c.in_ok-sources.ensures

pub returns-clause-destinations : goal.returns-clause-destinations
returns-clause-destinations c =
    sorted_leaves c.args.marks.now.destinations.items c.deref-2.result.now c.begin_inside-to.result.now c.args.policy.now.to c.in_ok-destinations.destinations
    (subst (AreSorted c.args.marks.now.destinations.items) (sym c.deref-2.ensures.value) c.args.marks.now.sorted_destinations)
    c.begin_inside-to.ensures.part c.begin_inside-to.ensures.inside c.in_ok-destinations.ensures
