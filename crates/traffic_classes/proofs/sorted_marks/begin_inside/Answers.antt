use Rattle.std.proofs.Common.{◌≤◌, arith}
use Rattle.traffic_classes.proofs.MarksInside.{points_rise, part_of, inside_of}
use Rattle.traffic_classes.proofs.sorted_marks.begin_inside.Goals as goal

pub returns-clause-part : goal.returns-clause-part
returns-clause-part c =
    let order : c.count_before-start.result ≤ c.count_before-end.result =
    points_rise c.args.sorted.now _ _ c.count_before-start.result c.count_before-end.result (omega (arith, c.from.ensures, c.end_of.ensures)) c.count_before-start.ensures.within
    c.count_before-start.ensures.point c.count_before-end.ensures.point in
    part_of c.args.sorted.now c.count_before-start.result c.count_before-end.result order c.count_before-end.ensures.within

pub returns-clause-inside : goal.returns-clause-inside
returns-clause-inside c =
    let order : c.count_before-start.result ≤ c.count_before-end.result =
    points_rise c.args.sorted.now _ _ c.count_before-start.result c.count_before-end.result (omega (arith, c.from.ensures, c.end_of.ensures)) c.count_before-start.ensures.within
    c.count_before-start.ensures.point c.count_before-end.ensures.point in
    inside_of c.args.sorted.now c.count_before-start.result c.count_before-end.result order c.count_before-end.ensures.within c.args.whole.now c.from.result c.end_of.result
    c.from.ensures c.end_of.ensures c.count_before-start.ensures.point c.count_before-end.ensures.point
