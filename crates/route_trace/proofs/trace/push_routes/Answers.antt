use Rattle.std.proofs.Common.{◌≡◌, ◌<◌, ◌∙◌, arith}
use Rattle.route_trace.specs.declared.steps.End.TheVariants.{Tail}
use Rattle.route_trace.specs.Routes.{distance_map}
use Rattle.route_trace.specs.Steps.{hops_of, steps_at}
use Rattle.route_trace.proofs.GroupedSteps.{group_read}
use Rattle.route_trace.proofs.TraceLines.{hops_of_group, line_more}
use Rattle.route_trace.proofs.trace.push_routes.Goals as goal

pub loop-place-preserved : goal.loop-place-preserved
loop-place-preserved c =
    let inside : c.loop-place.place < c.len-routers.result = omega arith in
    let group : c.deref.result.now ≡ steps_at Tail c.args.steps.now c.loop-place.place =
    group_read Tail c.args.steps.now c.len-routers.result c.loop-place.place c.in_ok-groups.groups.items c.index.result.now c.deref.result.now c.in_ok-groups.ensures
    inside c.index.ensures c.deref.ensures.value in
    line_more c.args.net.now c.args.distances.now (hops_of c.args.steps.now (distance_map c.args.distances.now)) c.loop-place.place c.args.text.now.items
    c.loop-place.text.items c.push_line.new.text.items c.router_name.result.now c.distance_of-distance.result c.slice.result.now c.loop-place.invariant
    c.in_ok-push_line.ensures c.router_name.ensures c.distance_of-distance.ensures
    (c.slice.ensures.items ∙ c.in_ok-hops.ensures ∙ hops_of_group c.args.steps.now (distance_map c.args.distances.now) c.loop-place.place c.deref.result.now group)
