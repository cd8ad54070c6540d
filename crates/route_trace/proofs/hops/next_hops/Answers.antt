use Rattle.std.proofs.Common.{◌≡◌, []}
use Rattle.std.proofs.lemmas.Result.{IfOk-weaker}
use Rattle.route_trace.specs.Routes.{flagged, distance_map, AreNextHops}
use Rattle.route_trace.specs.Steps.{hops_of}
use Rattle.route_trace.proofs.NextHops.{are_next_hops, no_route_no_hop, owner_no_hop}
use Rattle.route_trace.proofs.hops.next_hops.Goals as goal

pub returns-clause-exact : goal.returns-clause-exact
returns-clause-exact c =
    IfOk-weaker c.hops.result (λ links. links ≡ hops_of c.deref.result.now (distance_map c.slice.result.now) c.args.at.0)
    (AreNextHops c.args.net.now c.args.to (flagged c.args.down.now) (distance_map c.args.dist.now) c.args.at.0)
    (λ links e. are_next_hops c.args.net.now c.args.to (flagged c.args.down.now) c.in_ok-steps.steps.items c.in_ok-steps.ensures.exact c.args.dist.now c.args.at.0
    c.deref.result.now c.slice.result.now links c.deref.ensures.value c.slice.ensures.items e)
    c.hops.ensures

pub returns-clause-owner : goal.returns-clause-owner
returns-clause-owner c = λ owns.
    IfOk-weaker c.hops.result (AreNextHops c.args.net.now c.args.to (flagged c.args.down.now) (distance_map c.args.dist.now) c.args.at.0) (λ links. links ≡ [])
    (λ links are. owner_no_hop c.args.net.now c.requires.valid c.args.to (flagged c.args.down.now) c.args.dist.now c.args.at.0 links c.requires.stable owns are)
    (returns-clause-exact c)

pub returns-clause-none : goal.returns-clause-none
returns-clause-none c = λ none.
    IfOk-weaker c.hops.result (AreNextHops c.args.net.now c.args.to (flagged c.args.down.now) (distance_map c.args.dist.now) c.args.at.0) (λ links. links ≡ [])
    (λ links are. no_route_no_hop c.args.net.now c.args.to (flagged c.args.down.now) (distance_map c.args.dist.now) c.args.at.0 links are none)
    (returns-clause-exact c)
