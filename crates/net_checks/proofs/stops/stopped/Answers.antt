use Rattle.std.proofs.Common.{subst}
use Rattle.arc_base.specs.declared.place.Face.{Face}
use Rattle.net_checks.specs.FarEnds.{FindsOnly}
use Rattle.net_checks.specs.Stopping.{IsRefusalAt}
use Rattle.net_checks.proofs.StopsEnds.{stops_here}
use Rattle.net_checks.proofs.stops.stopped.Goals as goal

pub returns : goal.returns
returns c =
    stops_here c.args.net.now c.args.configs.now c.args.link.now c.args.from_a c.in_ok-tail.tail.now c.in_ok-head.head.now (c.stops_between.ensures.0 c.if-not-stops_between.false)
    c.refusal_at.result (subst (λ (f : Face). FindsOnly (IsRefusalAt c.args.configs.now f.0) c.refusal_at.result) c.head-2.ensures c.refusal_at.ensures)
