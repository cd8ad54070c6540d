use Rattle.std.proofs.Common.{◌≡◌, drop}
use Rattle.graph_flow.specs.Residual.{cleared}
use Rattle.graph_flow.proofs.units.clear.Given as goal

abbrev pub invariant-loop-link : goal.invariant-loop-link
invariant-loop-link l = cleared l.units (drop l.link-index l.links) ≡ cleared l.initial.units l.links
