use Rattle.graph_flow.proofs.Risings.{AreBelow}
use Rattle.graph_flow.proofs.needed.links_of.Given as goal

abbrev pub invariant-loop-unit : goal.invariant-loop-unit
invariant-loop-unit l = AreBelow l.units l.unit-index l.links
