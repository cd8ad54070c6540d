use Rattle.std.proofs.Common.{◌≡◌, take}
use Rattle.graph_flow.specs.Flows.{links_out, flagged}
use Rattle.graph_flow.proofs.disjoint_paths.links_out.Given as goal

abbrev pub invariant-loop-unit : goal.invariant-loop-unit
invariant-loop-unit l = l.links ≡ links_out (take l.unit-index l.units) (flagged l.side)
