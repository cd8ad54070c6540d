use Rattle.std.proofs.Common.{◌≡◌}
use Rattle.graph_flow.specs.Flows.{IsFlow, IsMadeFor, leaving}
use Rattle.graph_flow.proofs.disjoint_paths.fill.Given as goal

abbrev pub invariant-loop-grown : goal.invariant-loop-grown
invariant-loop-grown l = record {
  room : IsMadeFor l.g l.flow;
  flow : IsFlow l.g.arcs l.s l.t (leaving l.flow.units l.s) l.flow.units;
  count : leaving l.flow.units l.s ≡ l._grown;
}
