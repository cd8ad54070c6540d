use Rattle.std.proofs.Common.{◌≡◌, ◌≤◌, vec_len}
use Rattle.graph_flow.specs.SearchedArcs.{gives}
use Rattle.graph_flow.proofs.Looks.{IsLooking}
use Rattle.graph_flow.proofs.search.Search.look.Given as goal

abbrev pub invariant-loop-arc : goal.invariant-loop-arc
invariant-loop-arc l = record {
  looking : IsLooking l.g.arcs (gives l.ways) l.from l.self.marks.items l.self.queue.items l.count l.looked l.node l.arc-items l.arc-index;
  more : l.fn.count ≤ l.count;
  marks : vec_len l.self.marks ≡ l.g.nodes;
  queue : vec_len l.self.queue ≡ l.g.nodes;
}
