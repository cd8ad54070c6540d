use Rattle.std.proofs.Common.{◌≡◌, ◌≤◌, ◌-◌, vec_len}
use Rattle.graph_flow.specs.Marks.{IsSearch}
use Rattle.graph_flow.specs.SearchedArcs.{arcs_by}
use Rattle.graph_flow.proofs.search.Search.seek.Given as goal

abbrev pub invariant-loop-looked : goal.invariant-loop-looked
invariant-loop-looked l = record {
  search : IsSearch (arcs_by l.ways l.g.arcs) l.from l.self.marks.items l.self.queue.items l.count l.looked;
  within : l.looked ≤ l.count;
  marks : vec_len l.self.marks ≡ l.g.nodes;
  queue : vec_len l.self.queue ≡ l.g.nodes;
}

abbrev pub decreases-loop-looked : goal.decreases-loop-looked
decreases-loop-looked l = l.g.nodes - l.looked
