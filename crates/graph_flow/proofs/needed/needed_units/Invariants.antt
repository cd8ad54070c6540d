use Rattle.std.proofs.Common.{◌≡◌, ◌<◌, All, length, reverse, vec_len}
use Rattle.graph_flow.specs.Residual.{residual}
use Rattle.graph_flow.specs.Marks.{IsSearch}
use Rattle.graph_flow.proofs.Needs.{Walked}
use Rattle.graph_flow.proofs.needed.needed_units.Given as goal

abbrev pub invariant-loop-arc : goal.invariant-loop-arc
invariant-loop-arc l = record {
  walked : Walked l.g.arcs l.s l.t l.carried.items l.needed.items (reverse l.back.items);
  search : IsSearch (residual l.carried.items l.g.arcs) l.s l.search.marks.items l.search.queue.items l.count l.count;
  room : All (λ arc. arc.link.0 < length l.needed.items) l.g.arcs;
  marks : vec_len l.search.marks ≡ l.g.nodes;
  queue : vec_len l.search.queue ≡ l.g.nodes;
}

abbrev pub decreases-loop-arc : goal.decreases-loop-arc
decreases-loop-arc l = vec_len l.back
