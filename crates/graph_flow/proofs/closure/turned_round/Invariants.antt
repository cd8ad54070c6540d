use Rattle.std.proofs.Common.{◌≡◌, ◌<◌, ◌+◌, ◌++◌, ◌^◌, length, reverse, vec_len}
use Rattle.graph_flow.specs.Paths.{links_of}
use Rattle.graph_flow.proofs.closure.turned_round.Given as goal

abbrev pub invariant-loop-arc : goal.invariant-loop-arc
invariant-loop-arc l = record {
  links : l.links ++ links_of (reverse l.back.items) ≡ links_of (reverse l.fn.back.items);
  few : length l.links + vec_len l.back < 2 ^ 32;
}

abbrev pub decreases-loop-arc : goal.decreases-loop-arc
decreases-loop-arc l = vec_len l.back
