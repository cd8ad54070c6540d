use Rattle.std.proofs.Common.{◌≡◌, vec_len}
use Rattle.graph_flow.specs.Answers.{rows_of}
use Rattle.graph_flow.proofs.Extracts.{IsTaking}
use Rattle.graph_flow.proofs.units.into_paths.Given as goal

abbrev pub invariant-loop-link : goal.invariant-loop-link
invariant-loop-link l = record {
  taking : IsTaking l.g.arcs l.s l.t l.initial.units l.units (rows_of l.paths) l.link;
  marks : vec_len l.search.marks ≡ l.g.nodes;
  queue : vec_len l.search.queue ≡ l.g.nodes;
}
