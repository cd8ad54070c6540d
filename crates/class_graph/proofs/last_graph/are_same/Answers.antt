use Rattle.std.proofs.Common.{arith}
use Rattle.std.proofs.lemmas.List.{same_lists}
use Rattle.class_graph.proofs.LastGraphs.{more_same}
use Rattle.class_graph.proofs.last_graph.are_same.Goals as goal

pub loop-place-preserved : goal.loop-place-preserved
loop-place-preserved c =
    more_same c.args.one.now c.args.other.now c.loop-place.place _ _ (omega arith) (omega arith)
    (c.is_same.ensures c.if-not-is_same.false) c.loop-place.invariant

pub returns : goal.returns
returns c t = same_lists c.args.one.now c.args.other.now (omega arith) (λ k d less. c.loop-place.invariant k (omega (arith, less)) d)
