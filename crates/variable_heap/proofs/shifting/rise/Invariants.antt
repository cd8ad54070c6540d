use Rattle.std.proofs.Common.{◌+◌, ◌<◌, set, length}
use Rattle.variable_heap.specs.Heaps.{IsInverse, HaveSamePlaced, IsOrderedButUp}
use Rattle.variable_heap.proofs.shifting.rise.Given as goal

abbrev pub invariant-loop-place : goal.invariant-loop-place
invariant-loop-place l = record {
  within : l.place < length l.vars;
  inverse : IsInverse (set l.vars l.place l.var) (set l.places l.var (l.place + 1));
  same : HaveSamePlaced (set l.initial.places l.var (l.initial.place + 1)) (set l.places l.var (l.place + 1));
  order : IsOrderedButUp l.activity (set l.initial.vars l.initial.place l.var) l.initial.place →
      IsOrderedButUp l.activity (set l.vars l.place l.var) l.place;
}

abbrev pub decreases-loop-place : goal.decreases-loop-place
decreases-loop-place l = l.place
