use Rattle.std.proofs.Common.{◌+◌, ◌-◌, ◌<◌, set, length}
use Rattle.variable_heap.specs.Heaps.{IsInverse, HaveSamePlaced, IsOrderedButDown}
use Rattle.variable_heap.proofs.shifting.sink.Given as goal

abbrev pub invariant-loop-below : goal.invariant-loop-below
invariant-loop-below l = record {
  within : l.place < length l.vars;
  inverse : IsInverse (set l.vars l.place l.var) (set l.places l.var (l.place + 1));
  same : HaveSamePlaced (set l.initial.places l.var 1) (set l.places l.var (l.place + 1));
  order : IsOrderedButDown l.activity (set l.initial.vars 0 l.var) 0 →
      IsOrderedButDown l.activity (set l.vars l.place l.var) l.place;
}

abbrev pub decreases-loop-below : goal.decreases-loop-below
decreases-loop-below l = length l.vars - l.place
