use Rattle.std.proofs.Common.{◌≡◌, ℕ, ◌+◌, ◌<◌, ◌≤◌, length, get_or, vec_capacity}
use Rattle.variable_heap.proofs.heap.VariableHeap.make.Given as goal

abbrev pub invariant-loop-var : goal.invariant-loop-var
invariant-loop-var l = record {
  size : length l.heap.items + 1 ≡ l.var;
  counted : length l.places.items ≡ l.var;
  each : (k : ℕ) → k < length l.heap.items → get_or l.heap.items k 0 ≡ k + 1;
  place : (k : ℕ) → k < length l.places.items → get_or l.places.items k 0 ≡ k;
  room : l.fn.vars + 1 ≤ vec_capacity l.heap;
}
