-- What the fields of a heap mean, and what is kept true of them.
use Rattle.std.specs.Prelude.{◌≡◌, ◌^◌, ◌≤◌, length, slice_index, vec_capacity}
use Rattle.variable_heap.specs.declared.heap.VariableHeap.TheInside.{Inside}
use Rattle.variable_heap.specs.Heaps.{Heap, IsInverse}

-- the heap that the fields mean
abbrev pub heap : Inside → Heap
heap h = record { vars = h.vars.items; limit = length h.places.items }

-- the places are those of the variables, 0 is none of them, and there is room for all
pub record IsKept (h : Inside) : Type 0 where
  pub inverse : IsInverse h.vars.items h.places.items
  pub zero : slice_index h.places.items 0 ≡ 0
  pub room : length h.places.items ≤ vec_capacity h.vars
  pub few : length h.places.items ≤ 2 ^ 25
