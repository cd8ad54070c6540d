-- The queue in which routers wait to be settled, by their distances.
use Rattle.std.specs.Prelude.{◌≡◌, ℕ, ◌≤◌, Bool, true, Option, Some, None, List, Contains, nat_lt}
use Rattle.std.specs.BinaryHeap.{IsHeap}
use Rattle.std.specs.Ordering.{nat_cmp, ordering_then}
use Rattle.std.specs.declared.cmp.Ordering.{Ordering}
use Rattle.std.specs.declared.cmp.Reverse.{Reverse}
use Rattle.net_model.specs.Routing.{DistanceMap}
use Rattle.route_trace.specs.Routes.{distance_map}
use Rattle.route_trace.specs.Steps.{waiting}

-- an entry of the queue: a distance, and the router that waits with it
abbrev pub Entry : Type 0
Entry = Reverse (ℕ × ℕ)

-- the order of the queue: the lesser distance is the greater entry
abbrev pub entry_cmp : Entry → Entry → Ordering
entry_cmp a b = ordering_then (nat_cmp b.0.0 a.0.0) (nat_cmp b.0.1 a.0.1)

-- the router of the entry has a distance, which is that of the entry or less
pub record IsLate (d : DistanceMap) (entry : Entry) : Type 0 where
  pub distance : ℕ
  pub known : d entry.0.1 ≡ Some distance
  pub low : distance ≤ entry.0.0

-- the queue has an entry for each router that waits, and each entry is that of a router with its
-- distance or one that it had before
pub record IsQueue (distances : List (Option ℕ)) (settled : List Bool)
    (entries : List Entry) : Type 0 where
  pub ordered : IsHeap entry_cmp entries
  pub each : (u n : ℕ) → waiting distances settled u ≡ Some n →
      Contains entries (record { 0 = (n, u) })
  pub late : (entry : Entry) → Contains entries entry → IsLate (distance_map distances) entry

-- whether the number is less than another, which may be missing
abbrev pub is_nearer : ℕ → Option ℕ → Bool
is_nearer n None = true
is_nearer n (Some m) = nat_lt n m
