-- The links of a generated network: a ring of its routers, and half as many links across it. All
-- numbers are from 1 on.
use Rattle.std.specs.Prelude.{ℕ, ◌+◌, ◌-◌, ◌/◌, ◌%◌, ◌==◌, ◌||◌, nat_le, Bool, List, length, filter}
use Rattle.std.specs.Prelude.{if◌then◌else◌}
use Rattle.std.specs.List.{range_with_len}

-- the numbers from 1 to n
abbrev pub numbers : ℕ → List ℕ
numbers n = range_with_len 1 n

-- how many links join n routers: one from each router to the next around the ring, and one across
-- it from each of the first half
abbrev pub link_count : ℕ → ℕ
link_count n = n + n / 2

-- the router after this one around the ring
abbrev pub next : ℕ → ℕ → ℕ
next n router = router % n + 1

-- the router at the link's end a
abbrev pub a_router : ℕ → ℕ → ℕ
a_router n link = if nat_le link n then link else link - n

-- the router at its end b: the next around the ring, or the one across it
abbrev pub b_router : ℕ → ℕ → ℕ
b_router n link = if nat_le link n then next n link else link - n + n / 2

-- whether the link has an end at the router
abbrev pub has_end : ℕ → ℕ → ℕ → Bool
has_end n router link = a_router n link == router || b_router n link == router

-- the number of the router's interface over the link, since its interfaces are numbered in the
-- order of their links
abbrev pub port : ℕ → ℕ → ℕ → ℕ
port n router link = length (filter (has_end n router) (numbers link))
