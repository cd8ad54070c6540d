-- The leaves of a prefix under marks. Marks are prefixes that traffic is told apart by; a leaf is
-- as large as it can be without holding a mark beside other addresses.
use Rattle.std.specs.Prelude.{◌<◌, ◌↔◌, ◌&&◌, nat_lt, Bool, List, filter, AllPairs, Contains}
use Rattle.arc_base.specs.Addresses.{IsInside, inside}
use Rattle.arc_base.specs.declared.prefix.Prefix.{Prefix}

-- the one prefix lies strictly inside the other: it is a part of it, and longer
pub record IsStrictlyInside (p q : Prefix) : Type 0 where
  pub part : IsInside p q
  pub longer : q.len < p.len

-- the marks split the prefix: one of them lies strictly inside it
pub record IsSplit (marks : List Prefix) (p : Prefix) : Type 0 where
  pub mark : Prefix
  pub one : Contains marks mark
  pub inside : IsStrictlyInside mark p

-- the prefix is a leaf of the whole: one of the largest prefixes inside the whole that the marks do
-- not split
pub record IsLeaf (marks : List Prefix) (whole leaf : Prefix) : Type 0 where
  pub part : IsInside leaf whole
  pub unsplit : ¬ IsSplit marks leaf
  pub largest : (p : Prefix) → IsStrictlyInside leaf p → IsInside p whole → IsSplit marks p

-- the list has the leaves of the whole, and nothing else, in rising order of their addresses
pub record AreLeaves (marks : List Prefix) (whole : Prefix) (leaves : List Prefix) : Type 0 where
  pub rising : AllPairs (λ p q. p.addr < q.addr) leaves
  pub each : (p : Prefix) → Contains leaves p ↔ IsLeaf marks whole p

-- whether the prefix lies strictly inside the whole, as a test on their bits
abbrev pub is_strictly_inside : Prefix → Prefix → Bool
is_strictly_inside whole p = inside p whole && nat_lt whole.len p.len

-- the marks that lie strictly inside the whole
abbrev pub inner_marks : Prefix → List Prefix → List Prefix
inner_marks whole marks = filter (is_strictly_inside whole) marks
