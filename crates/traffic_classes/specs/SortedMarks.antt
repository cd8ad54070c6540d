-- Marks that are sorted, so that those inside a prefix are together.
use Rattle.std.specs.Prelude.{List}
use Rattle.std.specs.List.Sorted.{IsNonDecreasingBy, IsStableByKey}
use Rattle.std.specs.Ordering.{nat_cmp}
use Rattle.arc_base.specs.declared.prefix.Prefix.{Prefix}

-- these are the marks by their first addresses, those with one first address in their order
pub record AreSorted (marks sorted : List Prefix) : Type 0 where
  pub rising : IsNonDecreasingBy (λ p. p.addr) sorted
  pub same : IsStableByKey (λ p. p.addr) nat_cmp marks sorted
