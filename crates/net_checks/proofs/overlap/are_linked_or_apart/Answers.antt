use Rattle.std.proofs.Common.{rules, List, subst, IsTrue, ◌↔◌}
use Rattle.std.specs.List.Sorted.{IsNonDecreasingBy}
use Rattle.std.proofs.lemmas.List.Sorted.{IsNonDecreasingBy-from_sort_by_key}
use Rattle.net_checks.specs.declared.claims.Claim.{Claim}
use Rattle.net_checks.specs.Sorting.{ArePacked}
use Rattle.net_checks.proofs.SortedClaims.{addr_of, free_by_sorting}
use Rattle.net_checks.proofs.overlap.are_linked_or_apart.Goals as goal

pub returns : goal.returns
returns c =
    let sorted : IsNonDecreasingBy addr_of c.sort_by_key.new.self.items =
    IsNonDecreasingBy-from_sort_by_key addr_of c.sort_by_key.new.self.items c.in_ok-sort_by_key.ensures.sorted (λ a r q k. search rules) in
    free_by_sorting c.args.claims.items c.sort_by_key.new.self.items c.neighbours_are_linked_or_apart.result c.sort_by_key.ensures.permutation sorted c.requires
    (subst (λ (l : List Claim). IsTrue c.neighbours_are_linked_or_apart.result ↔ ArePacked l) c.deref.ensures.value c.neighbours_are_linked_or_apart.ensures)
