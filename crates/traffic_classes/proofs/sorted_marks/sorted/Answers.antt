use Rattle.std.proofs.Common.{◌≡◌, List, subst, rules}
use Rattle.std.specs.List.Sorted.{IsNonDecreasingBy, IsStableByKey}
use Rattle.std.specs.Ordering.{nat_cmp}
use Rattle.std.proofs.lemmas.Fn.{always_returns_same}
use Rattle.std.proofs.lemmas.List.Sorted.{IsNonDecreasingBy-from_sort_by_key}
use Rattle.arc_base.specs.declared.prefix.Prefix.{Prefix}
use Rattle.traffic_classes.proofs.MarksInside.{first_address}
use Rattle.traffic_classes.proofs.sorted_marks.sorted.Goals as goal

pub returns : goal.returns
returns c =
    let rising : IsNonDecreasingBy first_address c.sort_by_key.new.self.items =
    IsNonDecreasingBy-from_sort_by_key first_address c.sort_by_key.new.self.items c.in_ok-sort_by_key.ensures.sorted (λ a r q k. search rules) in
    let same : IsStableByKey first_address nat_cmp c.in_ok-sorted.sorted.items c.sort_by_key.new.self.items =
    c.sort_by_key.ensures.stable first_address (always_returns_same _ (λ a r. r ≡ first_address a.0.now) _ (λ a r q k. search rules)) in
    record {
      rising = rising;
      same = subst (λ (xs : List Prefix). IsStableByKey first_address nat_cmp xs c.sort_by_key.new.self.items) (c.in_ok-sorted.ensures.items_if_clones_equal (λ x y e. e)) same;
    }
