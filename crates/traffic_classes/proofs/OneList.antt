-- A prefix has one list of leaves. Its addresses are those of the leaves, and so is their number.
use Rattle.std.proofs.Common.{◌≡◌, ℕ, zero, suc, ◌+◌, ◌<◌, ◌≤◌, inl, inr, List, [], ◌∷◌, ◌++◌, refl, ◌∙◌, subst, arith}
use Rattle.std.specs.Prelude.{Contains, sum_by}
use Rattle.std.proofs.lemmas.List.Sums.{sum_by-append, sum_by-cons}
use Rattle.std.proofs.lemmas.List.Elements.{Contains-append_left, Contains-append_right}
use Rattle.arc_base.specs.Addresses.{Holds, size}
use Rattle.arc_base.specs.declared.prefix.Prefix.{Prefix}
use Rattle.traffic_classes.specs.Leaves.{IsSplit, AreLeaves, inner_marks}
use Rattle.traffic_classes.specs.Halves.{IsLowerHalf, IsUpperHalf}
use Rattle.arc_base.proofs.Items.{Contains-head}
use Rattle.traffic_classes.proofs.Rising.{same_rising}
use Rattle.traffic_classes.proofs.Ranges.{lower, upper, lower_half, upper_half}
use Rattle.traffic_classes.proofs.Splits.{split_short, split_inner, unsplit_inner, some_inner, sizes, in_one}
use Rattle.traffic_classes.proofs.HalvesLeaves.{single, joined}

pub same_leaves : (marks : List Prefix) (whole : Prefix) (xs ys : List Prefix) → AreLeaves marks whole xs → AreLeaves marks whole ys → xs ≡ ys
same_leaves marks whole xs ys one two =
    same_rising (λ (p : Prefix). p.addr) xs ys one.rising two.rising (λ p h. (two.each p).1 ((one.each p).0 h)) (λ p h. (one.each p).1 ((two.each p).0 h))

-- one of the prefixes holds the address
pub record HasAddress (leaves : List Prefix) (a : ℕ) : Type 0 where
  pub leaf : Prefix
  pub one : Contains leaves leaf
  pub holds : Holds leaf a

-- the leaves of a prefix, with what they add up to
pub record Tiles (marks : List Prefix) (whole : Prefix) : Type 0 where
  pub leaves : List Prefix
  pub are : AreLeaves marks whole leaves
  pub sizes_sum : sum_by size leaves ≡ size whole
  pub cover : (a : ℕ) → Holds whole a → HasAddress leaves a

one_tile : (marks : List Prefix) (whole : Prefix) → ¬ IsSplit marks whole → Tiles marks whole
one_tile marks whole unsplit = record {
  leaves = whole ∷ [];
  are = single marks whole unsplit;
  sizes_sum = sum_by-cons size whole [] ∙ (omega arith);
  cover = λ a h. record { leaf = whole; one = Contains-head whole []; holds = h };
}

two_tiles : (marks : List Prefix) (whole l u : Prefix) → IsSplit marks whole → IsLowerHalf l whole → IsUpperHalf u whole → Tiles marks l → Tiles marks u → Tiles marks whole
two_tiles marks whole l u split low high one two = record {
  leaves = one.leaves ++ two.leaves;
  are = joined marks whole l u split low high one.leaves two.leaves one.are two.are;
  sizes_sum = omega (arith, sum_by-append size one.leaves two.leaves, one.sizes_sum, two.sizes_sum, sizes whole l u low high);
  cover = λ a h. elim (in_one whole l u low high a h) [
    | inl in_l ↦ let t : HasAddress one.leaves a = one.cover a in_l in
        record { leaf = t.leaf; one = Contains-append_left one.leaves two.leaves t.leaf t.one; holds = t.holds }
    | inr in_u ↦ let t : HasAddress two.leaves a = two.cover a in_u in
        record { leaf = t.leaf; one = Contains-append_right one.leaves two.leaves t.leaf t.one; holds = t.holds }
  ];
}

by_marks : (n : ℕ) (marks : List Prefix) (whole : Prefix) → ((p : Prefix) → 32 < p.len + n → Tiles marks p) → (inner : List Prefix) →
    inner_marks whole marks ≡ inner → 32 < whole.len + suc n → Tiles marks whole
by_marks n marks whole next [] e h = one_tile marks whole (unsplit_inner marks whole e)
by_marks n marks whole next (m ∷ rest) e h =
    let split : IsSplit marks whole = split_inner marks whole whole (some_inner marks whole m rest e) in
    let short : whole.len < 32 = split_short marks whole split in
    let low : IsLowerHalf (lower whole short) whole = lower_half whole short in
    let high : IsUpperHalf (upper whole short) whole = upper_half whole short in
    two_tiles marks whole (lower whole short) (upper whole short) split low high
    (next (lower whole short) (omega (arith, low.length, h)))
    (next (upper whole short) (omega (arith, high.length, h)))

tiles_in : (n : ℕ) (marks : List Prefix) (whole : Prefix) → 32 < whole.len + n → Tiles marks whole
tiles_in zero marks whole h = let few : whole.len ≤ 32 = whole.length in absurd (omega (arith, few, h))
tiles_in (suc n) marks whole h = by_marks n marks whole (tiles_in n marks) (inner_marks whole marks) refl h

pub tiles : (marks : List Prefix) (whole : Prefix) → Tiles marks whole
tiles marks whole = tiles_in 33 marks whole (omega arith)

-- each address of the prefix is one of a leaf
pub leaf_holds : (marks : List Prefix) (whole : Prefix) (leaves : List Prefix) → AreLeaves marks whole leaves → (a : ℕ) → Holds whole a → HasAddress leaves a
leaf_holds marks whole leaves are a h =
    let t : Tiles marks whole = tiles marks whole in
    subst (λ (l : List Prefix). HasAddress l a) (same_leaves marks whole t.leaves leaves t.are are) (t.cover a h)

-- the leaves have as many addresses as the prefix
pub leaf_sizes : (marks : List Prefix) (whole : Prefix) (leaves : List Prefix) → AreLeaves marks whole leaves → sum_by size leaves ≡ size whole
leaf_sizes marks whole leaves are =
    let t : Tiles marks whole = tiles marks whole in
    subst (λ (l : List Prefix). sum_by size l ≡ size whole) (same_leaves marks whole t.leaves leaves t.are are) t.sizes_sum
