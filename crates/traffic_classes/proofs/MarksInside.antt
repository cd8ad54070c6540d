-- Of the marks of a prefix only those that lie inside it count, and they begin inside it.
use Rattle.std.proofs.Common.{◌≡◌, ℕ, ◌+◌, ◌-◌, ◌<◌, ◌≤◌, ◌↔◌, Bool, not, ◌&&◌, IsTrue, inl, inr, List, length, get_or, take, drop, filter, sym, ◌∙◌, ap, subst, arith}
use Rattle.std.specs.Prelude.{Contains}
use Rattle.std.specs.declared.cmp.Ordering.{Ordering}
use Rattle.std.specs.List.Sorted.{IsPartitionPoint, ties}
use Rattle.std.specs.Ordering.{nat_cmp, is_lt}
use Rattle.std.proofs.lemmas.Bool.{cases_lt}
use Rattle.std.proofs.lemmas.Cmp.{tied_itself, nat_cmp_total}
use Rattle.std.proofs.lemmas.List.{get_or-take, get_or-drop, length-take-le, length-drop}
use Rattle.arc_base.specs.Addresses.{Holds, IsInside, size}
use Rattle.arc_base.specs.declared.prefix.Prefix.{Prefix}
use Rattle.arc_base.proofs.Agreement.{Holds-first}
use Rattle.arc_base.proofs.Items.{Contains-filter, from_filter}
use Rattle.traffic_classes.specs.Leaves.{IsSplit, IsLeaf, AreLeaves}
use Rattle.traffic_classes.specs.SortedMarks.{AreSorted}
use Rattle.traffic_classes.proofs.Ranges.{range_holds}

abbrev pub first_address : Prefix → ℕ
first_address p = p.addr

-- those that begin where this one does
abbrev tie_with : Prefix → Prefix → Bool
tie_with = ties (λ (a b : Prefix). is_lt (nat_cmp a.addr b.addr))

tied : (p : Prefix) → IsTrue (tie_with p p)
tied p = ap (λ (o : Ordering). not (is_lt o) && not (is_lt o)) (tied_itself nat_cmp_total p.addr)

moved : (one other : List Prefix) (p : Prefix) → filter (tie_with p) one ≡ filter (tie_with p) other → Contains one p → Contains other p
moved one other p same h = (from_filter (tie_with p) other p (subst (λ (xs : List Prefix). Contains xs p) same (Contains-filter (tie_with p) one p h (tied p)))).0

-- the first points come before the later ones
pub points_rise : (sorted : List Prefix) (low high start end : ℕ) → low ≤ high → start ≤ length sorted →
    IsPartitionPoint (λ (p : Prefix). p.addr < low) (λ p. low ≤ p.addr) sorted start → IsPartitionPoint (λ (p : Prefix). p.addr < high) (λ p. high ≤ p.addr) sorted end → start ≤ end
points_rise sorted low high start end le within first last = elim (cases_lt end start) [
  | inl above ↦
      let d : Prefix = record { addr = 0; len = 0; in_range = omega arith; length = omega arith; clear = omega arith } in
      let small : (get_or sorted end d).addr < low = first.0 end d (omega arith) above in
      let great : high ≤ (get_or sorted end d).addr = last.1 end d (omega arith) (omega (arith, above, within)) in
      absurd (omega (arith, small, great, le))
  | inr is ↦ is
]

module _ (sorted : List Prefix) (start end : ℕ) (order : start ≤ end) (within : end ≤ length sorted) where
  abbrev between : List Prefix
  between = take (end - start) (drop start sorted)

  many : length between ≡ end - start
  many =
      let rest : length (drop start sorted) ≡ length sorted - start = length-drop start sorted in
      length-take-le (end - start) (drop start sorted) (omega (arith, rest, within, order))

  at : (k : ℕ) (d : Prefix) → k < end - start → get_or between k d ≡ get_or sorted (start + k) d
  at k d less = get_or-take (end - start) (drop start sorted) k d less ∙ get_or-drop start sorted k d

  pub part_of : (p : Prefix) → Contains between p → Contains sorted p
  part_of p h =
      let less : h.0 < end - start = omega (arith, h.1, many) in
      (start + h.0, omega (arith, less, within, order), sym (at h.0 p less) ∙ h.2)

  pub inside_of : (whole : Prefix) (low high : ℕ) → low ≡ whole.addr → high ≡ whole.addr + size whole →
      IsPartitionPoint (λ (p : Prefix). p.addr < low) (λ p. low ≤ p.addr) sorted start → IsPartitionPoint (λ (p : Prefix). p.addr < high) (λ p. high ≤ p.addr) sorted end →
      (p : Prefix) → Contains sorted p → Holds whole p.addr → Contains between p
  inside_of whole low high low_is high_is first last p h holds =
      let k : ℕ = h.0 in
      let here : k < length sorted = h.1 in
      let is : (get_or sorted k p).addr ≡ p.addr = ap first_address h.2 in
      let range : (whole.addr ≤ p.addr) × (p.addr < whole.addr + size whole) = range_holds whole p.addr holds in
      let from : start ≤ k = elim (cases_lt k start) [
        | inl below ↦ let under : (get_or sorted k p).addr < low = first.0 k p (omega arith) below in absurd (omega (arith, under, is, range.0, low_is))
        | inr above ↦ above
      ] in
      let to : k < end = elim (cases_lt k end) [
        | inl below ↦ below
        | inr above ↦ let over : high ≤ (get_or sorted k p).addr = last.1 k p above here in absurd (omega (arith, over, is, range.1, high_is))
      ] in
      let place : start + (k - start) ≡ k = omega (arith, from) in
      (k - start, omega (arith, many, from, to), at (k - start) p (omega (arith, from, to)) ∙ ap (λ (n : ℕ). get_or sorted n p) place ∙ h.2)

-- what splits a part of the whole is one of the marks that begin inside the whole
module _ (marks some : List Prefix) (whole : Prefix) (part : (p : Prefix) → Contains some p → Contains marks p) (inside : (p : Prefix) → Contains marks p → Holds whole p.addr → Contains some p) where
  more_split : (p : Prefix) → IsSplit some p → IsSplit marks p
  more_split p s = record { mark = s.mark; one = part s.mark s.one; inside = s.inside }

  some_split : (p : Prefix) → IsInside p whole → IsSplit marks p → IsSplit some p
  some_split p h s = record {
    mark = s.mark;
    one = inside s.mark s.one (h s.mark.addr (s.inside.part s.mark.addr (Holds-first s.mark)));
    inside = s.inside;
  }

  same_leaf : (p : Prefix) → IsLeaf some whole p ↔ IsLeaf marks whole p
  same_leaf p = (
    λ leaf. record {
      part = leaf.part;
      unsplit = λ s. leaf.unsplit (some_split p leaf.part s);
      largest = λ q strict h. more_split q (leaf.largest q strict h);
    },
    λ leaf. record {
      part = leaf.part;
      unsplit = λ s. leaf.unsplit (more_split p s);
      largest = λ q strict h. some_split q h (leaf.largest q strict h);
    },
  )

  pub same_leaves : (leaves : List Prefix) → AreLeaves some whole leaves → AreLeaves marks whole leaves
  same_leaves leaves are = record {
    rising = are.rising;
    each = λ p. (λ h. (same_leaf p).0 ((are.each p).0 h), λ leaf. (are.each p).1 ((same_leaf p).1 leaf));
  }

-- the leaves under the marks that begin inside are those under all marks
pub sorted_leaves : (marks sorted some : List Prefix) (whole : Prefix) (leaves : List Prefix) → AreSorted marks sorted →
    ((p : Prefix) → Contains some p → Contains sorted p) → ((p : Prefix) → Contains sorted p → Holds whole p.addr → Contains some p) → AreLeaves some whole leaves → AreLeaves marks whole leaves
sorted_leaves marks sorted some whole leaves are part inside leaf =
    same_leaves marks some whole (λ p h. moved sorted marks p (are.same p) (part p h)) (λ p h holds. inside p (moved marks sorted p (sym (are.same p)) h) holds) leaves leaf
