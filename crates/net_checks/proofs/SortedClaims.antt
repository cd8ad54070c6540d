-- Sorted claims of which each is linked to or apart from the next two are all so.
use Rattle.std.proofs.Common.{◌≡◌, ◌≢◌, ℕ, ◌+◌, ◌<◌, ◌≤◌, ◌⊎◌, inl, inr, List, length, get_or, set, refl, sym, ◌∙◌, ap, subst, arith, Bool, true, false, MatchBool, IsTrue, ◌↔◌}
use Rattle.std.specs.Prelude.{AllPairs}
use Rattle.std.specs.List.{swap}
use Rattle.std.specs.List.Sorted.{IsNonDecreasingBy, IsPermutation}
use Rattle.std.proofs.lemmas.Bool.{cases_lt, false≢true}
use Rattle.std.proofs.lemmas.Bool.Decides.{eqb_tells}
use Rattle.std.proofs.lemmas.List.{get_or-set_same, get_or-set_other, length-set}
use Rattle.std.proofs.lemmas.List.Edits.{length-swap, swap_is}
use Rattle.std.proofs.lemmas.List.Sorted.{IsPermutation-keeps, IsPermutation-sym}
use Rattle.net_checks.specs.declared.claims.Claim.{Claim}
use Rattle.net_checks.specs.Claims.{AreLinkedOrApart, AreOfPartners}
use Rattle.net_checks.specs.Sorting.{ArePacked}
use Rattle.net_checks.proofs.Ranges.{past, disjoint_from_order, order_from_disjoint}

abbrev pub addr_of : Claim → ℕ
addr_of claim = claim.subnet.addr

-- two claims are of two interfaces, and the one is the other's partner both ways
abbrev pub OfPartners : Claim → Claim → Type 0
OfPartners x y = (x.place ≢ y.place) × (x.partner ≡ y.place → y.partner ≡ x.place) × (y.partner ≡ x.place → x.partner ≡ y.place)

-- a claim that begins inside another one is that of its partner, or the other ends before it
early : (x y : Claim) → x.subnet.addr ≤ y.subnet.addr → y.subnet.addr < past x.subnet → AreLinkedOrApart x y → x.partner ≡ y.place
early x y order inside (inl partner) = partner
early x y order inside (inr disjoint) = absurd (omega (arith, inside, order_from_disjoint x.subnet y.subnet order disjoint))

module _ (xs : List Claim) (sorted : IsNonDecreasingBy addr_of xs) (partners : AreOfPartners xs) (packed : ArePacked xs) where
  is_free : (i j : ℕ) (d : Claim) → i < j → j < length xs → AreLinkedOrApart (get_or xs i d) (get_or xs j d)
  is_free i j d l m = elim (eqb_tells (get_or xs i d).partner (get_or xs j d).place) [
    | inl partner ↦ inl partner.1
    | inr other ↦ elim (cases_lt (get_or xs j d).subnet.addr (past (get_or xs i d).subnet)) [
      | inr after ↦ inr (disjoint_from_order (get_or xs i d).subnet (get_or xs j d).subnet after)
      | inl inside ↦ elim (cases_lt (i + 1) j) [
        | inr next ↦
            let same : j ≡ i + 1 = omega (arith, l, next) in
            packed i j d l (omega (arith, same)) m
        | inl further ↦
            let in_1 : i + 1 < length xs = omega (arith, further, m) in
            let in_2 : i + 2 < length xs = omega (arith, further, m) in
            let before_1 : (get_or xs (i + 1) d).subnet.addr ≤ (get_or xs j d).subnet.addr = sorted (i + 1) j d (omega (arith, further)) m in
            let before_2 : (get_or xs (i + 2) d).subnet.addr ≤ (get_or xs j d).subnet.addr = by_two further in
            let first : (get_or xs i d).partner ≡ (get_or xs (i + 1) d).place =
            early (get_or xs i d) (get_or xs (i + 1) d) (sorted i (i + 1) d (omega arith) in_1) (omega (arith, before_1, inside)) (packed i (i + 1) d (omega arith) (omega arith) in_1) in
            let second : (get_or xs i d).partner ≡ (get_or xs (i + 2) d).place =
            early (get_or xs i d) (get_or xs (i + 2) d) (sorted i (i + 2) d (omega arith) in_2) (omega (arith, before_2, inside)) (packed i (i + 2) d (omega arith) (omega arith) in_2) in
            absurd ((partners (i + 1) (i + 2) d (omega arith) in_2).0 (sym first ∙ second))
      ]
    ]
  ]
    where
      by_two : i + 1 < j → (get_or xs (i + 2) d).subnet.addr ≤ (get_or xs j d).subnet.addr
      by_two further = elim (cases_lt (i + 2) j) [
        | inl later ↦ sorted (i + 2) j d (omega (arith, later)) m
        | inr here ↦
            let same : i + 2 ≡ j = omega (arith, further, here) in
            subst (λ (k : ℕ). (get_or xs (i + 2) d).subnet.addr ≤ (get_or xs k d).subnet.addr) same (omega arith)
      ]

  pub all_free : AllPairs AreLinkedOrApart xs
  all_free i j d l m = is_free i j d l m

pub packed_from_claims : (xs : List Claim) → AllPairs AreLinkedOrApart xs → ArePacked xs
packed_from_claims xs all i j d l close m = all i j d l m

-- where an item of a list after a swap stood before
abbrev How : ℕ → ℕ → ℕ → ℕ → Type 0
How i j k old = ((k ≡ j) × (old ≡ i)) ⊎ (((k ≢ j) × (k ≡ i) × (old ≡ j)) ⊎ ((k ≢ j) × (k ≢ i) × (old ≡ k)))

record StoodAt {X : Type 0} (xs : List X) (i j k : ℕ) (d : X) : Type 0 where
  pub old : ℕ
  pub within : old < length xs
  pub is : get_or (swap xs i j) k d ≡ get_or xs old d
  pub how : How i j k old

stood : {X : Type 0} (xs : List X) (i j k : ℕ) (d : X) → i < length xs → j < length xs → k < length xs → StoodAt xs i j k d
stood {X} xs i j k d in_i in_j in_k =
    let as_sets : swap xs i j ≡ set (set xs i (get_or xs j d)) j (get_or xs i d) = sym (swap_is xs i j d in_i in_j) in
    let long : j < length (set xs i (get_or xs j d)) = omega (arith, length-set xs i (get_or xs j d)) in
    let read : get_or (swap xs i j) k d ≡ get_or (set (set xs i (get_or xs j d)) j (get_or xs i d)) k d = ap (λ (l : List X). get_or l k d) as_sets in
    elim (eqb_tells k j) [
      | inl at_j ↦ record {
        old = i;
        within = in_i;
        is = read ∙ ap (λ n. get_or (set (set xs i (get_or xs j d)) j (get_or xs i d)) n d) at_j.1 ∙ get_or-set_same (set xs i (get_or xs j d)) j (get_or xs i d) d long;
        how = inl (at_j.1, refl);
      }
      | inr not_j ↦
          let other : get_or (swap xs i j) k d ≡ get_or (set xs i (get_or xs j d)) k d = read ∙ get_or-set_other (set xs i (get_or xs j d)) j k (get_or xs i d) d not_j.1 in
          elim (eqb_tells k i) [
            | inl at_i ↦ record {
              old = j;
              within = in_j;
              is = other ∙ ap (λ n. get_or (set xs i (get_or xs j d)) n d) at_i.1 ∙ get_or-set_same xs i (get_or xs j d) d in_i;
              how = inr (inl (not_j.1, at_i.1, refl));
            }
            | inr not_i ↦ record {
              old = k;
              within = in_k;
              is = other ∙ get_or-set_other xs i k (get_or xs j d) d not_i.1;
              how = inr (inr (not_j.1, not_i.1, refl));
            }
          ]
    ]

still_apart : (i j a b o p : ℕ) → a ≢ b → How i j a o → How i j b p → o ≢ p
still_apart i j a b o p n (inl (x, y)) (inl (u, v)) e = n (x ∙ sym u)
still_apart i j a b o p n (inl (x, y)) (inr (inl (u, v, w))) e = u (v ∙ sym y ∙ e ∙ w)
still_apart i j a b o p n (inl (x, y)) (inr (inr (u, v, w))) e = v (sym w ∙ sym e ∙ y)
still_apart i j a b o p n (inr (inl (x, y, z))) (inl (u, v)) e = x (y ∙ sym v ∙ sym e ∙ z)
still_apart i j a b o p n (inr (inl (x, y, z))) (inr (inl (u, v, w))) e = n (y ∙ sym v)
still_apart i j a b o p n (inr (inl (x, y, z))) (inr (inr (u, v, w))) e = u (sym w ∙ sym e ∙ z)
still_apart i j a b o p n (inr (inr (x, y, z))) (inl (u, v)) e = y (sym z ∙ e ∙ v)
still_apart i j a b o p n (inr (inr (x, y, z))) (inr (inl (u, v, w))) e = x (sym z ∙ e ∙ w)
still_apart i j a b o p n (inr (inr (x, y, z))) (inr (inr (u, v, w))) e = n (sym z ∙ e ∙ w)

-- a symmetric fact of all pairs, at any two places
pub either_way : {X : Type 0} (R : X → X → Type 0) → ((x y : X) → R x y → R y x) → (xs : List X) → AllPairs R xs →
    (a b : ℕ) (d : X) → a ≢ b → a < length xs → b < length xs → R (get_or xs a d) (get_or xs b d)
either_way R turn xs all a b d n l m =
    elim (cases_lt a b) [
      | inl h ↦ all a b d h m
      | inr h ↦ turn (get_or xs b d) (get_or xs a d) (all b a d (omega arith) l)
    ]

swapped : {X : Type 0} (R : X → X → Type 0) → ((x y : X) → R x y → R y x) → (xs : List X) (i j : ℕ) → i < length xs → j < length xs → AllPairs R xs → AllPairs R (swap xs i j)
swapped {X} R turn xs i j in_i in_j all a b d l m =
    let in_b : b < length xs = omega (arith, length-swap xs i j, m) in
    let in_a : a < length xs = omega arith in
    let at_a : StoodAt xs i j a d = stood xs i j a d in_i in_j in_a in
    let at_b : StoodAt xs i j b d = stood xs i j b d in_i in_j in_b in
    let differ : a ≢ b = λ e. omega (arith, e, l) in
    subst (λ (y : X). R (get_or (swap xs i j) a d) y) (sym at_b.is)
    (subst (λ (x : X). R x (get_or xs at_b.old d)) (sym at_a.is)
    (either_way R turn xs all at_a.old at_b.old d (still_apart i j a b at_a.old at_b.old differ at_a.how at_b.how) at_a.within at_b.within))

-- a symmetric fact of all pairs holds when the items are in another order
pub AllPairs-permutation : {X : Type 0} (R : X → X → Type 0) → ((x y : X) → R x y → R y x) → (xs ys : List X) → IsPermutation xs ys → AllPairs R xs → AllPairs R ys
AllPairs-permutation R turn xs ys moved all =
    IsPermutation-keeps xs (AllPairs R) all (λ l i j in_i in_j h. swapped R turn l i j in_i in_j h) ys moved

-- claims that are linked or apart, of which the one is the other's partner both ways
abbrev LinkedOrApartBothWays : Claim → Claim → Type 0
LinkedOrApartBothWays x y = AreLinkedOrApart x y × OfPartners x y

turn_partners : (x y : Claim) → OfPartners x y → OfPartners y x
turn_partners x y h = (λ e. h.0 (sym e), h.2, h.1)

turn_both : (x y : Claim) → LinkedOrApartBothWays x y → LinkedOrApartBothWays y x
turn_both x y (free, partners) = (turned free, turn_partners x y partners)
  where
    turned : AreLinkedOrApart x y → AreLinkedOrApart y x
    turned (inl partner) = inl (partners.1 partner)
    turned (inr disjoint) = inr (λ a in_y in_x. disjoint a in_x in_y)

-- the answer on the neighbours of the sorted claims is that on all pairs
pub free_by_sorting : (xs ys : List Claim) (answer : Bool) → IsPermutation xs ys → IsNonDecreasingBy addr_of ys → AreOfPartners xs → (IsTrue answer ↔ ArePacked ys) →
    MatchBool answer (AllPairs AreLinkedOrApart xs) (¬ AllPairs AreLinkedOrApart xs)
free_by_sorting xs ys true moved sorted partners says =
    let partners_sorted : AreOfPartners ys = AllPairs-permutation OfPartners turn_partners xs ys moved partners in
    let free_sorted : AllPairs AreLinkedOrApart ys = all_free ys sorted partners_sorted (says.0 refl) in
    let both : AllPairs LinkedOrApartBothWays xs = AllPairs-permutation LinkedOrApartBothWays turn_both ys xs (IsPermutation-sym xs ys moved)
    (λ i j d l m. (free_sorted i j d l m, partners_sorted i j d l m)) in
    λ i j d l m. (both i j d l m).0
free_by_sorting xs ys false moved sorted partners says =
    λ all.
    let both : AllPairs LinkedOrApartBothWays ys = AllPairs-permutation LinkedOrApartBothWays turn_both xs ys moved (λ i j d l m. (all i j d l m, partners i j d l m)) in
    false≢true (says.1 (packed_from_claims ys (λ i j d l m. (both i j d l m).0)))
