-- Lists without an item, whose place the last one takes.
use Rattle.std.proofs.Common.{◌≡◌, ◌≢◌, ℕ, ◌+◌, ◌-◌, ◌<◌, ◌==◌, inl, inr, List, [], length, get_or, set, take, map, All, AllPairs, Some, eq-eqb, ne_eqb, refl, sym, ap, ◌∙◌, subst, arith}
use Rattle.std.specs.List.{slice_get, swap_remove}
use Rattle.std.proofs.lemmas.Bool.{cases_eq, cases_order, cond-true, cond-false}
use Rattle.std.proofs.lemmas.List.{get_or-take, get_or-set_same, get_or-set_other, length-take-le, length-set, length-map, get_or-map, take-map, map-set}
use Rattle.std.proofs.lemmas.Option.{slice_get-get_or, slice_get_within, get_or_from_slice_get}
use Rattle.sat_core.specs.declared.numbered.Numbered.{Numbered}
use Rattle.sat_core.specs.Forgotten.{moved}
use Rattle.sat_core.proofs.Gets.{All-slice_get}

abbrev pub no_clause : Numbered
no_clause = record { id = 0; lits = [] }

pub moved-last : (last at : ℕ) → moved last at last ≡ at
moved-last last at = cond-true (last == last) at last (eq-eqb last last refl)

pub moved-other : (last at k : ℕ) → k ≢ last → moved last at k ≡ k
moved-other last at k other = cond-false (k == last) at k (ne_eqb k last other)

module _ {X : Type 0} (none : X) (xs : List X) (at : ℕ) (inside : at < length xs) where
  pub length_removed : length (swap_remove xs at none) + 1 ≡ length xs
  length_removed =
      let size : length (set xs at (get_or xs (length xs - 1) none)) ≡ length xs = length-set xs at (get_or xs (length xs - 1) none) in
      let left : length (swap_remove xs at none) ≡ length xs - 1 = length-take-le (length xs - 1) (set xs at (get_or xs (length xs - 1) none)) (omega (arith, size)) in
      omega arith

  read_here : at < length xs - 1 → get_or (swap_remove xs at none) at none ≡ get_or xs (length xs - 1) none
  read_here l = get_or-take (length xs - 1) (set xs at (get_or xs (length xs - 1) none)) at none l ∙ get_or-set_same xs at (get_or xs (length xs - 1) none) none inside

  read_other : (k : ℕ) → k < length xs - 1 → k ≢ at → get_or (swap_remove xs at none) k none ≡ get_or xs k none
  read_other k l other = get_or-take (length xs - 1) (set xs at (get_or xs (length xs - 1) none)) k none l ∙ get_or-set_other xs at k (get_or xs (length xs - 1) none) none other

  -- each clause that is left was in the list
  pub from_removed : (k : ℕ) (x : X) → slice_get (swap_remove xs at none) k ≡ Some x → (j : ℕ) × (j ≢ at) × (slice_get xs j ≡ Some x) × (k ≡ moved (length xs - 1) at j)
  from_removed k x is =
      let within : k < length (swap_remove xs at none) = slice_get_within (swap_remove xs at none) k x is in
      let value : get_or (swap_remove xs at none) k none ≡ x = get_or_from_slice_get (swap_remove xs at none) k x none is in
      let below : k < length xs - 1 = omega (arith, length_removed) in
      elim (cases_eq k at) [
        | inl same ↦
            let here : at < length xs - 1 = omega arith in
            let read : get_or xs (length xs - 1) none ≡ x = sym (read_here here) ∙ ap (λ (n : ℕ). get_or (swap_remove xs at none) n none) (sym same) ∙ value in
            (length xs - 1, (λ e. omega (arith, e)), slice_get-get_or xs (length xs - 1) none (omega arith) ∙ ap (λ (y : X). Some y) read, same ∙ sym (moved-last (length xs - 1) at))
        | inr other ↦
            (k, other, slice_get-get_or xs k none (omega arith) ∙ ap (λ (y : X). Some y) (sym (read_other k below other) ∙ value), sym (moved-other (length xs - 1) at k (λ e. omega (arith, e))))
      ]

  -- each other clause stays
  pub to_removed : (j : ℕ) (x : X) → j ≢ at → slice_get xs j ≡ Some x → slice_get (swap_remove xs at none) (moved (length xs - 1) at j) ≡ Some x
  to_removed j x other is =
      let within : j < length xs = slice_get_within xs j x is in
      let value : get_or xs j none ≡ x = get_or_from_slice_get xs j x none is in
      elim (cases_eq j (length xs - 1)) [
        | inl same ↦
            let here : at < length xs - 1 = elim (cases_eq at (length xs - 1)) [ inl e ↦ absurd (other (same ∙ sym e)) | inr o ↦ omega (arith, o) ] in
            let read : get_or (swap_remove xs at none) at none ≡ x = read_here here ∙ ap (λ (n : ℕ). get_or xs n none) (sym same) ∙ value in
            ap (λ (n : ℕ). slice_get (swap_remove xs at none) (moved (length xs - 1) at n)) same ∙ ap (λ (n : ℕ). slice_get (swap_remove xs at none) n) (moved-last (length xs - 1) at)
            ∙ slice_get-get_or (swap_remove xs at none) at none (omega (arith, length_removed)) ∙ ap (λ (y : X). Some y) read
        | inr before ↦
            let below : j < length xs - 1 = omega (arith, before) in
            ap (λ (n : ℕ). slice_get (swap_remove xs at none) n) (moved-other (length xs - 1) at j before)
            ∙ slice_get-get_or (swap_remove xs at none) j none (omega (arith, length_removed)) ∙ ap (λ (y : X). Some y) (read_other j below other ∙ value)
      ]

  pub all_removed : (P : X → Type 0) → All P xs → All P (swap_remove xs at none)
  all_removed P all k d l =
      let r = from_removed k (get_or (swap_remove xs at none) k d) (slice_get-get_or (swap_remove xs at none) k d l) in
      All-slice_get P xs r.0 (get_or (swap_remove xs at none) k d) all r.2

  pub pairs_removed : (R : X → X → Type 0) → ((x y : X) → R x y → R y x) → AllPairs R xs → AllPairs R (swap_remove xs at none)
  pairs_removed R turn pairs i j d l m =
      let ys = swap_remove xs at none in
      let r = from_removed i (get_or ys i d) (slice_get-get_or ys i d (omega arith)) in
      let t = from_removed j (get_or ys j d) (slice_get-get_or ys j d m) in
      let a : get_or xs r.0 d ≡ get_or ys i d = get_or_from_slice_get xs r.0 (get_or ys i d) d r.2 in
      let b : get_or xs t.0 d ≡ get_or ys j d = get_or_from_slice_get xs t.0 (get_or ys j d) d t.2 in
      elim (cases_order r.0 t.0) [
        | inl same ↦ absurd (omega (arith, l, r.3 ∙ ap (λ (n : ℕ). moved (length xs - 1) at n) same ∙ sym t.3))
        | inr (inl before) ↦ subst (λ (x : X). R x (get_or ys j d)) a (subst (λ (y : X). R (get_or xs r.0 d) y) b (pairs r.0 t.0 d before (slice_get_within xs t.0 (get_or ys j d) t.2)))
        | inr (inr after) ↦ turn (get_or ys j d) (get_or ys i d)
            (subst (λ (x : X). R x (get_or ys i d)) b (subst (λ (y : X). R (get_or xs t.0 d) y) a (pairs t.0 r.0 d after (slice_get_within xs r.0 (get_or ys i d) r.2))))
      ]

  -- what is seen of the items
  pub map_removed : {Y : Type 0} (f : X → Y) (y : Y) → map f (swap_remove xs at none) ≡ swap_remove (map f xs) at y
  map_removed f y =
      let n : ℕ = length xs - 1 in
      let last : X = get_or xs n none in
      let size : length (map f xs) ≡ length xs = length-map xs f in
      let seen : f last ≡ get_or (map f xs) (length (map f xs) - 1) y = sym (get_or-map f xs n none y (omega arith)) ∙ ap (λ (k : ℕ). get_or (map f xs) (k - 1) y) (sym size) in
      sym (take-map f n (set xs at last)) ∙ ap (λ ys. take n ys) (map-set f xs at last ∙ ap (λ (z : _). set (map f xs) at z) seen)
      ∙ ap (λ (k : ℕ). take (k - 1) (set (map f xs) at (get_or (map f xs) (length (map f xs) - 1) y))) (sym size)
