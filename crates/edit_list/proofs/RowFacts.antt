-- Lists that go together row by row.
use Rattle.std.proofs.Common.{◌≡◌, ℕ, ◌+◌, ◌<◌, ◌==◌, cond, Some, List, [], ◌∷◌, length, get_or, map, refl, sym, ◌∙◌, ap, subst, arith, ◌≢◌, inl, inr}
use Rattle.std.specs.Prelude.{All, AllPairs, slice_get, count_by}
use Rattle.std.proofs.lemmas.List.{get_or-map, length-map, same_lists}
use Rattle.std.proofs.lemmas.List.Sums.{sum_by-cons}
use Rattle.std.proofs.lemmas.Option.{slice_get_within, slice_get-get_or, get_or_from_slice_get}
use Rattle.arc_base.specs.Numbered.{EachRow}
use Rattle.std.proofs.lemmas.Bool.{cases_lt}

-- an item has one place where no two are the same
pub one_place : {X : Type 0} (xs : List X) (i j : ℕ) (x : X) → AllPairs (λ x y. x ≢ y) xs → slice_get xs i ≡ Some x → slice_get xs j ≡ Some x → i ≡ j
one_place xs i j x apart at_i at_j =
    let in_i : i < length xs = slice_get_within xs i x at_i in
    let in_j : j < length xs = slice_get_within xs j x at_j in
    let read_i : get_or xs i x ≡ x = get_or_from_slice_get xs i x x at_i in
    let read_j : get_or xs j x ≡ x = get_or_from_slice_get xs j x x at_j in
    elim (cases_lt i j) [
      | inl h ↦ absurd (apart i j x h in_j (read_i ∙ sym read_j))
      | inr h ↦ elim (cases_lt j i) [
        | inl g ↦ absurd (apart j i x g in_i (read_j ∙ sym read_i))
        | inr g ↦ omega (arith, h, g)
      ]
    ]

pub item_of : {X : Type 0} (xs : List X) (k : ℕ) → k < length xs → (x : X) × (slice_get xs k ≡ Some x)
item_of [] k l = absurd (omega (arith, l))
item_of (x ∷ xs) k l = (get_or (x ∷ xs) k x, slice_get-get_or (x ∷ xs) k x l)

module _ {X Y : Type 0} (H : ℕ → X → Y → Type 0) (xs : List X) (ys : List Y) (rows : EachRow H xs ys) where
  -- the row that was here, and the one that is here now
  pub row_was : (k : ℕ) (y : Y) → slice_get ys k ≡ Some y → (x : X) × (slice_get xs k ≡ Some x) × H k x y
  row_was k y at = let i = item_of xs k (omega (arith, slice_get_within ys k y at, rows.whole)) in (i.0, i.1, rows.each k i.0 y i.1 at)

  pub row_now : (k : ℕ) (x : X) → slice_get xs k ≡ Some x → (y : Y) × (slice_get ys k ≡ Some y) × H k x y
  row_now k x at = let i = item_of ys k (omega (arith, slice_get_within xs k x at, rows.whole)) in (i.0, i.1, rows.each k x i.0 at i.1)

  pub rows_all : (P : X → Type 0) (Q : Y → Type 0) → ((k : ℕ) (x : X) (y : Y) → H k x y → P x → Q y) → All P xs → All Q ys
  rows_all P Q f all k d l =
      let r = row_was k (get_or ys k d) (slice_get-get_or ys k d l) in
      f k r.0 (get_or ys k d) r.2 (subst P (get_or_from_slice_get xs k r.0 r.0 r.1) (all k r.0 (slice_get_within xs k r.0 r.1)))

  pub rows_pairs : (R : X → X → Type 0) (S : Y → Y → Type 0) → ((i j : ℕ) (x z : X) (y w : Y) → H i x y → H j z w → R x z → S y w) → AllPairs R xs → AllPairs S ys
  rows_pairs R S f all i j d l m =
      let a = row_was i (get_or ys i d) (slice_get-get_or ys i d (omega (arith, l, m))) in
      let b = row_was j (get_or ys j d) (slice_get-get_or ys j d m) in
      let pair : R (get_or xs i a.0) (get_or xs j a.0) = all i j a.0 l (slice_get_within xs j b.0 b.1) in
      let first : get_or xs i a.0 ≡ a.0 = get_or_from_slice_get xs i a.0 a.0 a.1 in
      let second : get_or xs j a.0 ≡ b.0 = get_or_from_slice_get xs j b.0 a.0 b.1 in
      f i j a.0 b.0 (get_or ys i d) (get_or ys j d) a.2 b.2 (subst (λ (z : X). R a.0 z) second (subst (λ (x : X). R x (get_or xs j a.0)) first pair))

  pub rows_map : {Z : Type 0} (f : X → Z) (g : Y → Z) → ((k : ℕ) (x : X) (y : Y) → H k x y → g y ≡ f x) → map g ys ≡ map f xs
  rows_map {Z} f g same = same_lists (map g ys) (map f xs) (length-map ys g ∙ rows.whole ∙ sym (length-map xs f)) at_each
    where
      at_each : (k : ℕ) (d : Z) → k < length (map g ys) → get_or (map g ys) k d ≡ get_or (map f xs) k d
      at_each k d l =
          let within : k < length ys = omega (arith, l, length-map ys g) in
          let i = item_of ys k within in
          let r = row_was k i.0 i.1 in
          let there : k < length xs = slice_get_within xs k r.0 r.1 in
          get_or-map g ys k i.0 d within ∙ ap g (get_or_from_slice_get ys k i.0 i.0 i.1) ∙ same k r.0 i.0 r.2 ∙ ap f (sym (get_or_from_slice_get xs k r.0 r.0 r.1))
          ∙ sym (get_or-map f xs k r.0 d there)

-- how many have a number depends on the numbers alone
pub count_numbers : {X : Type 0} (f : X → ℕ) (number : ℕ) (xs : List X) → count_by (λ x. f x == number) xs ≡ count_by (λ n. n == number) (map f xs)
count_numbers f number [] = refl
count_numbers f number (x ∷ xs) =
    sum_by-cons (λ y. cond (f y == number) 1 0) x xs ∙ ap (λ n. cond (f x == number) 1 0 + n) (count_numbers f number xs) ∙ sym (sum_by-cons (λ n. cond (n == number) 1 0) (f x) (map f xs))
