-- Lists in which no item stands twice.
use Rattle.std.proofs.Common.{◌≡◌, ℕ, ◌+◌, ◌<◌, inl, inr, List, [], ◌∷◌, ◌++◌, length, get_or, Some, refl, sym, ◌∙◌, ap, subst, arith, zero, suc}
use Rattle.std.specs.Prelude.{AllPairs, Contains, slice_get}
use Rattle.std.proofs.lemmas.Bool.{cases_lt}
use Rattle.std.proofs.lemmas.List.{get_or_default, get_or_append_left, get_or-append-add, get_or_at, length-append}
use Rattle.std.proofs.lemmas.Option.{get_or_from_slice_get, slice_get_within, slice_get-get_or}
use Rattle.arc_base.specs.Lists.{AreDistinct}

pub item_at : {X : Type 0} (xs : List X) (k : ℕ) → k < length xs → (x : X) × (slice_get xs k ≡ Some x)
item_at [] k h = absurd (omega (arith, h))
item_at (x ∷ xs) zero h = (x, refl)
item_at (x ∷ xs) (suc k) h = item_at xs k (omega arith)

-- what holds of all pairs holds of those in front
pub AllPairs-front : {X : Type 0} (R : X → X → Type 0) (xs ys : List X) → AllPairs R (xs ++ ys) → AllPairs R xs
AllPairs-front {X} R xs ys all i j d l m =
    let long : j < length (xs ++ ys) = omega (arith, length-append xs ys) in
    let at_i : get_or (xs ++ ys) i d ≡ get_or xs i d = get_or_append_left xs ys d i (omega arith) in
    let at_j : get_or (xs ++ ys) j d ≡ get_or xs j d = get_or_append_left xs ys d j m in
    subst (λ (b : X). R (get_or xs i d) b) at_j (subst (λ (a : X). R a (get_or (xs ++ ys) j d)) at_i (all i j d l long))

-- an item that stands in front does not stand again
pub AreDistinct-twice : {X : Type 0} (xs : List X) (x : X) (ys : List X) → Contains xs x → AreDistinct (xs ++ x ∷ ys) → ⊥
AreDistinct-twice xs x ys (k, l, e) distinct =
    let long : length xs < length (xs ++ x ∷ ys) = omega (arith, length-append xs (x ∷ ys)) in
    distinct k (length xs) x l long (get_or_append_left xs (x ∷ ys) x k l ∙ e ∙ sym (get_or_at xs x ys x (length xs) refl))

-- each item has one place
pub one_place : {X : Type 0} (xs : List X) (i j : ℕ) (x : X) → AreDistinct xs → slice_get xs i ≡ Some x → slice_get xs j ≡ Some x → i ≡ j
one_place xs i j x distinct at_i at_j =
    let in_i : i < length xs = slice_get_within xs i x at_i in
    let in_j : j < length xs = slice_get_within xs j x at_j in
    let read_i : get_or xs i x ≡ x = get_or_from_slice_get xs i x x at_i in
    let read_j : get_or xs j x ≡ x = get_or_from_slice_get xs j x x at_j in
    elim (cases_lt i j) [
      | inl h ↦ absurd (distinct i j x h in_j (read_i ∙ sym read_j))
      | inr h ↦ elim (cases_lt j i) [
        | inl g ↦ absurd (distinct j i x g in_i (read_j ∙ sym read_i))
        | inr g ↦ omega arith
      ]
    ]

-- what stands at a place is in the list
pub Contains-at : {X : Type 0} (xs : List X) (k : ℕ) (x : X) → slice_get xs k ≡ Some x → Contains xs x
Contains-at xs k x e = (k, slice_get_within xs k x e, get_or_from_slice_get xs k x x e)

-- and what is in the list stands at a place
pub at_Contains : {X : Type 0} (xs : List X) (x : X) → Contains xs x → (k : ℕ) × (slice_get xs k ≡ Some x)
at_Contains xs x (k, l, e) = (k, slice_get-get_or xs k x l ∙ ap Some e)

-- what holds of all pairs holds of those behind, and between the two parts
pub AllPairs-back : {X : Type 0} (R : X → X → Type 0) (xs ys : List X) → AllPairs R (xs ++ ys) → AllPairs R ys
AllPairs-back {X} R xs ys all i j d l m =
    let long : length xs + j < length (xs ++ ys) = omega (arith, length-append xs ys) in
    subst (λ (b : X). R (get_or ys i d) b) (get_or-append-add xs ys j d)
    (subst (λ (a : X). R a (get_or (xs ++ ys) (length xs + j) d)) (get_or-append-add xs ys i d) (all (length xs + i) (length xs + j) d (omega arith) long))

pub AllPairs-between : {X : Type 0} (R : X → X → Type 0) (xs ys : List X) (x y : X) → AllPairs R (xs ++ ys) → Contains xs x → Contains ys y → R x y
AllPairs-between {X} R xs ys x y all (i, l, e) (j, m, f) =
    let long : length xs + j < length (xs ++ ys) = omega (arith, length-append xs ys) in
    let at_x : get_or (xs ++ ys) i x ≡ x = get_or_append_left xs ys x i l ∙ e in
    let at_y : get_or (xs ++ ys) (length xs + j) x ≡ y = get_or-append-add xs ys j x ∙ get_or_default ys j x y m ∙ f in
    subst (λ (b : X). R x b) at_y (subst (λ (a : X). R a (get_or (xs ++ ys) (length xs + j) x)) at_x (all i (length xs + j) x (omega arith) long))
