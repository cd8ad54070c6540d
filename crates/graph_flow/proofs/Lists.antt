-- What stands in a list, pairs of its items, and a list without one of them.
use Rattle.std.proofs.Common.{◌≡◌, zero, suc, List, [], ◌∷◌, ◌++◌, length, All, AllPairs, Contains, filter, cond, Bool, true, false, inl, inr, ◌⊎◌, refl, sym, ap, ◌∙◌, subst, arith}
use Rattle.std.proofs.lemmas.Bool.{false≢true}
use Rattle.std.proofs.lemmas.List.Elements.{All-contains, Contains-append_right, Contains-append_cases}

pub Contains-here : {X : Type 0} (x : X) (xs : List X) → Contains (x ∷ xs) x
Contains-here x xs = (zero, omega arith, refl)

pub Contains-there : {X : Type 0} (y : X) (xs : List X) (x : X) → Contains xs x → Contains (y ∷ xs) x
Contains-there y xs x (k, l, e) = (suc k, omega arith, e)

pub Contains-none : {X : Type 0} (x : X) → Contains [] x → ⊥
Contains-none x (k, l, e) = omega arith

pub Contains-cases : {X : Type 0} (y : X) (xs : List X) (x : X) → Contains (y ∷ xs) x → (y ≡ x) ⊎ Contains xs x
Contains-cases y xs x (zero, l, e) = inl e
Contains-cases y xs x (suc k, l, e) = inr (k, omega arith, e)

pub AllPairs-nil : {X : Type 0} (R : X → X → Type 0) → AllPairs R []
AllPairs-nil R i j d l m = absurd (omega arith)

pub AllPairs-cons : {X : Type 0} (R : X → X → Type 0) (x : X) (xs : List X) → All (R x) xs → AllPairs R xs → AllPairs R (x ∷ xs)
AllPairs-cons R x xs first rest zero zero d l m = absurd (omega arith)
AllPairs-cons R x xs first rest zero (suc j) d l m = first j d (omega arith)
AllPairs-cons R x xs first rest (suc i) zero d l m = absurd (omega arith)
AllPairs-cons R x xs first rest (suc i) (suc j) d l m = rest i j d (omega arith) (omega arith)

pub AllPairs-head : {X : Type 0} (R : X → X → Type 0) (x : X) (xs : List X) → AllPairs R (x ∷ xs) → All (R x) xs
AllPairs-head R x xs p k d l = p zero (suc k) d (omega arith) (omega arith)

pub AllPairs-tail : {X : Type 0} (R : X → X → Type 0) (x : X) (xs : List X) → AllPairs R (x ∷ xs) → AllPairs R xs
AllPairs-tail R x xs p i j d l m = p (suc i) (suc j) d (omega arith) (omega arith)

-- what holds of each member holds of all
pub All-from_members : {X : Type 0} (P : X → Type 0) (xs : List X) → ((x : X) → Contains xs x → P x) → All P xs
All-from_members P [] h k d l = absurd (omega arith)
All-from_members P (x ∷ xs) h zero d l = h x (Contains-here x xs)
All-from_members P (x ∷ xs) h (suc k) d l = All-from_members P xs (λ y m. h y (Contains-there x xs y m)) k d (omega arith)

-- two members are the same or are related one way or the other
pub AllPairs-members : {X : Type 0} (R : X → X → Type 0) (xs : List X) (x y : X) → AllPairs R xs → Contains xs x → Contains xs y → (x ≡ y) ⊎ (R x y ⊎ R y x)
AllPairs-members R [] x y p a b = absurd (Contains-none x a)
AllPairs-members R (z ∷ xs) x y p a b =
    elim (Contains-cases z xs x a) [
      | inl e ↦ elim (Contains-cases z xs y b) [
        | inl f ↦ inl (sym e ∙ f)
        | inr m ↦ inr (inl (subst (λ w. R w y) e (All-contains (R z) xs y (AllPairs-head R z xs p) m)))
      ]
      | inr m ↦ elim (Contains-cases z xs y b) [
        | inl f ↦ inr (inr (subst (λ w. R w x) f (All-contains (R z) xs x (AllPairs-head R z xs p) m)))
        | inr n ↦ AllPairs-members R xs x y (AllPairs-tail R z xs p) m n
      ]
    ]

pub AllPairs-right : {X : Type 0} (R : X → X → Type 0) (xs ys : List X) → AllPairs R (xs ++ ys) → AllPairs R ys
AllPairs-right R [] ys p = p
AllPairs-right R (x ∷ xs) ys p = AllPairs-right R xs ys (AllPairs-tail R x (xs ++ ys) p)

pub AllPairs-across : {X : Type 0} (R : X → X → Type 0) (xs ys : List X) (x y : X) → AllPairs R (xs ++ ys) → Contains xs x → Contains ys y → R x y
AllPairs-across R [] ys x y p a b = absurd (Contains-none x a)
AllPairs-across R (z ∷ xs) ys x y p a b =
    elim (Contains-cases z xs x a) [
      | inl e ↦ subst (λ w. R w y) e (All-contains (R z) (xs ++ ys) y (AllPairs-head R z (xs ++ ys) p) (Contains-append_right xs ys y b))
      | inr m ↦ AllPairs-across R xs ys x y (AllPairs-tail R z (xs ++ ys) p) m b
    ]

pub AllPairs-append : {X : Type 0} (R : X → X → Type 0) (xs ys : List X) → AllPairs R xs → AllPairs R ys → ((x y : X) → Contains xs x → Contains ys y → R x y) → AllPairs R (xs ++ ys)
AllPairs-append R [] ys p q h = q
AllPairs-append R (x ∷ xs) ys p q h =
    AllPairs-cons R x (xs ++ ys)
    (All-from_members (R x) (xs ++ ys) (λ y m. elim (Contains-append_cases xs ys y m) [
      | inl a ↦ All-contains (R x) xs y (AllPairs-head R x xs p) a
      | inr b ↦ h x y (Contains-here x xs) b
    ]))
    (AllPairs-append R xs ys (AllPairs-tail R x xs p) q (λ w y a b. h w y (Contains-there x xs w a) b))

-- a list that is one item shorter and holds every other item
pub record Without {X : Type 0} (xs : List X) (x : X) : Type 0 where
  pub rest : List X
  pub shorter : length xs ≡ suc (length rest)
  pub others : (y : X) → Contains xs y → (x ≡ y → ⊥) → Contains rest y

pub without : {X : Type 0} (xs : List X) (x : X) → Contains xs x → Without xs x
without [] x m = absurd (Contains-none x m)
without (z ∷ xs) x m =
    elim (Contains-cases z xs x m) [
      | inl e ↦ record {
        rest = xs;
        shorter = refl;
        others = λ y a ne. elim (Contains-cases z xs y a) [
          | inl f ↦ absurd (ne (sym e ∙ f))
          | inr n ↦ n
        ];
      }
      | inr n ↦ let w : Without xs x = without xs x n in
          record {
            rest = z ∷ w.rest;
            shorter = ap suc w.shorter;
            others = λ y a ne. elim (Contains-cases z xs y a) [
              | inl f ↦ subst (λ q. Contains (z ∷ w.rest) q) f (Contains-here z w.rest)
              | inr b ↦ Contains-there z w.rest y (w.others y b ne)
            ];
          }
    ]

kept-here : {X : Type 0} (b : Bool) (y : X) (ys : List X) (x : X) → b ≡ true → y ≡ x → Contains (cond b (y ∷ ys) ys) x
kept-here true y ys x t e = subst (λ z. Contains (y ∷ ys) z) e (Contains-here y ys)
kept-here false y ys x t e = absurd (false≢true t)

kept-there : {X : Type 0} (b : Bool) (y : X) (ys : List X) (x : X) → Contains ys x → Contains (cond b (y ∷ ys) ys) x
kept-there true y ys x m = Contains-there y ys x m
kept-there false y ys x m = m

kept-cases : {X : Type 0} (b : Bool) (y : X) (ys : List X) (x : X) → Contains (cond b (y ∷ ys) ys) x → (y ≡ x) ⊎ Contains ys x
kept-cases true y ys x m = Contains-cases y ys x m
kept-cases false y ys x m = inr m

pub filter-member : {X : Type 0} (p : X → Bool) (xs : List X) (x : X) → Contains xs x → p x ≡ true → Contains (filter p xs) x
filter-member p [] x m e = absurd (Contains-none x m)
filter-member p (y ∷ ys) x m e =
    elim (Contains-cases y ys x m) [
      | inl f ↦ kept-here (p y) y (filter p ys) x (ap p f ∙ e) f
      | inr n ↦ kept-there (p y) y (filter p ys) x (filter-member p ys x n e)
    ]

pub filter-from : {X : Type 0} (p : X → Bool) (xs : List X) (x : X) → Contains (filter p xs) x → Contains xs x
filter-from p [] x m = m
filter-from p (y ∷ ys) x m =
    elim (kept-cases (p y) y (filter p ys) x m) [
      | inl e ↦ subst (λ z. Contains (y ∷ ys) z) e (Contains-here y ys)
      | inr n ↦ Contains-there y ys x (filter-from p ys x n)
    ]
