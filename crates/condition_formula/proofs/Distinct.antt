-- Lists whose items differ: their parts, and how long they can be.
use Rattle.std.proofs.Common.{◌≡◌, ◌≢◌, ℕ, zero, suc, ◌<◌, ◌≤◌, List, [], ◌∷◌, ◌++◌, length, get_or, map, AllPairs, Contains, inl, inr, ◌⊎◌, refl, sym, ap, ◌∙◌, subst, arith}
use Rattle.std.specs.List.{flat_map}
use Rattle.std.proofs.lemmas.Bool.{cases_lt}
use Rattle.std.proofs.lemmas.List.{length-append}
use Rattle.std.proofs.Math.ListN.{get_or-append}
use Rattle.std.proofs.Math.Seq.{get_or-append_seam}
use Rattle.std.proofs.lemmas.List.Elements.{Contains-append_left, Contains-append_right, Contains-get_or}
use Rattle.std.proofs.lemmas.List.Kept.{AllPairs-cons}
use Rattle.arc_base.proofs.Items.{Contains-head, Contains-tail, Contains-cases, Contains-none, Contains-piece, All-from}
use Rattle.arc_base.proofs.Items.{AllPairs-rest, AllPairs-first, AllPairs-append, AllPairs-none, AllPairs-single, AllPairs-unmap}
use Rattle.graph_flow.proofs.Lists.{Without, without}
use Rattle.condition_formula.proofs.Places.{below}
use Rattle.condition_formula.specs.Lists.{upto}

-- different items that are all in a list are no more than its items
pub fit_into : {X : Type 0} (xs ys : List X) → AllPairs (λ (x y : X). x ≢ y) xs → ((x : X) → Contains xs x → Contains ys x) → length xs ≤ length ys
fit_into [] ys d h = omega arith
fit_into {X} (x ∷ xs) ys d h =
    let w : Without ys x = without ys x (h x (Contains-head x xs)) in
    let rest : length xs ≤ length w.rest = fit_into xs w.rest (AllPairs-rest (λ (a b : X). a ≢ b) x xs d)
    (λ y m. w.others y (h y (Contains-tail x y xs m)) (AllPairs-first (λ (a b : X). a ≢ b) x y xs d m)) in
    omega (arith, rest, w.shorter)

-- two items are equal, or are related one way or the other
pub members : {X : Type 0} (R : X → X → Type 0) (xs : List X) (x y : X) → AllPairs R xs → Contains xs x → Contains xs y → (x ≡ y) ⊎ (R x y ⊎ R y x)
members R [] x y p a b = absurd (Contains-none x a)
members {X} R (z ∷ xs) x y p a b =
    elim (Contains-cases z x xs a) [
      | inl e ↦ elim (Contains-cases z y xs b) [
        | inl f ↦ inl (sym e ∙ f)
        | inr m ↦ inr (inl (subst (λ (w : X). R w y) e (AllPairs-first R z y xs p m)))
      ]
      | inr m ↦ elim (Contains-cases z y xs b) [
        | inl f ↦ inr (inr (subst (λ (w : X). R w x) f (AllPairs-first R z x xs p m)))
        | inr n ↦ members R xs x y (AllPairs-rest R z xs p) m n
      ]
    ]

-- if a function takes different values at all items, two items with one value are equal
pub same_item : {X Y : Type 0} (f : X → Y) (xs : List X) (x y : X) → AllPairs (λ (a b : Y). a ≢ b) (map f xs) → Contains xs x → Contains xs y → f x ≡ f y → x ≡ y
same_item {X} {Y} f xs x y d a b e =
    elim (members (λ (v w : X). f v ≢ f w) xs x y (AllPairs-unmap (λ (v w : Y). v ≢ w) f xs d) a b) [
      | inl same ↦ same
      | inr other ↦ elim other [
        | inl one ↦ absurd (one e)
        | inr back ↦ absurd (back (sym e))
      ]
    ]

pub AllPairs-left : {X : Type 0} (R : X → X → Type 0) (xs ys : List X) → AllPairs R (xs ++ ys) → AllPairs R xs
AllPairs-left R [] ys p = AllPairs-none R
AllPairs-left R (x ∷ xs) ys p =
    AllPairs-cons R x xs (All-from (R x) xs (λ y m. AllPairs-first R x y (xs ++ ys) p (Contains-append_left xs ys y m)))
    (AllPairs-left R xs ys (AllPairs-rest R x (xs ++ ys) p))

pub AllPairs-right : {X : Type 0} (R : X → X → Type 0) (xs ys : List X) → AllPairs R (xs ++ ys) → AllPairs R ys
AllPairs-right R [] ys p = p
AllPairs-right R (x ∷ xs) ys p = AllPairs-right R xs ys (AllPairs-rest R x (xs ++ ys) p)

pub AllPairs-across : {X : Type 0} (R : X → X → Type 0) (xs ys : List X) (x y : X) → AllPairs R (xs ++ ys) → Contains xs x → Contains ys y → R x y
AllPairs-across R [] ys x y p a b = absurd (Contains-none x a)
AllPairs-across {X} R (z ∷ xs) ys x y p a b =
    elim (Contains-cases z x xs a) [
      | inl e ↦ subst (λ (w : X). R w y) e (AllPairs-first R z y (xs ++ ys) p (Contains-append_right xs ys y b))
      | inr m ↦ AllPairs-across R xs ys x y (AllPairs-rest R z (xs ++ ys) p) m b
    ]

-- in a list of lists whose items all differ, those of each list differ
pub piece_differs : {X : Type 0} (xss : List (List X)) (k : ℕ) → AllPairs (λ (x y : X). x ≢ y) (flat_map (λ xs. xs) xss) → k < length xss → AllPairs (λ (x y : X). x ≢ y) (get_or xss k [])
piece_differs [] k d l = absurd (omega arith)
piece_differs {X} (xs ∷ xss) zero d l = AllPairs-left (λ (x y : X). x ≢ y) xs (flat_map (λ ys. ys) xss) d
piece_differs {X} (xs ∷ xss) (suc k) d l = piece_differs xss k (AllPairs-right (λ (x y : X). x ≢ y) xs (flat_map (λ ys. ys) xss) d) (omega arith)

-- in a list of lists whose items all differ, no item is in two of the lists
pub pieces_apart : {X : Type 0} (xss : List (List X)) (i j : ℕ) (x : X) → AllPairs (λ (x y : X). x ≢ y) (flat_map (λ xs. xs) xss) → i < j → j < length xss →
    Contains (get_or xss i []) x → Contains (get_or xss j []) x → ⊥
pieces_apart [] i j x d l m a b = omega arith
pieces_apart {X} (xs ∷ xss) zero zero x d l m a b = omega arith
pieces_apart {X} (xs ∷ xss) zero (suc j) x d l m a b =
    AllPairs-across (λ (v w : X). v ≢ w) xs (flat_map (λ ys. ys) xss) x x d a (Contains-piece (λ ys. ys) xss (get_or xss j []) x (Contains-get_or xss j [] (omega arith)) b) refl
pieces_apart {X} (xs ∷ xss) (suc i) zero x d l m a b = omega arith
pieces_apart {X} (xs ∷ xss) (suc i) (suc j) x d l m a b = pieces_apart xss i j x (AllPairs-right (λ (v w : X). v ≢ w) xs (flat_map (λ ys. ys) xss) d) (omega arith) (omega arith) a b

-- the numbers below a bound rise
pub upto-rising : (n : ℕ) → AllPairs (λ (i j : ℕ). i < j) (upto n)
upto-rising zero = AllPairs-none (λ (i j : ℕ). i < j)
upto-rising (suc n) =
    AllPairs-append (λ (i j : ℕ). i < j) (upto n) (n ∷ []) (upto-rising n) (AllPairs-single (λ (i j : ℕ). i < j) n) (λ i j a b.
    let l : i < n = below n i a in
    elim (Contains-cases n j [] b) [
      | inl e ↦ subst (λ (x : ℕ). i < x) e l
      | inr none ↦ absurd (Contains-none j none)
    ])

pub length-upto : (n : ℕ) → length (upto n) ≡ n
length-upto zero = refl
length-upto (suc n) = length-append (upto n) (n ∷ []) ∙ omega (arith, length-upto n)

pub get_or-upto : (n k d : ℕ) → k < n → get_or (upto n) k d ≡ k
get_or-upto zero k d l = absurd (omega arith)
get_or-upto (suc n) k d l =
    elim (cases_lt k n) [
      | inl less ↦ get_or-append (upto n) (n ∷ []) d k (omega (arith, length-upto n)) ∙ get_or-upto n k d less
      | inr last ↦
          let at : k ≡ length (upto n) = omega (arith, length-upto n) in
          ap (λ (i : ℕ). get_or (upto n ++ n ∷ []) i d) at ∙ get_or-append_seam (upto n) n [] d ∙ omega arith
    ]
