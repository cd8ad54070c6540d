-- What lists contain, and what holds of all pairs of their items.
use Rattle.std.proofs.Common.{◌≡◌, ℕ, zero, suc, ◌+◌, ◌<◌, ◌≤◌, ◌⊎◌, inl, inr, Bool, true, false, cond, List, [], ◌∷◌, ◌++◌, length, get_or, take, refl, sym, ◌∙◌, ap, subst, arith, IsTrue}
use Rattle.std.specs.Prelude.{Contains, AllPairs, All, map, filter}
use Rattle.std.specs.List.{flat_map}
use Rattle.std.proofs.lemmas.Bool.{false≢true}
use Rattle.std.proofs.lemmas.List.{get_or-map, length-map, take_more, take_all, append-nil}
use Rattle.std.proofs.lemmas.List.Concat.{flat_map-append}
use Rattle.std.proofs.lemmas.List.Elements.{Contains-append_left, Contains-append_right, Contains-append_cases, Contains-get_or, All-append}
use Rattle.std.proofs.lemmas.List.Kept.{AllPairs-cons}

pub Contains-head : {X : Type 0} (x : X) (xs : List X) → Contains (x ∷ xs) x
Contains-head x xs = (0, omega arith, refl)

pub Contains-tail : {X : Type 0} (x y : X) (xs : List X) → Contains xs y → Contains (x ∷ xs) y
Contains-tail x y xs h = Contains-append_right (x ∷ []) xs y h

pub Contains-cases : {X : Type 0} (x y : X) (xs : List X) → Contains (x ∷ xs) y → (x ≡ y) ⊎ Contains xs y
Contains-cases x y xs (zero, l, e) = inl e
Contains-cases x y xs (suc k, l, e) = inr (k, omega (arith, l), e)

pub Contains-none : {X : Type 0} (y : X) → Contains [] y → ⊥
Contains-none y h = absurd (omega (arith, h.1))

pub Contains-map : {X Y : Type 0} (f : X → Y) (xs : List X) (x : X) → Contains xs x → Contains (map f xs) (f x)
Contains-map f xs x (k, l, e) = (k, omega (arith, length-map xs f, l), get_or-map f xs k x (f x) l ∙ ap f e)

pub from_map : {X Y : Type 0} (f : X → Y) (xs : List X) (y : Y) → Contains (map f xs) y → (x : X) × Contains xs x × (f x ≡ y)
from_map f [] y h = absurd (Contains-none y h)
from_map f (x ∷ xs) y h =
    elim (Contains-cases (f x) y (map f xs) h) [
      | inl e ↦ (x, Contains-head x xs, e)
      | inr later ↦ let r = from_map f xs y later in (r.0, Contains-tail x r.0 xs r.1, r.2)
    ]

pub Contains-piece : {X Y : Type 0} (f : X → List Y) (xs : List X) (x : X) (y : Y) → Contains xs x → Contains (f x) y → Contains (flat_map f xs) y
Contains-piece f [] x y h k = absurd (Contains-none x h)
Contains-piece f (z ∷ xs) x y h k =
    elim (Contains-cases z x xs h) [
      | inl e ↦ Contains-append_left (f z) (flat_map f xs) y (subst (λ w. Contains (f w) y) (sym e) k)
      | inr later ↦ Contains-append_right (f z) (flat_map f xs) y (Contains-piece f xs x y later k)
    ]

pub from_piece : {X Y : Type 0} (f : X → List Y) (xs : List X) (y : Y) → Contains (flat_map f xs) y → (x : X) × Contains xs x × Contains (f x) y
from_piece f [] y h = absurd (Contains-none y h)
from_piece f (x ∷ xs) y h =
    elim (Contains-append_cases (f x) (flat_map f xs) y h) [
      | inl here ↦ (x, Contains-head x xs, here)
      | inr later ↦ let r = from_piece f xs y later in (r.0, Contains-tail x r.0 xs r.1, r.2)
    ]

keeps : (b : Bool) {X : Type 0} (x : X) (xs : List X) → IsTrue b → Contains (cond b (x ∷ xs) xs) x
keeps true x xs h = Contains-head x xs
keeps false x xs h = absurd (false≢true h)

keeps_later : (b : Bool) {X : Type 0} (x y : X) (xs : List X) → Contains xs y → Contains (cond b (x ∷ xs) xs) y
keeps_later true x y xs h = Contains-tail x y xs h
keeps_later false x y xs h = h

-- a filter keeps the items that pass
pub Contains-filter : {X : Type 0} (test : X → Bool) (xs : List X) (x : X) → Contains xs x → IsTrue (test x) → Contains (filter test xs) x
Contains-filter test [] x h pass = absurd (Contains-none x h)
Contains-filter test (y ∷ xs) x h pass =
    elim (Contains-cases y x xs h) [
      | inl e ↦ subst (λ z. Contains (filter test (y ∷ xs)) z) e (keeps (test y) y (filter test xs) (subst (λ z. IsTrue (test z)) (sym e) pass))
      | inr later ↦ keeps_later (test y) y x (filter test xs) (Contains-filter test xs x later pass)
    ]

cut : (b : Bool) {X : Type 0} (x y : X) (xs : List X) → Contains (cond b (x ∷ xs) xs) y → ((x ≡ y) × IsTrue b) ⊎ Contains xs y
cut true x y xs h = elim (Contains-cases x y xs h) [ inl e ↦ inl (e, refl) | inr later ↦ inr later ]
cut false x y xs h = inr h

-- and no others
pub from_filter : {X : Type 0} (test : X → Bool) (xs : List X) (x : X) → Contains (filter test xs) x → Contains xs x × IsTrue (test x)
from_filter test [] x h = absurd (Contains-none x h)
from_filter test (y ∷ xs) x h =
    elim (cut (test y) y x (filter test xs) h) [
      | inl here ↦ (subst (λ z. Contains (y ∷ xs) z) here.0 (Contains-head y xs), subst (λ z. IsTrue (test z)) here.0 here.1)
      | inr later ↦ let r = from_filter test xs x later in (Contains-tail y x xs r.0, r.1)
    ]

pub All-from : {X : Type 0} (P : X → Type 0) (xs : List X) → ((x : X) → Contains xs x → P x) → All P xs
All-from P xs h k d l = h (get_or xs k d) (Contains-get_or xs k d l)

-- a fact of all pairs of two lists, and between them
pub AllPairs-append : {X : Type 0} (R : X → X → Type 0) (xs ys : List X) → AllPairs R xs → AllPairs R ys → ((x y : X) → Contains xs x → Contains ys y → R x y) → AllPairs R (xs ++ ys)
AllPairs-append R [] ys one two between = two
AllPairs-append R (x ∷ xs) ys one two between =
    AllPairs-cons R x (xs ++ ys)
    (All-append (R x) xs ys (λ k d l. one zero (suc k) d (omega arith) (omega arith)) (λ k d l. between x (get_or ys k d) (Contains-head x xs) (Contains-get_or ys k d l)))
    (AllPairs-append R xs ys (λ i j d l m. one (suc i) (suc j) d (omega arith) (omega arith)) two (λ a b in_xs in_ys. between a b (Contains-tail x a xs in_xs) in_ys))

pub AllPairs-rest : {X : Type 0} (R : X → X → Type 0) (x : X) (xs : List X) → AllPairs R (x ∷ xs) → AllPairs R xs
AllPairs-rest R x xs h = λ i j d l m. h (suc i) (suc j) d (omega arith) (omega arith)

pub AllPairs-first : {X : Type 0} (R : X → X → Type 0) (x y : X) (xs : List X) → AllPairs R (x ∷ xs) → Contains xs y → R x y
AllPairs-first {X} R x y xs h (k, l, e) = subst (λ (z : X). R x z) e (h 0 (suc k) y (omega arith) (omega arith))

-- a stronger fact of the items that are there
pub AllPairs-among : {X : Type 0} (R S : X → X → Type 0) (xs : List X) → ((x y : X) → Contains xs x → Contains xs y → R x y → S x y) → AllPairs R xs → AllPairs S xs
AllPairs-among R S xs f h i j d l m =
    let k : i < length xs = omega arith in
    f (get_or xs i d) (get_or xs j d) (Contains-get_or xs i d k) (Contains-get_or xs j d m) (h i j d l m)

-- a fact of all pairs of a map
pub AllPairs-map : {X Y : Type 0} (R : Y → Y → Type 0) (f : X → Y) (xs : List X) → AllPairs (λ (x : X) (y : X). R (f x) (f y)) xs → AllPairs R (map f xs)
AllPairs-map {X} {Y} R f [] h i j d l m = absurd (omega (arith, m))
AllPairs-map {X} {Y} R f (x ∷ xs) h i j d l m =
    let n : j < length (x ∷ xs) = omega (arith, length-map (x ∷ xs) f, m) in
    let k : i < length (x ∷ xs) = omega arith in
    subst (λ (b : Y). R (get_or (map f (x ∷ xs)) i d) b) (sym (get_or-map f (x ∷ xs) j x d n))
    (subst (λ (a : Y). R a (f (get_or (x ∷ xs) j x))) (sym (get_or-map f (x ∷ xs) i x d k)) (h i j x l n))

pub AllPairs-unmap : {X Y : Type 0} (R : Y → Y → Type 0) (f : X → Y) (xs : List X) → AllPairs R (map f xs) → AllPairs (λ (x : X) (y : X). R (f x) (f y)) xs
AllPairs-unmap {X} {Y} R f xs h i j d l m =
    let n : j < length (map f xs) = omega (arith, length-map xs f, m) in
    let k : i < length xs = omega arith in
    subst (λ (b : Y). R (f (get_or xs i d)) b) (get_or-map f xs j d (f d) m)
    (subst (λ (a : Y). R a (get_or (map f xs) j (f d))) (get_or-map f xs i d (f d) k) (h i j (f d) l n))

pub AllPairs-none : {X : Type 0} (R : X → X → Type 0) → AllPairs R []
AllPairs-none R i j d l m = absurd (omega (arith, m))

pub AllPairs-single : {X : Type 0} (R : X → X → Type 0) (x : X) → AllPairs R (x ∷ [])
AllPairs-single R x i j d l m = absurd (omega (arith, m, l))

-- one more piece of a flat map
pub pieces_more : {X Y : Type 0} (f : X → List Y) (now next : List Y) (xs : List X) (i : ℕ) (x : X) → i < length xs → x ≡ get_or xs i x →
    now ≡ flat_map f (take i xs) → next ≡ now ++ f x → next ≡ flat_map f (take (i + 1) xs)
pieces_more f now next xs i x h e is grown =
    grown ∙ ap (λ l. l ++ f x) is ∙ ap (λ l. flat_map f (take i xs) ++ l) (sym (append-nil (f x))) ∙
    sym (flat_map-append f (take i xs) (x ∷ [])) ∙ ap (λ y. flat_map f (take i xs ++ y ∷ [])) e ∙ ap (flat_map f) (sym (take_more xs i x h))

-- all pieces
pub pieces_all : {X Y : Type 0} (f : X → List Y) (now : List Y) (xs : List X) (i : ℕ) → length xs ≤ i → now ≡ flat_map f (take i xs) → now ≡ flat_map f xs
pieces_all f now xs i h is = is ∙ ap (flat_map f) (take_all i xs h)
