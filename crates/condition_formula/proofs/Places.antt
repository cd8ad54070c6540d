-- Numbers below a bound, pairs of items, and clauses over them.
use Rattle.std.specs.List.{flat_map}
use Rattle.std.proofs.Common.{◌≡◌, ℕ, zero, suc, ◌<◌, Bool, true, false, not, ◌||◌, IsTrue, List, [], ◌∷◌, ◌++◌, map, AllPairs, Contains, inl, inr, ◌⊎◌, refl, sym, ap, ◌∙◌, subst, arith}
use Rattle.std.proofs.lemmas.Bool.{cases_lt, false≢true}
use Rattle.std.proofs.lemmas.List.Elements.{Contains-append_left, Contains-append_right, Contains-append_cases}
use Rattle.arc_base.proofs.Items.{Contains-head, Contains-tail, Contains-cases, Contains-none, Contains-map, from_map, Contains-piece, from_piece, AllPairs-rest, AllPairs-first}
use Rattle.condition_formula.specs.Lists.{upto, pairs}
use Rattle.condition_formula.specs.declared.part.Part.{Part}
use Rattle.condition_formula.specs.Clauses.{no, parts_value, Fulfils}
use Rattle.condition_formula.specs.Reaching.{exclusions}

pub in_upto : (n k : ℕ) → k < n → Contains (upto n) k
in_upto zero k l = absurd (omega arith)
in_upto (suc n) k l =
    elim (cases_lt k n) [
      | inl below ↦ Contains-append_left (upto n) (n ∷ []) k (in_upto n k below)
      | inr last ↦ let e : n ≡ k = omega arith in Contains-append_right (upto n) (n ∷ []) k (subst (λ (x : ℕ). Contains (n ∷ []) x) e (Contains-head n []))
    ]

pub below : (n k : ℕ) → Contains (upto n) k → k < n
below zero k m = absurd (Contains-none k m)
below (suc n) k m =
    elim (Contains-append_cases (upto n) (n ∷ []) k m) [
      | inl early ↦ let l : k < n = below n k early in omega arith
      | inr late ↦ elim (Contains-cases n k [] late) [
        | inl e ↦ omega (arith, e)
        | inr none ↦ absurd (Contains-none k none)
      ]
    ]

-- both items of a pair are in the list, and related as all pairs are
pub record InPairs {X : Type 0} (R : X → X → Type 0) (xs : List X) (x y : X) : Type 0 where
  pub first : Contains xs x
  pub second : Contains xs y
  pub related : R x y

pub from_pairs : {X : Type 0} (R : X → X → Type 0) (xs : List X) (p : X × X) → AllPairs R xs → Contains (pairs xs) p → InPairs R xs p.0 p.1
from_pairs R [] p h m = absurd (Contains-none p m)
from_pairs {X} R (x ∷ xs) p h m =
    elim (Contains-append_cases (map (λ y. (x, y)) xs) (pairs xs) p m) [
      | inl here ↦
          let r = from_map (λ (y : X). (x, y)) xs p here in
          let f : x ≡ p.0 = ap (λ (q : X × X). q.0) r.2 in
          let g : r.0 ≡ p.1 = ap (λ (q : X × X). q.1) r.2 in
          record {
            first = subst (λ (z : X). Contains (x ∷ xs) z) f (Contains-head x xs);
            second = subst (λ (z : X). Contains (x ∷ xs) z) g (Contains-tail x r.0 xs r.1);
            related = subst (λ (z : X). R z p.1) f (subst (λ (z : X). R x z) g (AllPairs-first R x r.0 xs h r.1));
          }
      | inr later ↦
          let r : InPairs R xs p.0 p.1 = from_pairs R xs p (AllPairs-rest R x xs h) later in
          record { first = Contains-tail x p.0 xs r.first; second = Contains-tail x p.1 xs r.second; related = r.related }
    ]

-- two items that differ make a pair in one order or the other
pub in_pairs : {X : Type 0} (xs : List X) (x y : X) → Contains xs x → Contains xs y → (x ≡ y → ⊥) → Contains (pairs xs) (x, y) ⊎ Contains (pairs xs) (y, x)
in_pairs [] x y a b ne = absurd (Contains-none x a)
in_pairs {X} (z ∷ xs) x y a b ne =
    elim (Contains-cases z x xs a) [
      | inl e ↦ elim (Contains-cases z y xs b) [
        | inl f ↦ absurd (ne (sym e ∙ f))
        | inr n ↦ inl (Contains-append_left (map (λ w. (z, w)) xs) (pairs xs) (x, y)
            (subst (λ (v : X). Contains {X = X × X} (map (λ w. (z, w)) xs) (v, y)) e (Contains-map (λ (w : X). (z, w)) xs y n)))
      ]
      | inr m ↦ elim (Contains-cases z y xs b) [
        | inl f ↦ inr (Contains-append_left (map (λ w. (z, w)) xs) (pairs xs) (y, x)
            (subst (λ (v : X). Contains {X = X × X} (map (λ w. (z, w)) xs) (v, x)) f (Contains-map (λ (w : X). (z, w)) xs x m)))
        | inr n ↦ elim (in_pairs xs x y m n ne) [
          | inl p ↦ inl (Contains-append_right (map (λ w. (z, w)) xs) (pairs xs) (x, y) p)
          | inr p ↦ inr (Contains-append_right (map (λ w. (z, w)) xs) (pairs xs) (y, x) p)
        ]
      ]
    ]

-- clauses of two lists, and those of one of them
pub Fulfils-append : (a : ℕ → Bool) (xs ys : List (List Part)) → Fulfils a xs → Fulfils a ys → Fulfils a (xs ++ ys)
Fulfils-append a xs ys p q parts m = elim (Contains-append_cases xs ys parts m) [ inl l ↦ p parts l | inr r ↦ q parts r ]

pub Fulfils-left : (a : ℕ → Bool) (xs ys : List (List Part)) → Fulfils a (xs ++ ys) → Fulfils a xs
Fulfils-left a xs ys h parts m = h parts (Contains-append_left xs ys parts m)

pub Fulfils-right : (a : ℕ → Bool) (xs ys : List (List Part)) → Fulfils a (xs ++ ys) → Fulfils a ys
Fulfils-right a xs ys h parts m = h parts (Contains-append_right xs ys parts m)

pub Fulfils-cons : (a : ℕ → Bool) (x : List Part) (xs : List (List Part)) → IsTrue (parts_value a x) → Fulfils a xs → Fulfils a (x ∷ xs)
Fulfils-cons a x xs t h parts m = elim (Contains-cases x parts xs m) [ inl e ↦ subst (λ (p : List Part). IsTrue (parts_value a p)) e t | inr l ↦ h parts l ]

pub Fulfils-none : (a : ℕ → Bool) → Fulfils a []
Fulfils-none a parts m = absurd (Contains-none parts m)

pub Fulfils-map : {X : Type 0} (a : ℕ → Bool) (f : X → List Part) (xs : List X) → ((x : X) → Contains xs x → IsTrue (parts_value a (f x))) → Fulfils a (map f xs)
Fulfils-map a f xs h parts m =
    let r = from_map f xs parts m in subst (λ (p : List Part). IsTrue (parts_value a p)) r.2 (h r.0 r.1)

pub Fulfils-flat_map : {X : Type 0} (a : ℕ → Bool) (f : X → List (List Part)) (xs : List X) → ((x : X) → Contains xs x → Fulfils a (f x)) → Fulfils a (flat_map f xs)
Fulfils-flat_map a f xs h parts m = let r = from_piece f xs parts m in h r.0 r.1 parts r.2

pub Fulfils-piece : {X : Type 0} (a : ℕ → Bool) (f : X → List (List Part)) (xs : List X) (x : X) → Fulfils a (flat_map f xs) → Contains xs x → Fulfils a (f x)
Fulfils-piece a f xs x h m parts n = h parts (Contains-piece f xs x parts m n)

-- of two parts one is true
pub one_of : (x y : Bool) → (x || (y || false)) ≡ true → (x ≡ true) ⊎ (y ≡ true)
one_of true y h = inl refl
one_of false true h = inr refl
one_of false false h = absurd (false≢true h)

pub only_one : (x : Bool) → (x || false) ≡ true → x ≡ true
only_one true h = refl
only_one false h = h

pub not_true : (b : Bool) → b ≡ true → not b ≡ true → ⊥
not_true true s t = false≢true t
not_true false s t = false≢true s

both_not : (a : ℕ → Bool) (x y : ℕ) → a x ≡ true → a y ≡ true → IsTrue (parts_value a (no x ∷ no y ∷ [])) → ⊥
both_not a x y s t h = elim (one_of (not (a x)) (not (a y)) h) [ inl n ↦ not_true (a x) s n | inr n ↦ not_true (a y) t n ]

-- of two different items not both variables are true
pub excluded : {X : Type 0} (a : ℕ → Bool) (v : X → ℕ) (items : List X) (x y : X) → Fulfils a (exclusions v items) → Contains items x → Contains items y →
    (x ≡ y → ⊥) → a (v x) ≡ true → a (v y) ≡ true → ⊥
excluded {X} a v items x y h m n ne s t =
    let clause = λ (pair : X × X). no (v pair.0) ∷ no (v pair.1) ∷ [] in
    elim (in_pairs items x y m n ne) [
      | inl p ↦ both_not a (v x) (v y) s t (h (no (v x) ∷ no (v y) ∷ []) (Contains-map clause (pairs items) (x, y) p))
      | inr p ↦ both_not a (v y) (v x) t s (h (no (v y) ∷ no (v x) ∷ []) (Contains-map clause (pairs items) (y, x) p))
    ]

neither : (x y : Bool) → (x ≡ true → y ≡ true → ⊥) → (not x || (not y || false)) ≡ true
neither false y h = refl
neither true false h = refl
neither true true h = absurd (h refl refl)

-- the clauses of exclusion hold if no two related items both have a true variable
pub excludes : {X : Type 0} (R : X → X → Type 0) (a : ℕ → Bool) (v : X → ℕ) (items : List X) → AllPairs R items →
    ((x y : X) → Contains items x → Contains items y → R x y → a (v x) ≡ true → a (v y) ≡ true → ⊥) → Fulfils a (exclusions v items)
excludes {X} R a v items related h =
    Fulfils-map a (λ (pair : X × X). no (v pair.0) ∷ no (v pair.1) ∷ []) (pairs items) (λ p m.
    let i : InPairs R items p.0 p.1 = from_pairs R items p related m in
    neither (a (v p.0)) (a (v p.1)) (h p.0 p.1 i.first i.second i.related))
