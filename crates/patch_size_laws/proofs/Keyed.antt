-- Sums over lists, and over things that each have a number: those of different numbers sum to no more than all.
use Rattle.std.proofs.Common.{◌≡◌, ◌≢◌, ℕ, zero, suc, ◌+◌, ◌*◌, ◌<◌, ◌≤◌, ◌==◌, Bool, true, false, if◌then◌else◌, List, [], ◌∷◌, ◌++◌, length, map, refl, sym, ap, subst, arith}
use Rattle.std.specs.Prelude.{Option, Some, None}
use Rattle.std.specs.List.{filter_map, flat_map, range_with_len, cons_option, zip, sum_by, AllByRecursion}
use Rattle.std.proofs.lemmas.Bool.{eqb-true}
use Rattle.std.proofs.lemmas.List.Recursion.{is_sum_by}
use Rattle.arc_base.specs.Numbered.{of_number}
use Rattle.arc_base.proofs.Zips.{AllByRecursion-append}

-- the sum over a list
abbrev pub total : {X : Type 0} → (X → ℕ) → List X → ℕ
total h [] = 0
total h (x ∷ xs) = h x + total h xs

pub total-append : {X : Type 0} (h : X → ℕ) (xs ys : List X) → total h (xs ++ ys) ≡ total h xs + total h ys
total-append h [] ys = omega arith
total-append h (x ∷ xs) ys = omega (arith, total-append h xs ys)

pub total-flat : {X Y : Type 0} (h : Y → ℕ) (f : X → List Y) (xs : List X) → total h (flat_map f xs) ≡ total (λ x. total h (f x)) xs
total-flat h f [] = refl
total-flat h f (x ∷ xs) = omega (arith, total-append h (f x) (flat_map f xs), total-flat h f xs)

pub total-map : {X Y : Type 0} (h : Y → ℕ) (f : X → Y) (xs : List X) → total h (map f xs) ≡ total (λ x. h (f x)) xs
total-map h f [] = refl
total-map h f (x ∷ xs) = omega (arith, total-map h f xs)

pub total-le : {X : Type 0} (h g : X → ℕ) (xs : List X) → ((x : X) → h x ≤ g x) → total h xs ≤ total g xs
total-le h g [] le = omega arith
total-le h g (x ∷ xs) le = omega (arith, le x, total-le h g xs le)

pub total-ones : {X : Type 0} (xs : List X) → total (λ x. 1) xs ≡ length xs
total-ones [] = refl
total-ones (x ∷ xs) = omega (arith, total-ones xs)

pub total-sum : {X : Type 0} (h : X → ℕ) (xs : List X) → total h xs ≡ sum_by h xs
total-sum h xs = is_sum_by (total h) h refl (λ x ys. refl) xs

pub total-times : {X : Type 0} (n : ℕ) (h : X → ℕ) (xs : List X) → total (λ x. n * h x) xs ≡ n * total h xs
total-times n h [] = omega arith
total-times n h (x ∷ xs) = omega (arith, total-times n h xs)

-- a sum over what is picked, and over pairs
pub picked-few : {X Y : Type 0} (f : X → Option Y) (g : Y → ℕ) (h : X → ℕ) (xs : List X) → ((x : X) (y : Y) → f x ≡ Some y → g y ≤ h x) → total g (filter_map f xs) ≤ total h xs
picked-few f g h [] le = omega arith
picked-few {X} {Y} f g h (x ∷ xs) le = by (f x) refl (picked-few f g h xs le)
  where
    by : (o : Option Y) → f x ≡ o → total g (filter_map f xs) ≤ total h xs → total g (cons_option o (filter_map f xs)) ≤ h x + total h xs
    by None e rest = omega (arith, rest)
    by (Some y) e rest = omega (arith, le x y e, rest)

pub zip-few : {X Y : Type 0} (g : X → ℕ) (xs : List X) (ys : List Y) → total (λ p. g p.0) (zip xs ys) ≤ total g xs
zip-few g [] ys = omega arith
zip-few g (x ∷ xs) [] = omega arith
zip-few g (x ∷ xs) (y ∷ ys) = omega (arith, zip-few g xs ys)

-- the number is none of these, and no two of these are the same
abbrev pub Other : ℕ → List ℕ → Type 0
Other k [] = Unit {0}
Other k (m ∷ ms) = (k ≢ m) × Other k ms

abbrev pub Apart : List ℕ → Type 0
Apart [] = Unit {0}
Apart (k ∷ ks) = Other k ks × Apart ks

other-range : (k a n : ℕ) → k < a → Other k (range_with_len a n)
other-range k a zero low = tt
other-range k a (suc n) low = ((λ e. omega (arith, low, e)), other-range k (a + 1) n (omega (arith, low)))

pub apart-range : (a n : ℕ) → Apart (range_with_len a n)
apart-range a zero = tt
apart-range a (suc n) = (other-range a (a + 1) n (omega arith), apart-range (a + 1) n)

-- the sums over the things of each of the numbers
abbrev pub keyed : {X : Type 0} → (X → ℕ) → List (ℕ × X) → List ℕ → ℕ
keyed h things ks = total (λ k. total h (of_number k things)) ks

nothing : {X : Type 0} (h : X → ℕ) (ks : List ℕ) → keyed h [] ks ≡ 0
nothing h [] = refl
nothing h (k ∷ ks) = omega (arith, nothing h ks)

none : {X : Type 0} (h : X → ℕ) (t : ℕ × X) (ts : List (ℕ × X)) (ks : List ℕ) → Other t.0 ks → keyed h (t ∷ ts) ks ≡ keyed h ts ks
none h t ts [] other = refl
none {X} h t ts (k ∷ ks) other =
    let off : of_number k (t ∷ ts) ≡ of_number k ts = by (t.0 == k) refl in
    omega (arith, ap (total h) off, none h t ts ks other.1)
  where
    by : (b : Bool) → (t.0 == k) ≡ b → cons_option (if b then Some t.1 else None) (of_number k ts) ≡ of_number k ts
    by true e = absurd (other.0 (eqb-true t.0 k e))
    by false e = refl

once : {X : Type 0} (h : X → ℕ) (t : ℕ × X) (ts : List (ℕ × X)) (ks : List ℕ) → Apart ks → keyed h (t ∷ ts) ks ≤ h t.1 + keyed h ts ks
once h t ts [] apart = omega arith
once {X} h t ts (k ∷ ks) apart = by (t.0 == k) refl (once h t ts ks apart.1)
  where
    by : (b : Bool) → (t.0 == k) ≡ b → keyed h (t ∷ ts) ks ≤ h t.1 + keyed h ts ks →
        total h (cons_option (if b then Some t.1 else None) (of_number k ts)) + keyed h (t ∷ ts) ks ≤ h t.1 + (total h (of_number k ts) + keyed h ts ks)
    by true e rest = omega (arith, none h t ts ks (subst (λ (n : ℕ). Other n ks) (sym (eqb-true t.0 k e)) apart.0))
    by false e rest = omega (arith, rest)

pub keyed-few : {X : Type 0} (h : X → ℕ) (things : List (ℕ × X)) (ks : List ℕ) → Apart ks → keyed h things ks ≤ total (λ t. h t.1) things
keyed-few h [] ks apart = omega (arith, nothing h ks)
keyed-few h (t ∷ ts) ks apart = omega (arith, once h t ts ks apart, keyed-few h ts ks apart)

-- what holds of all that is picked
pub picked-all : {X Y : Type 0} (P : Y → Type 0) (f : X → Option Y) (xs : List X) → ((x : X) (y : Y) → f x ≡ Some y → P y) → AllByRecursion P (filter_map f xs)
picked-all P f [] each = tt
picked-all {X} {Y} P f (x ∷ xs) each = by (f x) refl (picked-all P f xs each)
  where
    by : (o : Option Y) → f x ≡ o → AllByRecursion P (filter_map f xs) → AllByRecursion P (cons_option o (filter_map f xs))
    by None e rest = rest
    by (Some y) e rest = (each x y e, rest)

pub flat-all : {X Y : Type 0} (P : Y → Type 0) (f : X → List Y) (xs : List X) → ((x : X) → AllByRecursion P (f x)) → AllByRecursion P (flat_map f xs)
flat-all P f [] each = tt
flat-all P f (x ∷ xs) each = AllByRecursion-append P (f x) (flat_map f xs) (each x) (flat-all P f xs each)

-- what holds of all things holds of those of a number
pub numbered-all : {X : Type 0} (P : X → Type 0) (k : ℕ) (things : List (ℕ × X)) → AllByRecursion (λ (t : ℕ × X). P t.1) things → AllByRecursion P (of_number k things)
numbered-all P k [] all = tt
numbered-all {X} P k (t ∷ ts) all = by (t.0 == k) (numbered-all P k ts all.1)
  where
    by : (b : Bool) → AllByRecursion P (of_number k ts) → AllByRecursion P (cons_option (if b then Some t.1 else None) (of_number k ts))
    by true rest = (all.0, rest)
    by false rest = rest
