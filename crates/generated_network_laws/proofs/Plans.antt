-- Numbers of routers, links and interfaces: where links end, and how interfaces are numbered.
use Rattle.std.proofs.Common.{◌≡◌, ◌≢◌, ℕ, zero, suc, ◌+◌, ◌-◌, ◌*◌, ◌/◌, ◌%◌, ◌<◌, ◌≤◌, ◌==◌, ◌⊎◌, inl, inr}
use Rattle.std.proofs.Common.{nat_le, Bool, true, false, Some, length, map, filter, refl, sym, ap, subst, ◌∙◌, arith, ⊎_elim, Contains}
use Rattle.std.specs.Prelude.{slice_get}
use Rattle.std.specs.List.{range_with_len}
use Rattle.std.proofs.lemmas.Bool.{cases_lt, cases_eq, cases_Bool, cond-true, cond-false, eq-eqb, eqb-true, le-leb, lt-leb, or_cases, or_left, or_right}
use Rattle.std.proofs.lemmas.Option.{none-some, same_Some}
use Rattle.std.proofs.Math.Nat.{mod-eq_of_lt, mul-mod_left}
use Rattle.arc_base.proofs.Items as items
use Rattle.net_gen.specs.Plans.{numbers, link_count, next, a_router, b_router, has_end, port}
use Rattle.net_gen.proofs.Counted.{length_kept, length_left}

-- the items of a list over numbers in order
pub mapped-at : {X : Type 0} (f : ℕ → X) (a m k : ℕ) (x : X) → slice_get (map f (range_with_len a m)) k ≡ Some x → (k < m) × (f (a + k) ≡ x)
mapped-at f a zero k x is = absurd (none-some x is)
mapped-at f a (suc m) zero x is = (omega arith, ap f (omega arith) ∙ same_Some (f a) x is)
mapped-at f a (suc m) (suc k) x is = let deeper = mapped-at f (a + 1) m k x is in let low = deeper.0 in (omega arith, ap f (omega arith) ∙ deeper.1)

pub at-mapped : {X : Type 0} (f : ℕ → X) (a m k : ℕ) → k < m → slice_get (map f (range_with_len a m)) k ≡ Some (f (a + k))
at-mapped f a zero k low = absurd (omega arith)
at-mapped f a (suc m) zero low = ap (λ (n : ℕ). Some (f n)) (omega arith)
at-mapped f a (suc m) (suc k) low = at-mapped f (a + 1) m k (omega arith) ∙ ap (λ (n : ℕ). Some (f n)) (omega arith)

pub in-range : (a m x : ℕ) → Contains (range_with_len a m) x → (a ≤ x) × (x < a + m)
in-range a zero x there = absurd (items.Contains-none x there)
in-range a (suc m) x there = elim (items.Contains-cases a x (range_with_len (a + 1) m) there) [
  | inl here ↦ (omega arith, omega arith)
  | inr later ↦ let deeper = in-range (a + 1) m x later in let low = deeper.0 in let high = deeper.1 in (omega arith, omega arith)
]

pub range-has : (a m x : ℕ) → a ≤ x → x < a + m → Contains (range_with_len a m) x
range-has a zero x low high = absurd (omega arith)
range-has a (suc m) x low high = ⊎_elim
    (λ (same : a ≡ x). subst (Contains (range_with_len a (suc m))) same (items.Contains-head a (range_with_len (a + 1) m)))
    (λ (other : a ≡ x → ⊥). items.Contains-tail a x (range_with_len (a + 1) m) (range-has (a + 1) m x (omega arith) (omega arith)))
    (cases_eq a x)

-- so many of the first numbers pass a test
abbrev pub passed : (ℕ → Bool) → ℕ → ℕ
passed p m = length (filter p (numbers m))

pub passed-few : (p : ℕ → Bool) (m : ℕ) → passed p m ≤ m
passed-few p zero = omega arith
passed-few p (suc m) = let deeper = passed-few p m in let next : suc m ≡ m + 1 = omega arith in let same : passed p (suc m) ≡ passed p (m + 1) = ap (λ k. passed p k) next in
    ⊎_elim
    (λ (yes : p (m + 1) ≡ true). let more = length_kept p m yes in omega arith)
    (λ (no : p (m + 1) ≡ false). let more = length_left p m no in omega arith)
    (cases_Bool (p (m + 1)))

passed-more : (p : ℕ → Bool) (m d : ℕ) → passed p m ≤ passed p (m + d)
passed-more p m zero = let same : passed p m ≡ passed p (m + 0) = ap (passed p) (omega arith) in omega arith
passed-more p m (suc d) =
    let deeper = passed-more p m d in
    let same : passed p (m + suc d) ≡ passed p (m + d + 1) = ap (passed p) (omega arith) in
    ⊎_elim
    (λ (yes : p (m + d + 1) ≡ true). let more = length_kept p (m + d) yes in omega arith)
    (λ (no : p (m + d + 1) ≡ false). let more = length_left p (m + d) no in omega arith)
    (cases_Bool (p (m + d + 1)))

-- the number of a later one that passes is greater
pub passed-rises : (p : ℕ → Bool) (k l : ℕ) → k < l → p l ≡ true → passed p k < passed p l
passed-rises p k l low has =
    let m = l - 1 in
    let last : m + 1 ≡ l = omega arith in
    let more : passed p (m + 1) ≡ passed p m + 1 = length_kept p m (subst (λ n. p n ≡ true) (sym last) has) in
    let whole : passed p (m + 1) ≡ passed p l = ap (passed p) last in
    let d = m - k in
    let place : k + d ≡ m = omega arith in
    let below : passed p k ≤ passed p (k + d) = passed-more p k d in
    let there : passed p (k + d) ≡ passed p m = ap (passed p) place in
    omega arith

-- an interface over a link has a number from 1 on, and that over a later link a greater one
pub port-some : (n router link : ℕ) → 1 ≤ link → has_end n router link ≡ true → 1 ≤ port n router link
port-some n router link some has = let rises = passed-rises (has_end n router) 0 link (omega arith) has in omega arith

pub port-few : (n router link : ℕ) → port n router link ≤ link
port-few n router link = passed-few (has_end n router) link

pub port-rises : (n router k l : ℕ) → k < l → has_end n router l ≡ true → port n router k < port n router l
port-rises n router k l low has = passed-rises (has_end n router) k l low has

pub port-one : (n router k l : ℕ) → has_end n router k ≡ true → has_end n router l ≡ true → port n router k ≡ port n router l → k ≡ l
port-one n router k l at-k at-l same = ⊎_elim
    (λ (e : k ≡ l). e)
    (λ (other : k ≡ l → ⊥). ⊎_elim
    (λ (low : k < l). let rises = port-rises n router k l low at-l in absurd (omega arith))
    (λ (high : l ≤ k). let rises = port-rises n router l k (omega arith) at-k in absurd (omega arith))
    (cases_lt k l))
    (cases_eq k l)

-- where links end
pub a-has : (n link : ℕ) → has_end n (a_router n link) link ≡ true
a-has n link = or_left (a_router n link == a_router n link) (b_router n link == a_router n link) (eq-eqb (a_router n link) (a_router n link) refl)

pub b-has : (n link : ℕ) → has_end n (b_router n link) link ≡ true
b-has n link = or_right (a_router n link == b_router n link) (b_router n link == b_router n link) (eq-eqb (b_router n link) (b_router n link) refl)

pub ends-are : (n router link : ℕ) → has_end n router link ≡ true → (a_router n link ≡ router) ⊎ (b_router n link ≡ router)
ends-are n router link has = ⊎_elim
    (λ (one : (a_router n link == router) ≡ true). inl (eqb-true (a_router n link) router one))
    (λ (two : (b_router n link == router) ≡ true). inr (eqb-true (b_router n link) router two))
    (or_cases (a_router n link == router) (b_router n link == router) has)

-- what is known of the ends of a link
pub record HasTwoEnds (n link : ℕ) : Type 0 where
  pub a_low : 1 ≤ a_router n link
  pub a_high : a_router n link ≤ n
  pub b_low : 1 ≤ b_router n link
  pub b_high : b_router n link ≤ n
  pub apart : a_router n link ≢ b_router n link

-- the router after another one
pub next-is : (n router : ℕ) → 2 ≤ n → 1 ≤ router → router ≤ n → (next n router ≤ n) × (1 ≤ next n router) × (router ≢ next n router)
next-is n router some low high = ⊎_elim
    (λ (below : router < n). let whole : router % n ≡ router = mod-eq_of_lt below in (omega arith, omega arith, λ same. omega arith))
    (λ (last : n ≤ router). let same : router ≡ 1 * n = omega arith in let none : router % n ≡ 0 = ap (λ r. r % n) same ∙ mul-mod_left 1 n in (omega arith, omega arith, λ same. omega arith))
    (cases_lt router n)

pub two-ends : (n link : ℕ) → 6 ≤ n → 1 ≤ link → link ≤ link_count n → HasTwoEnds n link
two-ends n link some low high = ⊎_elim
    (λ (ring : link ≤ n).
    let test : nat_le link n ≡ true = le-leb link n ring in
    let a-is : a_router n link ≡ link = cond-true (nat_le link n) link (link - n) test in
    let b-is : b_router n link ≡ next n link = cond-true (nat_le link n) (next n link) (link - n + n / 2) test in
    let after = next-is n link (omega arith) low ring in
    let one = after.0 in let two = after.1 in let three = after.2 in
    let two-ends : HasTwoEnds n link = record { a_low = omega arith; a_high = omega arith; b_low = omega arith; b_high = omega arith; apart = λ same. three (sym a-is ∙ same ∙ b-is) } in two-ends)
    (λ (across : n < link).
    let test : nat_le link n ≡ false = lt-leb link n across in
    let a-is : a_router n link ≡ link - n = cond-false (nat_le link n) link (link - n) test in
    let b-is : b_router n link ≡ link - n + n / 2 = cond-false (nat_le link n) (next n link) (link - n + n / 2) test in
    record { a_low = omega arith; a_high = omega arith; b_low = omega arith; b_high = omega arith; apart = λ same. omega arith })
    (le-or-lt link n)
  where
    le-or-lt : (a b : ℕ) → (a ≤ b) ⊎ (b < a)
    le-or-lt a b = ⊎_elim (λ (low : b < a). inr low) (λ (high : a ≤ b). inl high) (cases_lt b a)

pub count-few : (n : ℕ) → n ≤ 40 → link_count n ≤ 60
count-few n few = omega arith
