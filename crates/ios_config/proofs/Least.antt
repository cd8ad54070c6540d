-- The least number with a property, and with one of two.
use Rattle.std.proofs.Common.{◌≡◌, ℕ, ◌≤◌, min, ◌⊎◌, inl, inr, Option, Some, None, arith, subst}
use Rattle.std.proofs.lemmas.Bool.{cases_lt}
use Rattle.ios_config.specs.Least.{IsLeast, FindsLeast, lesser}

-- a set that has the same numbers has the same least
pub least_same : (P Q : ℕ → Type 0) (found : Option ℕ) → ((n : ℕ) → P n → Q n) → ((n : ℕ) → Q n → P n) → FindsLeast P found → FindsLeast Q found
least_same P Q None to from none = λ n q. none n (from n q)
least_same P Q (Some m) to from least = record { has = to m least.has; least = λ n q. least.least n (from n q) }

module _ (P Q : ℕ → Type 0) where
  abbrev pub Either : ℕ → Type 0
  Either n = P n ⊎ Q n

  neither : ((n : ℕ) → ¬ P n) → ((n : ℕ) → ¬ Q n) → (n : ℕ) → ¬ Either n
  neither p q n (inl h) = p n h
  neither p q n (inr h) = q n h

  above : (k : ℕ) → ((n : ℕ) → P n → k ≤ n) → ((n : ℕ) → Q n → k ≤ n) → (n : ℕ) → Either n → k ≤ n
  above k p q n (inl h) = p n h
  above k p q n (inr h) = q n h

  -- the least of two sets
  pub least_either : (a b : Option ℕ) → FindsLeast P a → FindsLeast Q b → FindsLeast Either (lesser a b)
  least_either None None p q = neither p q
  least_either None (Some n) p q = record { has = inr q.has; least = above n (λ k h. absurd (p k h)) q.least }
  least_either (Some m) None p q = record { has = inl p.has; least = above m p.least (λ k h. absurd (q k h)) }
  least_either (Some m) (Some n) p q = elim (cases_lt n m) [
    | inl right ↦
        let is : n ≡ min m n = omega arith in
        subst (λ (k : ℕ). IsLeast Either k) is (record { has = inr q.has; least = above n (λ k h. omega (arith, p.least k h, right)) q.least })
    | inr left ↦
        let is : m ≡ min m n = omega arith in
        subst (λ (k : ℕ). IsLeast Either k) is (record { has = inl p.has; least = above m p.least (λ k h. omega (arith, q.least k h, left)) })
  ]
