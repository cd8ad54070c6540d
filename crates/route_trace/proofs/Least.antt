-- Least numbers of a set, as more is put into the set.
use Rattle.std.proofs.Common.{◌≡◌, ℕ, ◌≤◌, ◌⊎◌, ⊎_elim, inl, inr, Option, Some, None, min, refl, subst, arith}
use Rattle.std.proofs.lemmas.Bool.{cases_lt}
use Rattle.std.proofs.lemmas.Option.{none-some, same_Some}
use Rattle.route_trace.specs.Steps.{IsLeastOf, lesser}

-- the least of one set is that of another that holds it all, and nothing below it
pub transfer : (A B : ℕ → Type 0) (o : Option ℕ) → ((k : ℕ) → A k → B k) → ((k : ℕ) → B k → (m : ℕ) × A m × (m ≤ k)) → IsLeastOf A o → IsLeastOf B o
transfer A B None to back none = λ k b. let w : (m : ℕ) × A m × (m ≤ k) = back k b in none w.0 w.1
transfer A B (Some n) to back least = (to n least.0, λ k b. let w : (m : ℕ) × A m × (m ≤ k) = back k b in omega (arith, least.1 w.0 w.1, w.2))

-- the least of two sets with the same numbers
pub same_set : (A B : ℕ → Type 0) (o : Option ℕ) → ((k : ℕ) → A k → B k) → ((k : ℕ) → B k → A k) → IsLeastOf A o → IsLeastOf B o
same_set A B o to back least = transfer A B o to (λ k b. (k, back k b, omega arith)) least

lesser_is_one : (A : ℕ → Type 0) (m x : ℕ) → A m → A (min m x) ⊎ (min m x ≡ x)
lesser_is_one A m x a =
    elim (cases_lt m x) [
      | inl less ↦ let e : m ≡ min m x = omega arith in inl (subst A e a)
      | inr more ↦ inr (omega arith)
    ]

-- one number more
pub one_more : (A : ℕ → Type 0) (o : Option ℕ) (x : ℕ) → IsLeastOf A o → IsLeastOf (λ n. A n ⊎ (n ≡ x)) (Some (lesser o x))
one_more A None x none = (inr refl, λ n h. ⊎_elim (λ a. absurd (none n a)) (λ e. omega (arith, e)) h)
one_more A (Some m) x least =
    (lesser_is_one A m x least.0, λ n h. ⊎_elim (λ a. omega (arith, least.1 n a)) (λ e. omega (arith, e)) h)

-- where the set holds a number, it has a least one
pub has_least : (A : ℕ → Type 0) (o : Option ℕ) (n : ℕ) → IsLeastOf A o → A n → (m : ℕ) × (o ≡ Some m) × A m × (m ≤ n)
has_least A None n none a = absurd (none n a)
has_least A (Some m) n least a = (m, refl, least.0, least.1 n a)

-- a least number is one of the set
pub holds_least : (A : ℕ → Type 0) (o : Option ℕ) (n : ℕ) → IsLeastOf A o → o ≡ Some n → A n × ((k : ℕ) → A k → n ≤ k)
holds_least A None n none e = absurd (none-some n e)
holds_least A (Some m) n least e =
    let same : m ≡ n = same_Some m n e in (subst A same least.0, λ k a. omega (arith, same, least.1 k a))
