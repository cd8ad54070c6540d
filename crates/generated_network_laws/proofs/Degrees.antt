-- At most three links end at a router of a generated network.
use Rattle.std.proofs.Common.{◌≡◌, ℕ, zero, suc, ◌+◌, ◌-◌, ◌*◌, ◌/◌, ◌%◌, ◌<◌, ◌≤◌, ◌==◌, ◌⊎◌, inl, inr, nat_le, Bool, true, false, if◌then◌else◌, length, sym, ap, ◌∙◌, arith, ⊎_elim}
use Rattle.std.proofs.lemmas.Bool.{cases_lt, cases_eq, cases_Bool, cond-true, cond-false, eq-eqb, ne_eqb, le-leb, lt-leb}
use Rattle.std.proofs.Math.Nat.{mod-eq_of_lt, mul-mod_left}
use Rattle.net_gen.specs.Plans.{link_count, next, a_router, b_router, has_end}
use Rattle.net_gen.proofs.Counted.{length_kept, length_left}
use Rattle.generated_network_laws.proofs.Plans.{passed, ends-are}
use Rattle.generated_network_laws.proofs.Said.{links_of}

-- one number more passes, or not
step-kept : (p : ℕ → Bool) (m : ℕ) → p (m + 1) ≡ true → passed p (suc m) ≡ passed p m + 1
step-kept p m has = let next : suc m ≡ m + 1 = omega arith in ap (λ k. passed p k) next ∙ length_kept p m has

step-left : (p : ℕ → Bool) (m : ℕ) → p (m + 1) ≡ false → passed p (suc m) ≡ passed p m
step-left p m has = let next : suc m ≡ m + 1 = omega arith in ap (λ k. passed p k) next ∙ length_left p m has

step-more : (p : ℕ → Bool) (m : ℕ) → passed p m ≤ passed p (suc m)
step-more p m = ⊎_elim
    (λ (has : p (m + 1) ≡ true). let more = step-kept p m has in omega arith)
    (λ (lacks : p (m + 1) ≡ false). let same = step-left p m lacks in omega arith)
    (cases_Bool (p (m + 1)))

-- one number is itself at most once
passed-one : (v m : ℕ) → (passed (λ l. l == v) m ≤ 1) × (m < v → passed (λ l. l == v) m ≤ 0)
passed-one v zero = (omega arith, λ low. omega arith)
passed-one v (suc m) =
    let before = passed-one v m in
    ⊎_elim
    (λ (same : m + 1 ≡ v).
    let none : passed (λ l. l == v) m ≤ 0 = before.1 (omega arith) in
    let more = step-kept (λ l. l == v) m (eq-eqb (m + 1) v same) in
    (omega arith, λ low. absurd (omega arith)))
    (λ (other : m + 1 ≡ v → ⊥).
    let few : passed (λ l. l == v) m ≤ 1 = before.0 in
    let kept = step-left (λ l. l == v) m (ne_eqb (m + 1) v other) in
    (omega arith, λ low. let none : passed (λ l. l == v) m ≤ 0 = before.1 (omega arith) in omega arith))
    (cases_eq (m + 1) v)

-- numbers that are among three are no more than these
passed-among : (p : ℕ → Bool) (u v w m : ℕ) → ((l : ℕ) → 1 ≤ l → l ≤ m → p l ≡ true → (l ≡ u) ⊎ ((l ≡ v) ⊎ (l ≡ w))) →
    passed p m ≤ passed (λ l. l == u) m + passed (λ l. l == v) m + passed (λ l. l == w) m
passed-among p u v w zero among = omega arith
passed-among p u v w (suc m) among =
    let before = passed-among p u v w m (λ l low high has. among l low (omega arith) has) in
    let one = step-more (λ l. l == u) m in
    let two = step-more (λ l. l == v) m in
    let three = step-more (λ l. l == w) m in
    ⊎_elim
    (λ (has : p (m + 1) ≡ true).
    let more = step-kept p m has in
    elim (among (m + 1) (omega arith) (omega arith) has) [
      | inl first ↦ let here = step-kept (λ l. l == u) m (eq-eqb (m + 1) u first) in omega arith
      | inr (inl second) ↦ let here = step-kept (λ l. l == v) m (eq-eqb (m + 1) v second) in omega arith
      | inr (inr third) ↦ let here = step-kept (λ l. l == w) m (eq-eqb (m + 1) w third) in omega arith
    ])
    (λ (lacks : p (m + 1) ≡ false). let same = step-left p m lacks in omega arith)
    (cases_Bool (p (m + 1)))

-- the link around the ring that comes before the router's own, and the one across it
before : ℕ → ℕ → ℕ
before n router = if router == 1 then n else router - 1

across : ℕ → ℕ → ℕ
across n router = if nat_le router (n / 2) then n + router else n + router - n / 2

before-is : (n router l : ℕ) → 2 ≤ n → 1 ≤ l → l ≤ n → next n l ≡ router → l ≡ before n router
unfolding before
before-is n router l some low high is = ⊎_elim
    (λ (below : l < n).
    let whole : l % n ≡ l = mod-eq_of_lt below in
    let other : router ≡ 1 → ⊥ = λ same. omega arith in
    let here : before n router ≡ router - 1 = cond-false (router == 1) n (router - 1) (ne_eqb router 1 other) in
    omega arith)
    (λ (last : n ≤ l).
    let same : l ≡ 1 * n = omega arith in
    let none : l % n ≡ 0 = ap (λ r. r % n) same ∙ mul-mod_left 1 n in
    let first : router ≡ 1 = omega arith in
    let here : before n router ≡ n = cond-true (router == 1) n (router - 1) (eq-eqb router 1 first) in
    omega arith)
    (cases_lt l n)

across-a : (n router l : ℕ) → n < l → l ≤ link_count n → l - n ≡ router → l ≡ across n router
unfolding across
across-a n router l high most is =
    let low : router ≤ n / 2 = omega arith in
    let here : across n router ≡ n + router = cond-true (nat_le router (n / 2)) (n + router) (n + router - n / 2) (le-leb router (n / 2) low) in
    omega arith

across-b : (n router l : ℕ) → n < l → l - n + n / 2 ≡ router → l ≡ across n router
unfolding across
across-b n router l high is =
    let above : n / 2 < router = omega arith in
    let here : across n router ≡ n + router - n / 2 = cond-false (nat_le router (n / 2)) (n + router) (n + router - n / 2) (lt-leb router (n / 2) above) in
    omega arith

ends-among : (n router l : ℕ) → 2 ≤ n → 1 ≤ l → l ≤ link_count n → has_end n router l ≡ true → (l ≡ router) ⊎ ((l ≡ before n router) ⊎ (l ≡ across n router))
ends-among n router l some low most has = ⊎_elim
    (λ (far : n < l).
    let test : nat_le l n ≡ false = lt-leb l n far in
    let a-is : a_router n l ≡ l - n = cond-false (nat_le l n) l (l - n) test in
    let b-is : b_router n l ≡ l - n + n / 2 = cond-false (nat_le l n) (next n l) (l - n + n / 2) test in
    elim (ends-are n router l has) [
      | inl a ↦ inr (inr (across-a n router l far most (sym a-is ∙ a)))
      | inr b ↦ inr (inr (across-b n router l far (sym b-is ∙ b)))
    ])
    (λ (ring : l ≤ n).
    let test : nat_le l n ≡ true = le-leb l n ring in
    let a-is : a_router n l ≡ l = cond-true (nat_le l n) l (l - n) test in
    let b-is : b_router n l ≡ next n l = cond-true (nat_le l n) (next n l) (l - n + n / 2) test in
    elim (ends-are n router l has) [
      | inl a ↦ inl (sym a-is ∙ a)
      | inr b ↦ inr (inl (before-is n router l some low ring (sym b-is ∙ b)))
    ])
    (cases_lt n l)

pub degree : (n router : ℕ) → 2 ≤ n → length (links_of n router) ≤ 3
degree n router some =
    let m = link_count n in
    let few = passed-among (has_end n router) router (before n router) (across n router) m (λ l low high has. ends-among n router l some low high has) in
    let one : passed (λ l. l == router) m ≤ 1 = (passed-one router m).0 in
    let two : passed (λ l. l == before n router) m ≤ 1 = (passed-one (before n router) m).0 in
    let three : passed (λ l. l == across n router) m ≤ 1 = (passed-one (across n router) m).0 in
    omega arith
