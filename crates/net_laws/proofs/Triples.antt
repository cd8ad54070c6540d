-- Sums over triples of numbers, the first two below n and the third below m, and how many services a range has.
use Rattle.std.proofs.Common.{◌≡◌, ℕ, ◌+◌, ◌-◌, ◌*◌, ◌^◌, ◌<◌, ◌≤◌, inl, inr, ap, refl, ◌∙◌, arith}
use Rattle.std.proofs.Math.Nat.{mul_comm}
use Rattle.std.proofs.lemmas.Bool.{cases_Bool}
use Rattle.net_model.specs.declared.services.Service.{Service}
use Rattle.net_model.specs.Services.{Serves, serves, services}
use Rattle.net_model.proofs.ServiceRanges.{bounds, serve}
use Rattle.net_laws.proofs.Counting.{total, total-add, total-cong, total-const, total-scale, total-sum, total-mono, total-tight, ind}

-- the sum over these triples
abbrev pub triples : ℕ → ℕ → (ℕ → ℕ → ℕ → ℕ) → ℕ
triples n m f = total n (λ a. total n (λ b. total m (λ c. f a b c)))

pub triples-none : (n m : ℕ) → triples n m (λ a b c. 0) ≡ 0
triples-none n m =
    let rows : (a : ℕ) → a < n → total n (λ b. total m (λ c. 0)) ≡ 0 =
    λ a l. total-const n 0 (λ b. total m (λ c. 0)) (λ b k. total-const m 0 (λ c. 0) (λ c j. refl) ∙ (omega arith)) ∙ (omega arith) in
    total-const n 0 (λ a. total n (λ b. total m (λ c. 0))) rows ∙ (omega arith)

pub triples-sum : (n m : ℕ) (f g : ℕ → ℕ → ℕ → ℕ) → triples n m (λ a b c. f a b c + g a b c) ≡ triples n m f + triples n m g
triples-sum n m f g =
    let inner : (a b : ℕ) → b < n → total m (λ c. f a b c + g a b c) ≡ total m (f a b) + total m (g a b) =
    λ a b l. total-sum m (f a b) (g a b) in
    let middle : (a : ℕ) → a < n → total n (λ b. total m (λ c. f a b c + g a b c)) ≡ total n (λ b. total m (f a b)) + total n (λ b. total m (g a b)) =
    λ a l. total-cong n (λ b. total m (λ c. f a b c + g a b c)) (λ b. total m (f a b) + total m (g a b)) (inner a)
    ∙ total-sum n (λ b. total m (f a b)) (λ b. total m (g a b)) in
    total-cong n (λ a. total n (λ b. total m (λ c. f a b c + g a b c))) (λ a. total n (λ b. total m (f a b)) + total n (λ b. total m (g a b))) middle
    ∙ total-sum n (λ a. total n (λ b. total m (f a b))) (λ a. total n (λ b. total m (g a b)))

-- a factor on the right stands before the sum too
total-times : (n x : ℕ) (f : ℕ → ℕ) → total n (λ k. f k * x) ≡ total n f * x
total-times n x f =
    total-cong n (λ k. f k * x) (λ k. x * f k) (λ k l. mul_comm (f k) x) ∙ total-scale n x f ∙ mul_comm x (total n f)

pub triples-product : (n m : ℕ) (f g h : ℕ → ℕ) → triples n m (λ a b c. f a * g b * h c) ≡ total n f * total n g * total m h
triples-product n m f g h =
    let inner : (a b : ℕ) → b < n → total m (λ c. f a * g b * h c) ≡ f a * g b * total m h = λ a b l. total-scale m (f a * g b) h in
    let middle : (a : ℕ) → a < n → total n (λ b. total m (λ c. f a * g b * h c)) ≡ f a * total n g * total m h =
    λ a l. total-cong n (λ b. total m (λ c. f a * g b * h c)) (λ b. f a * g b * total m h) (inner a)
    ∙ total-times n (total m h) (λ b. f a * g b) ∙ ap (λ (x : ℕ). x * total m h) (total-scale n (f a) g) in
    total-cong n (λ a. total n (λ b. total m (λ c. f a * g b * h c))) (λ a. f a * total n g * total m h) middle
    ∙ total-times n (total m h) (λ a. f a * total n g) ∙ ap (λ (x : ℕ). x * total m h) (total-times n (total n g) f)

-- where one function is no more than another and its sum no less, they are equal
module _ (n m : ℕ) (f g : ℕ → ℕ → ℕ → ℕ) (below : (a b c : ℕ) → g a b c ≤ f a b c) (full : triples n m f ≤ triples n m g) where
  cells : (a b : ℕ) → b < n → total m (λ c. g a b c) ≤ total m (λ c. f a b c)
  cells a b k = total-mono m (f a b) (g a b) (λ c l. below a b c)

  rows : (a : ℕ) → a < n → total n (λ b. total m (λ c. g a b c)) ≤ total n (λ b. total m (λ c. f a b c))
  rows a k = total-mono n (λ b. total m (f a b)) (λ b. total m (g a b)) (cells a)

  pub triples-tight : (a b c : ℕ) → a < n → b < n → c < m → f a b c ≤ g a b c
  triples-tight a b c k l j =
      let row : total n (λ y. total m (f a y)) ≤ total n (λ y. total m (g a y)) =
      total-tight n (λ x. total n (λ y. total m (f x y))) (λ x. total n (λ y. total m (g x y))) rows full a k in
      let cell : total m (f a b) ≤ total m (g a b) = total-tight n (λ y. total m (f a y)) (λ y. total m (g a y)) (cells a) row b l in
      total-tight m (f a b) (g a b) (λ z i. below a b z) cell c j

-- a service that the range does not have counts as 0
not_served : (s : Service) (n : ℕ) → (Serves s n → ⊥) → ind (serves s n) ≡ 0
not_served s n h = elim (cases_Bool (serves s n)) [
  | inl served ↦ absurd (h served)
  | inr off ↦ ap ind off
]

-- a range has as many services as its size says
pub counted_services : (m : ℕ) (s : Service) → m ≡ 2 ^ 24 → total m (λ k. ind (serves s k)) ≡ services s
counted_services m s whole =
    let ordered : s.low ≤ s.high = s.ordered in
    let in_range : s.high < 2 ^ 24 = s.in_range in
    let split : m ≡ (s.low + ((s.high - s.low) + 1)) + (m - (s.high + 1)) = omega (arith, whole, ordered, in_range) in
    let before : total s.low (λ k. ind (serves s k)) ≡ 0 =
    total-const s.low 0 (λ k. ind (serves s k)) (λ k l. not_served s k (λ h. omega (arith, l, (bounds s k h).0))) ∙ (omega arith) in
    let within : total ((s.high - s.low) + 1) (λ k. ind (serves s (s.low + k))) ≡ (s.high - s.low) + 1 =
    total-const ((s.high - s.low) + 1) 1 (λ k. ind (serves s (s.low + k))) (λ k l. ap ind (serve s (s.low + k) (omega arith) (omega (arith, l, ordered)))) ∙ (omega arith) in
    let after : total (m - (s.high + 1)) (λ k. ind (serves s ((s.low + ((s.high - s.low) + 1)) + k))) ≡ 0 =
    total-const (m - (s.high + 1)) 0 (λ k. ind (serves s ((s.low + ((s.high - s.low) + 1)) + k)))
    (λ k l. not_served s ((s.low + ((s.high - s.low) + 1)) + k) (λ h. omega (arith, ordered, (bounds s ((s.low + ((s.high - s.low) + 1)) + k) h).1))) ∙ (omega arith) in
    let first : total (s.low + ((s.high - s.low) + 1)) (λ k. ind (serves s k)) ≡ (s.high - s.low) + 1 =
    total-add s.low ((s.high - s.low) + 1) (λ k. ind (serves s k)) ∙ (omega (arith, before, within)) in
    ap (λ (x : ℕ). total x (λ k. ind (serves s k))) split
    ∙ total-add (s.low + ((s.high - s.low) + 1)) (m - (s.high + 1)) (λ k. ind (serves s k)) ∙ (omega (arith, first, after))
