-- The leaves of a range of services under marks. Marks are ranges that traffic is told apart by; a
-- leaf is as long as it can be without a mark that begins or ends between two of its services.
use Rattle.std.specs.Prelude.{◌≡◌, ◌≢◌, ℕ, ◌+◌, ◌<◌, ◌≤◌, ◌↔◌, ◌⊎◌, List, AllPairs, Contains}
use Rattle.net_model.specs.declared.services.Service.{Service}
use Rattle.net_model.specs.Services.{serves, Serves, IsServiceInside}

-- the marks cut the range: one of them has one of two neighbouring services of the range, and not
-- the other
pub record IsCut (marks : List Service) (s : Service) : Type 0 where
  pub mark : Service
  pub one : Contains marks mark
  pub service : ℕ
  pub first : Serves s service
  pub next : Serves s (service + 1)
  pub parted : serves mark service ≢ serves mark (service + 1)

-- the range is a leaf of the whole: one of the longest ranges inside the whole that the marks do
-- not cut
pub record IsServiceLeaf (marks : List Service) (whole leaf : Service) : Type 0 where
  pub part : IsServiceInside leaf whole
  pub uncut : ¬ IsCut marks leaf
  pub longest : (s : Service) → IsServiceInside leaf s → IsServiceInside s whole →
      ¬ IsCut marks s → s ≡ leaf

-- the list has the leaves of the whole, and nothing else, in rising order of their services
pub record AreServiceLeaves (marks : List Service) (whole : Service)
    (leaves : List Service) : Type 0 where
  pub rising : AllPairs (λ s t. s.low < t.low) leaves
  pub each : (s : Service) → Contains leaves s ↔ IsServiceLeaf marks whole s

-- a leaf of the whole other than the first may begin here: after the whole's first service, where a
-- mark begins or has just ended
pub record IsCutAt (marks : List Service) (whole : Service) (service : ℕ) : Type 0 where
  pub above : whole.low < service
  pub within : service ≤ whole.high
  pub mark : Service
  pub one : Contains marks mark
  pub end : (service ≡ mark.low) ⊎ (service ≡ mark.high + 1)

-- a range that the marks do not cut is its own one leaf
abbrev pub UncutIsLeaf : Type 0
UncutIsLeaf =
    (marks : List Service) (whole : Service) → ¬ IsCut marks whole →
    (s : Service) → IsServiceLeaf marks whole s ↔ (s ≡ whole)

-- a range that is cut has the leaves of the two parts that the cut gives
abbrev pub PartsHaveLeaves : Type 0
PartsHaveLeaves =
    (marks : List Service) (whole lower upper : Service) → lower.low ≡ whole.low →
    lower.high + 1 ≡ upper.low → upper.high ≡ whole.high →
    IsCutAt marks whole upper.low → (s : Service) →
    IsServiceLeaf marks whole s ↔ (IsServiceLeaf marks lower s ⊎ IsServiceLeaf marks upper s)

-- a range has one list of leaves
abbrev pub HasOneListOfServiceLeaves : Type 0
HasOneListOfServiceLeaves =
    (marks : List Service) (whole : Service) →
    ((leaves : List Service) × AreServiceLeaves marks whole leaves) ×
    ((xs ys : List Service) → AreServiceLeaves marks whole xs →
    AreServiceLeaves marks whole ys → xs ≡ ys)
