-- How a range of services is divided at the numbers in a list.
use Rattle.std.specs.Prelude.{◌≡◌, ℕ, ◌+◌, ◌<◌, ◌≤◌, ◌&&◌, ◌++◌, nat_lt, nat_le, List, [], ◌∷◌}
use Rattle.std.specs.Prelude.{if◌then◌else◌}
use Rattle.net_model.specs.declared.services.Service.{Service}

-- the numbers inside the whole, except for its first, at which the mark begins or has just ended
abbrev pub inner_ends : Service → Service → List ℕ
inner_ends whole mark =
    (if nat_lt whole.low mark.low && nat_le mark.low whole.high then mark.low ∷ [] else []) ++
    (if nat_le whole.low mark.high && nat_lt mark.high whole.high then (mark.high + 1) ∷ [] else [])

-- the numbers rise, above the one and up to the other
abbrev pub RiseBetween : ℕ → List ℕ → ℕ → Type 0
RiseBetween low [] high = low ≤ high
RiseBetween low (c ∷ cs) high = (low < c) × RiseBetween c cs high

-- the ranges follow one another from the one number to the other, and each but the first begins at
-- the next number of the list
abbrev pub ArePartsBetween : ℕ → List ℕ → ℕ → List Service → Type 0
ArePartsBetween low cs high [] = ⊥
ArePartsBetween low [] high (p ∷ ps) = (p.low ≡ low) × (p.high ≡ high) × (ps ≡ [])
ArePartsBetween low (c ∷ cs) high (p ∷ ps) =
    (p.low ≡ low) × (p.high + 1 ≡ c) × ArePartsBetween c cs high ps
