-- Two ranges of services share none, or the one lies in the other, or the other begins or ends inside
-- it. It takes a binary digit less to tell the services of half a range apart.
use Rattle.std.proofs.Common.{◌≡◌, ℕ, ◌+◌, ◌-◌, ◌*◌, ◌^◌, ◌<◌, ◌≤◌, inl, inr, true, false, arith}
use Rattle.std.specs.Prelude.{nat_lt, nat_le, ◌&&◌}
use Rattle.std.specs.Int.Count.{count_leading_zeros}
use Rattle.std.proofs.Math.Pow.{pow_mono}
use Rattle.std.proofs.lemmas.Bool.{and_cases, and_parts, or_parts, leb-true, leb-false, ltb-false, cases_lt}
use Rattle.std.proofs.lemmas.Nat.{leading_top, leading_length, pow-add}
use Rattle.net_model.specs.declared.services.Service.{Service}
use Rattle.net_model.specs.Services.{Serves, IsServiceInside, ShareService, services_meet}
use Rattle.net_model.proofs.ServiceRanges.{bounds, serve, share, meet}
use Rattle.witness_check.specs.Boxes.{splits_services, service_bits}

pub services_apart : (s t : Service) → services_meet s t ≡ false → (n : ℕ) → Serves s n → Serves t n → ⊥
services_apart s t off n in_s in_t =
    let ends : (s.low ≤ t.high) × (t.low ≤ s.high) = meet s t (n, in_s, in_t) in
    elim (and_cases (nat_le s.low t.high) (nat_le t.low s.high) off) [
      | inl h ↦ absurd (omega (arith, leb-false _ _ h, ends.0))
      | inr h ↦ absurd (omega (arith, leb-false _ _ h, ends.1))
    ]

-- a service that both have
pub common_service : (s t : Service) → services_meet s t ≡ true → ShareService s t
common_service s t both = share s t (leb-true _ _ (and_parts _ _ both).0) (leb-true _ _ (and_parts _ _ both).1)

begins_before : (s t : Service) → t.low ≤ s.high → (nat_lt s.low t.low && nat_le t.low s.high) ≡ false → t.low ≤ s.low
begins_before s t meets off =
    elim (and_cases (nat_lt s.low t.low) (nat_le t.low s.high) off) [
      | inl h ↦ ltb-false _ _ h
      | inr h ↦ absurd (omega (arith, leb-false _ _ h, meets))
    ]

ends_behind : (s t : Service) → s.low ≤ t.high → (nat_le s.low t.high && nat_lt t.high s.high) ≡ false → s.high ≤ t.high
ends_behind s t meets off =
    elim (and_cases (nat_le s.low t.high) (nat_lt t.high s.high) off) [
      | inl h ↦ absurd (omega (arith, leb-false _ _ h, meets))
      | inr h ↦ ltb-false _ _ h
    ]

-- a range that the other one does not split lies in it if they share a service
pub services_within : (s t : Service) → services_meet s t ≡ true → splits_services s t ≡ false → IsServiceInside s t
services_within s t both whole n at =
    let ends : (s.low ≤ t.high) × (t.low ≤ s.high) = meet s t (common_service s t both) in
    let off = or_parts (nat_lt s.low t.low && nat_le t.low s.high) (nat_le s.low t.high && nat_lt t.high s.high) whole in
    let low : t.low ≤ s.low = begins_before s t ends.1 off.0 in
    let high : s.high ≤ t.high = ends_behind s t ends.0 off.1 in
    let between : (s.low ≤ n) × (n ≤ s.high) = bounds s n at in
    serve t n (omega (arith, low, between.0)) (omega (arith, high, between.1))

-- half of a number has a binary digit less
digit_less : (a b : ℕ) → 0 < a → a < 2 ^ 24 → 2 * b ≤ a → 24 - count_leading_zeros 24 b < 24 - count_leading_zeros 24 a
digit_less a b pos less half =
    let (j, top, _, above) = leading_top 24 a pos less in
    let (m, length, _, near) = leading_length 24 b (omega (arith, less, half)) in
    let double : 2 ^ (1 + j) ≡ 2 * 2 ^ j = pow-add 2 1 j in
    elim (cases_lt j m) [
      | inl h ↦
          let at_least : 2 ^ (1 + j) ≤ 2 ^ m = pow_mono (omega (arith, h)) in
          absurd (omega (arith, at_least, near, above, half, double))
      | inr h ↦ omega (arith, h, top, length)
    ]

pub fewer_bits : (s : Service) (low high : ℕ) → s.low < s.high → 2 * (high - low) ≤ s.high - s.low → 24 - count_leading_zeros 24 (high - low) < service_bits s
fewer_bits s low high wide half =
    let top : s.high < 2 ^ 24 = s.in_range in
    digit_less (s.high - s.low) (high - low) (omega (arith, wide)) (omega (arith, top)) half
