-- A service is in a range exactly where it lies between the range's ends. Two ranges share one exactly where each begins before
-- the other ends: the greater of their beginnings is in both.
use Rattle.std.proofs.Common.{◌≤◌, inl, inr, ℕ, arith, rules}
use Rattle.std.proofs.lemmas.Bool.{and_parts, leb-true}
use Rattle.std.proofs.lemmas.Bool.Decides.{leb_tells}
use Rattle.net_model.specs.declared.services.Service.{Service}
use Rattle.net_model.specs.Services.{Serves, ShareService}

pub bounds : (s : Service) (n : ℕ) → Serves s n → (s.low ≤ n) × (n ≤ s.high)
bounds s n h = let (a, b) = and_parts _ _ h in (leb-true _ _ a, leb-true _ _ b)

pub serve : (s : Service) (n : ℕ) → s.low ≤ n → n ≤ s.high → Serves s n
serve s n l h = search rules

pub share : (s t : Service) → s.low ≤ t.high → t.low ≤ s.high → ShareService s t
share s t a b =
    let p : s.low ≤ s.high = s.ordered in
    let q : t.low ≤ t.high = t.ordered in
    elim (leb_tells s.low t.low) [
      | inl below ↦ (t.low, serve s t.low below.1 b, serve t t.low (omega arith) q)
      | inr above ↦ (s.low, serve s s.low (omega arith) p, serve t s.low (omega (arith, above.1)) a)
    ]

pub meet : (s t : Service) → ShareService s t → (s.low ≤ t.high) × (t.low ≤ s.high)
meet s t shared =
    let one = bounds s shared.0 shared.1 in
    let other = bounds t shared.0 shared.2 in
    (omega (arith, one.0, other.1), omega (arith, one.1, other.0))

pub first-serves : (s : Service) → Serves s s.low
first-serves s = let p : s.low ≤ s.high = s.ordered in serve s s.low (omega arith) p
