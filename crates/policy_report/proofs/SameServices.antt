-- Ranges of services with the same ends are the same, and what two ends make.
use Rattle.std.proofs.Common.{◌≡◌, ℕ, ◌^◌, ◌<◌, ◌≤◌, ◌&&◌, nat_lt, nat_le, Bool, true, false, Option, Some, None, IsSome, IfSome, ◌↔◌, refl, sym, ap, subst, ◌∙◌, arith, lt-ltb, le-leb, true≢false}
use Rattle.std.proofs.lemmas.Bool.{and_from, and_parts, leb-true}
use Rattle.std.proofs.lemmas.Option.{none-some, same_Some}
use Rattle.net_model.specs.declared.services.Service.{Service}
use Rattle.net_model.proofs.SameService.{same_service}
use Rattle.net_model.specs.Services.{whole_service}
use Rattle.policy_report.specs.ServiceWords.{is_whole, range_if, range_from}

-- the range that has each service is that of all
pub whole_is : (s : Service) → is_whole s ≡ true → s ≡ whole_service
whole_is s e =
    let (low, high) = and_parts _ _ e in
    let below : s.low ≤ 0 = leb-true _ _ low in
    let above : 16777215 ≤ s.high = leb-true _ _ high in
    let small : s.high < 2 ^ 24 = s.in_range in
    same_service s whole_service (omega arith) (omega arith)

-- the ends of a range pass the test
are_ends : (s : Service) → (nat_le s.low s.high && nat_lt s.high 16777216) ≡ true
are_ends s = and_from _ _ (le-leb _ _ s.ordered) (lt-ltb _ _ s.in_range)

if_ends : (s : Service) (test : Bool) (e : (nat_le s.low s.high && nat_lt s.high 16777216) ≡ test) → test ≡ true → range_if s.low s.high test e ≡ Some s
if_ends s false e h = absurd (true≢false (sym h))
if_ends s true e h = ap Some (same_service _ s refl refl)

-- the ends of a range give it back
pub range_back : (s : Service) → range_from s.low s.high ≡ Some s
range_back s = if_ends s _ refl (are_ends s)

if_some : (low high : ℕ) (test : Bool) (e : (nat_le low high && nat_lt high 16777216) ≡ test) (s : Service) → range_if low high test e ≡ Some s → (s.low ≡ low) × (s.high ≡ high)
if_some low high false e s h = absurd (none-some s h)
if_some low high true e s h = let same = same_Some _ s h in (sym (ap (λ (t : Service). t.low) same), sym (ap (λ (t : Service). t.high) same))

-- a range that two ends give has them
pub range_ends : (low high : ℕ) (s : Service) → range_from low high ≡ Some s → (s.low ≡ low) × (s.high ≡ high)
range_ends low high s e = if_some low high _ refl s e

-- ends that are no range's give none
range_none : (low high : ℕ) → ((s : Service) → s.low ≡ low → s.high ≡ high → ⊥) → range_from low high ≡ None
range_none low high never = by (range_from low high) refl
  where
    by : (o : Option Service) → range_from low high ≡ o → range_from low high ≡ None
    by None e = e
    by (Some s) e = let (at_low, at_high) = range_ends low high s e in absurd (never s at_low at_high)

-- what `Service::new` makes of two ends
pub made_range : (low high : ℕ) (o : Option Service) → (IsSome o ↔ ((low ≤ high) × (high < 2 ^ 24))) → IfSome o (λ s. (s.low ≡ low) × (s.high ≡ high)) → o ≡ range_from low high
made_range low high (Some s) valid value = sym (range_back s) ∙ ap (λ l. range_from l s.high) value.0 ∙ ap (range_from low) value.1
made_range low high None valid value =
    sym (range_none low high (λ s at_low at_high.
    let P : ℕ → ℕ → Type 0 = λ l h. (l ≤ h) × (h < 2 ^ 24) in
    let here : P low high = subst (λ (h : ℕ). P low h) at_high (subst (λ (l : ℕ). P l s.high) at_low (s.ordered, s.in_range)) in
    true≢false (sym (valid.1 here))))
