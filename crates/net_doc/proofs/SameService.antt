-- Ranges of services with the same ends are the same.
use Rattle.std.proofs.Common.{◌≡◌, ℕ, ◌^◌, ◌<◌, ◌≤◌, ◌↔◌, Bool, true, false, Option, Some, None, IsSome, IfSome, refl, sym, ap, ◌∙◌, lt-ltb, le-leb, true≢false}
use Rattle.std.proofs.lemmas.Bool.{and_from, and_parts, leb-true, ltb-true}
use Rattle.net_model.specs.declared.services.Service.{Service}
use Rattle.net_model.proofs.SameService.{same_facts}
use Rattle.net_doc.specs.Services.{are_ends, service_range_if, service_range_from}

if_ends : (s : Service) (test : Bool) (e : are_ends s.low s.high ≡ test) → test ≡ true → service_range_if s.low s.high test e ≡ Some s
if_ends s false e h = absurd (true≢false (sym h))
if_ends s true e h = let parts = and_parts _ _ e in ap Some (sym (same_facts s (leb-true _ _ parts.0) (ltb-true _ _ parts.1)))

-- the ends of a range give it back
range-ends : (s : Service) → service_range_from s.low s.high ≡ Some s
range-ends s = if_ends s _ refl (and_from _ _ (le-leb _ _ s.ordered) (lt-ltb _ _ s.in_range))

no_ends : (low high : ℕ) (test : Bool) (e : are_ends low high ≡ test) → ((low ≤ high) × (high < 2 ^ 24) → ⊥) → service_range_if low high test e ≡ None
no_ends low high false e never = refl
no_ends low high true e never = let parts = and_parts _ _ e in absurd (never (leb-true _ _ parts.0, ltb-true _ _ parts.1))

-- what `Service::new` makes of the ends
pub made_range : (low high : ℕ) (r : Option Service) → (IsSome r ↔ ((low ≤ high) × (high < 2 ^ 24))) → IfSome r (λ s. (s.low ≡ low) × (s.high ≡ high)) → r ≡ service_range_from low high
made_range low high (Some s) valid value = sym (range-ends s) ∙ ap (λ l. service_range_from l s.high) value.0 ∙ ap (service_range_from low) value.1
made_range low high None valid value = sym (no_ends low high _ refl (λ ends. true≢false (sym (valid.1 ends))))
