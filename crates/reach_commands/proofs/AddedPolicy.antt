-- One more policy at the end of a list.
use Rattle.std.proofs.Common.{◌≡◌, ℕ, zero, suc, ◌<◌, ◌⊎◌, inl, inr, List, [], ◌∷◌, ◌++◌, length, refl, sym, subst, arith}
use Rattle.std.specs.Prelude.{Some, Err, Contains, slice_get}
use Rattle.std.proofs.lemmas.List.Elements.{Contains-append_right}
use Rattle.arc_base.proofs.Items.{Contains-head}
use Rattle.arc_base.specs.declared.refusal.Kind.TheVariants.{Endpoint}
use Rattle.net_model.specs.declared.policies.Policy.{Policy}
use Rattle.net_model.specs.declared.rows.Network.{Network}
use Rattle.net_rules.specs.Addressing.{HasEndpoints}
use Rattle.run_files.specs.declared.outcome.Stop.{Stop}
use Rattle.run_files.specs.declared.outcome.Stop.TheVariants as stops
use Rattle.run_files.specs.Refusals.{refusal_of}
use Rattle.reach_commands.specs.Added.{AddsPolicy}

-- the refusal of the policy's prefixes
pub ends_refused : (document : List ℕ) (net : Network) (policies : List Policy) (policy : Policy) (stop : Stop) → ¬ HasEndpoints net policy.from policy.to →
    (stop ≡ stops.Memory) ⊎ (stop ≡ stops.Refused (refusal_of document 0 Endpoint)) → AddsPolicy document net policies policy (Err stop)
ends_refused document net policies policy stop ends (inl memory) = subst (λ (s : Stop). AddsPolicy document net policies policy (Err s)) (sym memory) tt
ends_refused document net policies policy stop ends (inr is) = subst (λ (s : Stop). AddsPolicy document net policies policy (Err s)) (sym is) (ends, refl)

-- an item of a list with one more item
pub read_before : {X : Type 0} (xs : List X) (x : X) (k : ℕ) → k < length xs → slice_get (xs ++ x ∷ []) k ≡ slice_get xs k
read_before [] x k within = absurd (omega (arith, within))
read_before (y ∷ xs) x zero within = refl
read_before (y ∷ xs) x (suc k) within = read_before xs x k (omega (arith, within))

pub read_last : {X : Type 0} (xs : List X) (x : X) → slice_get (xs ++ x ∷ []) (length xs) ≡ Some x
read_last [] x = refl
read_last (y ∷ xs) x = read_last xs x

-- the policy that was added is one of the policies
pub is_one : (policies judged : List Policy) (policy : Policy) → judged ≡ policies ++ policy ∷ [] → Contains judged policy
is_one policies judged policy made =
    subst (λ (ps : List Policy). Contains ps policy) (sym made) (Contains-append_right policies (policy ∷ []) policy (Contains-head policy []))
