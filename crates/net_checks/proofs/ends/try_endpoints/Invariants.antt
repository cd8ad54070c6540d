use Rattle.std.specs.Prelude.{ℕ, All, take}
use Rattle.net_model.specs.declared.policies.Policy.{Policy}
use Rattle.arc_base.specs.declared.refusal.Kind.TheVariants as kinds
use Rattle.net_rules.specs.Addressing.{HasEndpoints}
use Rattle.net_rules.proofs.Firsts.{NoneTo}
use Rattle.net_checks.proofs.ends.try_endpoints.Given as goal

abbrev pub invariant-loop-place : goal.invariant-loop-place
invariant-loop-place l = record {
  none : NoneTo kinds.Endpoint (λ (place : ℕ) (policy : Policy). ¬ HasEndpoints l.net policy.from policy.to) l.policy-items l.place;
  ends : All (λ (policy : Policy). HasEndpoints l.net policy.from policy.to) (take l.place l.policy-items);
}
