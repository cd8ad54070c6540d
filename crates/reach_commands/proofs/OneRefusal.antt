-- The first refusal of a command that judges one more policy: of the policy's prefixes or before, and of the number of classes.
use Rattle.std.proofs.Common.{◌≡◌, ◌⊎◌, inl, inr, ℕ, List, [], sym, ap, ◌∙◌}
use Rattle.arc_base.specs.declared.refusal.Kind.TheVariants.{Limit}
use Rattle.arc_base.specs.declared.refusal.LimitKind.TheVariants.{Classes}
use Rattle.arc_outside.specs.Files.{Files}
use Rattle.net_model.specs.declared.policies.Document.{Document}
use Rattle.net_model.specs.declared.policies.Policy.{Policy}
use Rattle.net_model.specs.declared.rows.Network.{Network}
use Rattle.net_rules.specs.Addressing.{HasEndpoints}
use Rattle.run_files.specs.declared.limits.Limits.TheVariants.{Judging}
use Rattle.run_files.specs.declared.outcome.FileRefusal.{FileRefusal}
use Rattle.run_files.specs.Refusals.{refusal_of}
use Rattle.run_inputs.specs.Counts.{PoliciesHaveFewClasses, HasManyClasses}
use Rattle.run_inputs.specs.Determined.{IsDetermined}
use Rattle.run_inputs.specs.Inputs.{HoldsInput, IsInputRefusal}
use Rattle.run_inputs.proofs.ClassCounts.{few_or_many, one_count}
use Rattle.run_inputs.proofs.Determined.{determined}
use Rattle.reach_commands.specs.Added.{policies_with, RefusesEnds, RefusesClassesWith}
use Rattle.reach_commands.proofs.OneInput.{one_input}

module _ (document : List ℕ) (policy : Policy) (files : Files) where
  known : IsDetermined Judging [] document files
  known = determined Judging [] document files

  -- a refusal of the input or of the policy's prefixes
  abbrev pub Early : FileRefusal → Type 0
  Early r = IsInputRefusal Judging [] document files r ⊎ RefusesEnds document policy files r

  pub early_none : (doc : Document) (net : Network) → HoldsInput Judging [] document files doc net → HasEndpoints net policy.from policy.to → (r : FileRefusal) → Early r → ⊥
  early_none doc net input ends r (inl u) = known.not_both doc net r input u
  early_none doc net input ends r (inr u) = u.ends (one_input document files doc u.doc net u.net input u.input (λ d n. HasEndpoints n policy.from policy.to) ends)

  pub early_once : (r s : FileRefusal) → Early r → Early s → r ≡ s
  early_once r s (inl u) (inl v) = known.one_refusal r s u v
  early_once r s (inl u) (inr v) = absurd (known.not_both v.doc v.net r v.input u)
  early_once r s (inr u) (inl v) = absurd (known.not_both u.doc u.net s u.input v)
  early_once r s (inr u) (inr v) = u.told ∙ sym v.told

  -- a network with few classes is not refused for them
  pub classes_none : (doc : Document) (net : Network) → HoldsInput Judging [] document files doc net → PoliciesHaveFewClasses net (policies_with doc policy) →
      (r : FileRefusal) → RefusesClassesWith document policy files r → ⊥
  classes_none doc net input few r u =
      few_or_many u.net (policies_with u.doc policy) u.count (one_input document files doc u.doc net u.net input u.input (λ d n. PoliciesHaveFewClasses n (policies_with d policy)) few) u.many

  pub classes_once : (r s : FileRefusal) → RefusesClassesWith document policy files r → RefusesClassesWith document policy files s → r ≡ s
  classes_once r s u v =
      let count : u.count ≡ v.count =
      one_count v.net (policies_with v.doc policy) u.count v.count
      (one_input document files u.doc v.doc u.net v.net u.input v.input (λ d n. HasManyClasses n (policies_with d policy) u.count) u.many) v.many in
      u.told ∙ ap (λ (n : ℕ). refusal_of document 0 (Limit Classes n)) count ∙ sym v.told
