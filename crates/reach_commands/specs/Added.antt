-- Commands that judge one more policy besides those of the document: one from a prefix of the words
-- to another, at the end of the policies.
use Rattle.std.specs.Prelude.{◌≡◌, ℕ, List, [], ◌∷◌, ◌++◌, Option, IfSome, Result, Ok, Err}
use Rattle.arc_base.specs.declared.prefix.Prefix.{Prefix}
use Rattle.arc_base.specs.declared.refusal.Kind.TheVariants.{Endpoint, Limit}
use Rattle.arc_base.specs.declared.refusal.LimitKind.TheVariants.{Classes}
use Rattle.arc_outside.specs.Files.{Files}
use Rattle.net_model.specs.declared.policies.Document.{Document}
use Rattle.net_model.specs.declared.policies.Policy.{Policy}
use Rattle.net_model.specs.declared.policies.PolicyKind.TheVariants.{Reach}
use Rattle.net_model.specs.declared.rows.Network.{Network}
use Rattle.net_model.specs.Services.{whole_service}
use Rattle.net_rules.specs.Addressing.{HasEndpoints}
use Rattle.run_files.specs.declared.limits.Limits.TheVariants.{Judging}
use Rattle.run_files.specs.declared.outcome.Done.{Done}
use Rattle.run_files.specs.declared.outcome.FileRefusal.{FileRefusal}
use Rattle.run_files.specs.declared.outcome.Stop.{Stop}
use Rattle.run_files.specs.declared.outcome.Stop.TheVariants as stops
use Rattle.run_files.specs.Answers.{Answers, IsJudging}
use Rattle.run_inputs.specs.Counts.{HasManyClasses}
use Rattle.run_inputs.specs.Inputs.{HoldsInput}
use Rattle.run_files.specs.Refusals.{refusal_of}

-- reach of all services, under at most this many failures
abbrev pub reach_policy : Prefix → Prefix → ℕ → Policy
reach_policy from to failures =
    record { kind = Reach failures; from = from; to = to; service = whole_service }

-- the policies of the document, with this one at the end
abbrev pub policies_with : Document → Policy → List Policy
policies_with doc policy = doc.policies ++ policy ∷ []

-- the document and its files have a network, and the policy's prefixes do not lie in two different
-- host networks of it
pub record RefusesEnds (document : List ℕ) (policy : Policy) (files : Files)
    (r : FileRefusal) : Type 0 where
  pub doc : Document
  pub net : Network
  pub input : HoldsInput Judging [] document files doc net
  pub ends : ¬ HasEndpoints net policy.from policy.to
  pub told : r ≡ refusal_of document 0 Endpoint

-- with this policy at the end the document's policies have too many classes
pub record RefusesClassesWith (document : List ℕ) (policy : Policy) (files : Files)
    (r : FileRefusal) : Type 0 where
  pub doc : Document
  pub net : Network
  pub input : HoldsInput Judging [] document files doc net
  pub ends : HasEndpoints net policy.from policy.to
  pub count : ℕ
  pub many : HasManyClasses net (policies_with doc policy) count
  pub told : r ≡ refusal_of document 0 (Limit Classes count)

-- the answer of adding a policy: the policies with this one at the end, or the refusal of its
-- prefixes
abbrev pub AddsPolicy : List ℕ → Network → List Policy → Policy → Result (List Policy) Stop → Type 0
AddsPolicy document net policies policy (Ok judged) =
    HasEndpoints net policy.from policy.to × (judged ≡ policies ++ policy ∷ [])
AddsPolicy document net policies policy (Err (stops.Refused r)) =
    (¬ HasEndpoints net policy.from policy.to) × (r ≡ refusal_of document 0 Endpoint)
AddsPolicy document net policies policy (Err stops.Memory) = Unit {0}
AddsPolicy document net policies policy (Err stops.Failed) = ⊥

-- What a command that judges answers over the network of a document with these policies: its answer
-- or first refusal by whatever the store holds, if that holds such a document with this network.
abbrev pub AnswersOver : List ℕ → Network → List Policy → (Files → FileRefusal → Type 0) →
    (Files → Done → Type 0) → Result Done Stop → Type 0
AnswersOver document net policies IsRefusal IsAnswer result =
    (held : Option Files) (doc : Document) → doc.policies ≡ policies →
    IfSome held (λ files. HoldsInput Judging [] document files doc net) →
    Answers IsJudging IsRefusal IsAnswer held result
