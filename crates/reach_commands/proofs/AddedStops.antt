-- The answer of a command that judges one more policy, if it is stopped.
use Rattle.std.proofs.Common.{◌≡◌, ℕ, List, [], ◌∷◌, ◌++◌, refl, sym, ◌∙◌, ap, subst}
use Rattle.std.specs.Prelude.{Option, Some, None, IfSome, Result, Ok, Err, IfErr}
use Rattle.arc_outside.specs.Files.{Files}
use Rattle.arc_outside.proofs.Counting.{stood}
use Rattle.net_model.specs.declared.policies.Document.{Document}
use Rattle.net_model.specs.declared.policies.Policy.{Policy}
use Rattle.net_model.specs.declared.rows.Network.{Network}
use Rattle.run_files.specs.declared.limits.Limits.TheVariants.{Judging}
use Rattle.run_files.specs.declared.outcome.Done.{Done}
use Rattle.run_files.specs.declared.outcome.FileRefusal.{FileRefusal}
use Rattle.run_files.specs.declared.outcome.Stop.{Stop}
use Rattle.run_files.specs.declared.outcome.Stop.TheVariants as stops
use Rattle.run_files.specs.Answers.{Answers, HasStopCause, IsJudging, OnlyReads}
use Rattle.run_files.specs.Limits.{least_limit}
use Rattle.run_files.proofs.Answering.{stopped}
use Rattle.run_files.proofs.Stops.{any_cause, not_failed}
use Rattle.run_inputs.specs.Counts.{CountsClasses, HasManyClasses}
use Rattle.run_inputs.specs.declared.inputs.Input.{Input}
use Rattle.run_inputs.specs.Inputs.{HoldsInput, IsInputRefusal, ReadsInput}
use Rattle.reach_commands.specs.Added.{AddsPolicy, RefusesEnds, RefusesClassesWith}

module _ (Refusal : Files → FileRefusal → Type 0) (Answer : Files → Done → Type 0) (document : List ℕ) where
  pub input_stopped : (held : Option Files) (stop : Stop) → ((files : Files) (r : FileRefusal) → IsInputRefusal Judging [] document files r → Refusal files r) →
      IfSome held (λ files. ReadsInput Judging [] document files (Err stop)) → Answers IsJudging Refusal Answer held (Err stop)
  input_stopped = stopped IsJudging Refusal Answer (IsInputRefusal Judging [] document) (λ files (input : Input). HoldsInput Judging [] document files input.doc input.net)

  -- the document and its files, as they were read
  abbrev pub Read : Option Files → Document → Network → Type 0
  Read held doc net = IfSome held (λ files. HoldsInput Judging [] document files doc net)

  pub ends_stopped : (stop : Stop) (policy : Policy) (net : Network) (policies : List Policy) → ((files : Files) (r : FileRefusal) → RefusesEnds document policy files r → Refusal files r) →
      AddsPolicy document net policies policy (Err stop) →
      (held : Option Files) (doc : Document) → doc.policies ≡ policies → Read held doc net → Answers IsJudging Refusal Answer held (Err stop)
  ends_stopped (stops.Refused r) policy net policies is adds None doc same told = tt
  ends_stopped (stops.Refused r) policy net policies is adds (Some files) doc same told = is files r (record { doc = doc; net = net; input = told; ends = adds.0; told = adds.1 })
  ends_stopped stops.Memory policy net policies is adds held doc same told = tt
  ends_stopped stops.Failed policy net policies is adds held doc same told = tt

  pub classes_stopped : (stop : Stop) (policy : Policy) (net : Network) (policies judged : List Policy) →
      ((files : Files) (r : FileRefusal) (many : RefusesClassesWith document policy files r) → net ≡ many.net → Refusal files r) →
      AddsPolicy document net policies policy (Ok judged) → CountsClasses document net judged (Err stop) →
      (held : Option Files) (doc : Document) → doc.policies ≡ policies → Read held doc net → Answers IsJudging Refusal Answer held (Err stop)
  classes_stopped (stops.Refused r) policy net policies judged is adds counts None doc same told = tt
  classes_stopped (stops.Refused r) policy net policies judged is adds counts (Some files) doc same told =
      is files r (record {
        doc = doc;
        net = net;
        input = told;
        ends = adds.0;
        count = counts.0;
        many = subst (λ (ps : List Policy). HasManyClasses net ps counts.0) (adds.1 ∙ ap (λ (ps : List Policy). ps ++ policy ∷ []) (sym same)) counts.1;
        told = counts.2;
      }) refl
  classes_stopped stops.Memory policy net policies judged is adds counts held doc same told = tt
  classes_stopped stops.Failed policy net policies judged is adds counts held doc same told = tt

-- what is answered after a call that only reads, without the store
pub reads_then : {S X : Type 0} (held : S → Option Files) (faults absences taken : S → ℕ) (before after : S) (input : X) (result : Result Done Stop) →
    OnlyReads {S = S} {X = X} least_limit held faults absences taken before after (Ok input) → IfErr result (HasStopCause ⊥ ⊥ ⊥) →
    OnlyReads {S = S} {X = Done} least_limit held faults absences taken before after result
reads_then held faults absences taken before after input result reads cause = record {
  same = reads.same;
  cause = any_cause _ _ _ result cause;
  failed = stood _ _ (reads.failed.only (λ is. cc)) (not_failed result cause);
  absences_rise = reads.absences_rise;
  taken_rise = reads.taken_rise;
}
