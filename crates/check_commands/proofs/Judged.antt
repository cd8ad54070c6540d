-- The answer of `check` for a certificate of either form.
use Rattle.std.proofs.Common.{◌≡◌, ◌∙◌, ℕ, true, false, inl, inr, List, sym, subst}
use Rattle.std.specs.Prelude.{Bool, Option, Some, None, IfOk, IfSome, Result, Ok, Err}
use Rattle.std.proofs.lemmas.Bool.{false≢true}
use Rattle.arc_outside.specs.Files.{Files}
use Rattle.net_model.specs.declared.policies.Document.{Document}
use Rattle.run_files.specs.declared.outcome.Done.{Done}
use Rattle.run_files.specs.declared.outcome.Stop.{Stop}
use Rattle.run_files.specs.declared.outcome.Stop.TheVariants as stops
use Rattle.run_files.specs.Answers.{Answers, IsJudging}
use Rattle.run_files.specs.Limits.{proof_limit}
use Rattle.run_inputs.specs.Inputs.{ReadsDocumentAt}
use Rattle.check_commands.specs.Readings.{ReadsHead}
use Rattle.check_commands.specs.RepairChecks.{HoldsRepair, IsAnyChecked, IsAnyRefusal}
use Rattle.check_commands.proofs.Given.{IsGiven}
use Rattle.check_commands.proofs.ReportTold.{IsGiven as GivesReport}

-- the answer over a store
abbrev pub IsAnswered : List ℕ → List ℕ → Option Files → Result Done Stop → Type 0
IsAnswered document certificate held result = Answers IsJudging (IsAnyRefusal document certificate) (IsAnyChecked document certificate) held result

module _ (document certificate : List ℕ) (doc : Document) where
  -- the first reading refuses the certificate
  head_stopped_here : (held : Option Files) (stop : Stop) → IfSome held (λ files. ReadsDocumentAt document files (Ok doc)) → IfSome held (λ files. ReadsHead proof_limit files certificate (Err stop)) →
      IsAnswered document certificate held (Err stop)
  head_stopped_here None (stops.Refused r) told head = tt
  head_stopped_here None stops.Memory told head = tt
  head_stopped_here None stops.Failed told head = tt
  head_stopped_here (Some files) (stops.Refused r) told head = inr (inr (inl (record { doc = doc; document_is = told; refused = head })))
  head_stopped_here (Some files) stops.Memory told head = tt
  head_stopped_here (Some files) stops.Failed told head = tt

  pub head_stopped : (held one : Option Files) → one ≡ held → (stop : Stop) → IfSome held (λ files. ReadsDocumentAt document files (Ok doc)) →
      IfSome one (λ files. ReadsHead proof_limit files certificate (Err stop)) →
      IsAnswered document certificate held (Err stop)
  head_stopped held one same stop told head = head_stopped_here held stop told (subst (λ (o : Option Files). IfSome o (λ files. ReadsHead proof_limit files certificate (Err stop))) same head)

  module _ (held one two : Option Files) (first : one ≡ held) (second : two ≡ one) (told : IfSome held (λ files. ReadsDocumentAt document files (Ok doc))) (begins : Bool)
      (head : IfSome one (λ files. ReadsHead proof_limit files certificate (Ok begins))) (result : Result Done Stop) (own : IfOk result IsJudging) where
    -- the first reading, for the files as they were
    read : IfSome held (λ files. ReadsHead proof_limit files certificate (Ok begins))
    read = subst (λ (o : Option Files). IfSome o (λ files. ReadsHead proof_limit files certificate (Ok begins))) first head

    -- the certificate of a repair
    repair_here : (now : Option Files) (result : Result Done Stop) → IfOk result IsJudging → begins ≡ true → IfSome now (λ files. ReadsDocumentAt document files (Ok doc)) →
        IfSome now (λ files. ReadsHead proof_limit files certificate (Ok begins)) → IsGiven document certificate doc now result → IsAnswered document certificate now result
    repair_here None (Ok done) own' yes' doc_is head_is judged = (own', tt)
    repair_here None (Err (stops.Refused r)) own' yes' doc_is head_is judged = tt
    repair_here None (Err stops.Memory) own' yes' doc_is head_is judged = tt
    repair_here None (Err stops.Failed) own' yes' doc_is head_is judged = tt
    repair_here (Some files) (Ok done) own' yes' doc_is head_is judged = (own', inl (record { held = head_is.0; begins = sym head_is.1 ∙ yes' }, judged doc_is head_is.0))
    repair_here (Some files) (Err (stops.Refused r)) own' yes' doc_is head_is judged = inr (inr (inr (inl (record { held = head_is.0; begins = sym head_is.1 ∙ yes' }, judged doc_is head_is.0))))
    repair_here (Some files) (Err stops.Memory) own' yes' doc_is head_is judged = tt
    repair_here (Some files) (Err stops.Failed) own' yes' doc_is head_is judged = tt

    pub repair_answered : begins ≡ true → IsGiven document certificate doc two result → IsAnswered document certificate held result
    repair_answered yes' judged = repair_here held result own yes' told read (subst (λ (o : Option Files). IsGiven document certificate doc o result) (second ∙ first) judged)

    -- a certificate of the other form
    differs : (files : Files) → begins ≡ false → ReadsHead proof_limit files certificate (Ok begins) → HoldsRepair certificate files → ⊥
    differs files no' head_is holds = false≢true (sym no' ∙ head_is.1 ∙ holds.begins)

    report_here : (now : Option Files) (result : Result Done Stop) → IfOk result IsJudging → begins ≡ false → IfSome now (λ files. ReadsDocumentAt document files (Ok doc)) →
        IfSome now (λ files. ReadsHead proof_limit files certificate (Ok begins)) → GivesReport document certificate doc now result → IsAnswered document certificate now result
    report_here None (Ok done) own' no' doc_is head_is judged = (own', tt)
    report_here None (Err (stops.Refused r)) own' no' doc_is head_is judged = tt
    report_here None (Err stops.Memory) own' no' doc_is head_is judged = tt
    report_here None (Err stops.Failed) own' no' doc_is head_is judged = tt
    report_here (Some files) (Ok done) own' no' doc_is head_is judged = (own', inr (differs files no' head_is, judged doc_is head_is.0))
    report_here (Some files) (Err (stops.Refused r)) own' no' doc_is head_is judged = inr (inr (inr (inr (differs files no' head_is, record { held = head_is.0; refused = judged doc_is head_is.0 }))))
    report_here (Some files) (Err stops.Memory) own' no' doc_is head_is judged = tt
    report_here (Some files) (Err stops.Failed) own' no' doc_is head_is judged = tt

    pub report_answered : begins ≡ false → GivesReport document certificate doc two result → IsAnswered document certificate held result
    report_answered no' judged = report_here held result own no' told read (subst (λ (o : Option Files). GivesReport document certificate doc o result) (second ∙ first) judged)
