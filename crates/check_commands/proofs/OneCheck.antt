-- `check` has at most one answer or one first refusal, for a certificate of either form.
use Rattle.std.proofs.Common.{◌≡◌, ◌⊎◌, ◌∙◌, ℕ, inl, inr, List, [], ap, subst, sym}
use Rattle.arc_base.specs.declared.refusal.Kind.TheVariants.{Limit}
use Rattle.arc_outside.specs.Files.{Files}
use Rattle.net_model.specs.declared.policies.Document.{Document}
use Rattle.edit_list.specs.declared.edit_kinds.Edit.{Edit}
use Rattle.edit_list.specs.declared.edit_kinds.EditFault.TheVariants as faults
use Rattle.edit_list.proofs.OneEditList.{edit_lists_are_one}
use Rattle.report_check.specs.declared.outcome.Outcome.{Outcome}
use Rattle.repair_check.specs.Outcomes.{HasOneOutcome, IsRepairOutcome}
use Rattle.run_files.specs.declared.limits.Limits.TheVariants.{Editing}
use Rattle.run_files.specs.declared.outcome.Done.{Done}
use Rattle.run_files.specs.declared.outcome.FileRefusal.{FileRefusal}
use Rattle.run_files.specs.Judgements.{judgement_status, judgement_text}
use Rattle.run_files.specs.Limits.{proof_limit}
use Rattle.run_files.specs.Refusals.{bytes_at, read_refusal, refusal_of}
use Rattle.run_inputs.specs.Inputs.{HoldsDocument}
use Rattle.run_inputs.proofs.Determined.{determined, document_none, held_none, no_value}
use Rattle.check_commands.specs.ReportChecks.{IsCheckRefusal, judgement_of}
use Rattle.check_commands.proofs.OneReport.{checked_once, checked_or_refused, refused_once}
use Rattle.run_files.proofs.OneAnswer.{same_done}
use Rattle.check_commands.specs.RepairChecks.{HoldsRepair, IsAnyChecked, IsAnyRefusal, IsJudgedRepair, IsRepairJudged, IsTextFault, IsTextRefusal}
use Rattle.check_commands.proofs.OneFault.{fault_once}
use Rattle.check_commands.proofs.Told.{as_report, judgeable, judged_or_refused, moved}

module _ (document certificate : List ℕ) (files : Files) where
  -- ---- one answer

  repair_once : HasOneOutcome → (done other : Done) → IsRepairJudged document (bytes_at files certificate) files done → IsRepairJudged document (bytes_at files certificate) files other → done ≡ other
  repair_once one done other t s =
      let text : List ℕ = bytes_at files certificate in
      let there : IsJudgedRepair t.net t.doc text s.outcome = moved document certificate files t.doc t.net t.input (λ d n. IsJudgedRepair n d text s.outcome) s.doc s.net s.input s.judged in
      let lists : t.judged.list ≡ there.list = edit_lists_are_one t.net t.doc t.judged.list there.list t.valid t.judged.edits there.edits in
      let P : List Edit → Type 0 = λ l. IsRepairOutcome t.net t.doc l text t.outcome in
      let same : t.outcome ≡ s.outcome = one t.net t.doc there.list text t.outcome s.outcome t.valid t.judged.countable (subst P lists t.judged.outcome_is) there.outcome_is in
      same_done done other (t.text_is ∙ ap (λ (o : Outcome). judgement_text (judgement_of o)) same ∙ sym s.text_is) (t.writes ∙ sym s.writes)
      (t.status ∙ ap (λ (o : Outcome). judgement_status (judgement_of o)) same ∙ sym s.status)

  pub one_answer : HasOneOutcome → (done other : Done) → IsAnyChecked document certificate files done → IsAnyChecked document certificate files other → done ≡ other
  one_answer one done other (inl t) (inl s) = repair_once one done other t.1 s.1
  one_answer one done other (inl t) (inr s) = absurd (s.0 t.0)
  one_answer one done other (inr t) (inl s) = absurd (t.0 s.0)
  one_answer one done other (inr t) (inr s) = checked_once document certificate files done other t.1 s.1

  -- ---- one refusal

  -- after the certificate of a repair
  abbrev Behind : FileRefusal → Type 0
  Behind r = HoldsRepair certificate files × IsTextRefusal document (bytes_at files certificate) files r

  document_of : (r : FileRefusal) → Behind r → (doc : Document) × HoldsDocument document files doc
  document_of r (holds, inl (inl u)) = (u.doc, u.document_is)
  document_of r (holds, inl (inr u)) = (u.doc, u.files_are.document_is)
  document_of r (holds, inr u) = (u.doc, u.input.files_are.document_is)

  behind_once : (r s : FileRefusal) → Behind r → Behind s → r ≡ s
  behind_once r s (h, inl u) (k, inl v) = (determined Editing [] document files).one_refusal r s (inr (inr u)) (inr (inr v))
  behind_once r s (h, inl u) (k, inr v) = absurd ((determined Editing [] document files).not_both v.doc v.net r v.input (inr (inr u)))
  behind_once r s (h, inr u) (k, inl v) = absurd ((determined Editing [] document files).not_both u.doc u.net s u.input (inr (inr v)))
  behind_once r s (h, inr u) (k, inr v) =
      let text : List ℕ = bytes_at files certificate in
      let there : IsTextFault u.net u.doc text (faults.Limit v.what v.count) =
      moved document certificate files u.doc u.net u.input (λ d n. IsTextFault n d text (faults.Limit v.what v.count)) v.doc v.net v.input v.fault in
      let same = fault_once u.net u.doc u.valid text u.what v.what u.count v.count u.fault there in
      let told : refusal_of document 0 (Limit u.what u.count) ≡ refusal_of document 0 (Limit v.what v.count) = λ i. refusal_of document 0 (Limit (same.0 i) (same.1 i)) in
      u.told ∙ told ∙ sym v.told

  -- any other refusal is one of `check` for reports, and then nothing is refused after the certificate of a repair
  abbrev Stage : FileRefusal → Type 0
  Stage r = Behind r ⊎ (IsCheckRefusal document certificate files r × ((s : FileRefusal) → Behind s → ⊥))

  stage : (r : FileRefusal) → IsAnyRefusal document certificate files r → Stage r
  stage r (inl e) = inr (inl e, λ s b. held_none Editing [] document files r (document_of s b).1.held e)
  stage r (inr (inl u)) = inr (inr (inl u), λ s b. document_none Editing [] document files (document_of s b).0 r (document_of s b).1 u)
  stage r (inr (inr (inl u))) = inr (inr (inr (inl u)), λ s b. no_value (read_refusal proof_limit files certificate) r u.refused b.0.held)
  stage r (inr (inr (inr (inl b)))) = inl b
  stage r (inr (inr (inr (inr u)))) = inr (inr (inr (inr u.1)), λ s b. u.0 b.0)

  once : (r s : FileRefusal) → Stage r → Stage s → r ≡ s
  once r s (inl b) (inl c) = behind_once r s b c
  once r s (inl b) (inr v) = absurd (v.1 r b)
  once r s (inr u) (inl c) = absurd (u.1 s c)
  once r s (inr u) (inr v) = refused_once document certificate files r s u.0 v.0

  pub one_refusal : (r s : FileRefusal) → IsAnyRefusal document certificate files r → IsAnyRefusal document certificate files s → r ≡ s
  one_refusal r s u v = once r s (stage r u) (stage s v)

  pub not_both : (done : Done) (r : FileRefusal) → IsAnyChecked document certificate files done → IsAnyRefusal document certificate files r → ⊥
  not_both done r (inl (holds, t)) refused = judged_or_refused document certificate files t.doc t.net t.judged.list (judgeable document certificate files done holds t) r refused
  not_both done r (inr (differs, t)) refused = checked_or_refused document certificate files done r t (as_report document certificate files differs r refused)
