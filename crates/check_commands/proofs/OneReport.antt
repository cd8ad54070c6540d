-- `check` has at most one answer or one first refusal.
use Rattle.std.proofs.Common.{◌≡◌, ◌⊎◌, inl, inr, List, [], ℕ, sym, ◌∙◌, ap, subst}
use Rattle.arc_outside.specs.Files.{Files}
use Rattle.arc_base.specs.TextLines.{lines}
use Rattle.net_model.specs.declared.policies.Document.{Document}
use Rattle.net_model.specs.declared.rows.Network.{Network}
use Rattle.policy_report.specs.Rereading.{answers}
use Rattle.policy_report.specs.Steps.{start}
use Rattle.report_check.specs.declared.outcome.Outcome.{Outcome}
use Rattle.report_check.specs.Outcomes.{IsReportOutcome}
use Rattle.report_check.proofs.OneOutcome.{one_outcome}
use Rattle.run_files.specs.declared.limits.Limits.TheVariants.{Judging}
use Rattle.run_files.specs.declared.outcome.Done.{Done}
use Rattle.run_files.specs.declared.outcome.FileRefusal.{FileRefusal}
use Rattle.check_commands.specs.ReportChecks.{IsChecked, IsCheckRefusal, RefusesCertificate, judgement_of}
use Rattle.run_inputs.specs.Counts.{IsJudgingRefusal, RefusesClasses}
use Rattle.run_inputs.specs.Inputs.{HoldsInput, IsFilesRefusal}
use Rattle.run_files.specs.Judgements.{judgement_status, judgement_text}
use Rattle.run_files.specs.Limits.{proof_limit}
use Rattle.run_files.specs.Refusals.{bytes_at, read_refusal}
use Rattle.check_commands.proofs.ReportTold.{held_or_refused}
use Rattle.run_inputs.proofs.Determined.{determined, judged_once, document_none, held_none, no_value, one_value}
use Rattle.run_files.proofs.OneAnswer.{same_done}

module _ (document certificate : List ℕ) (files : Files) where
  pub checked_once : (done other : Done) → IsChecked document certificate files done → IsChecked document certificate files other → done ≡ other
  checked_once done other t s =
      let known = determined Judging [] document files in
      let docs : t.doc ≡ s.doc = known.one_document t.doc s.doc t.input.files_are.document_is s.input.files_are.document_is in
      let P : Document → Type 0 = λ d. HoldsInput Judging [] document files d t.net in
      let nets : t.net ≡ s.net = known.one_network s.doc t.net s.net (subst P docs t.input) s.input in
      let Q : Document → Type 0 = λ d. IsReportOutcome t.net d.policies 1 1 (answers t.net d [] start (lines (bytes_at files certificate))) t.outcome in
      let R : Network → Type 0 = λ n. IsReportOutcome n s.doc.policies 1 1 (answers n s.doc [] start (lines (bytes_at files certificate))) t.outcome in
      let same : t.outcome ≡ s.outcome =
      one_outcome s.net s.doc.policies 1 1 (answers s.net s.doc [] start (lines (bytes_at files certificate))) t.outcome s.outcome (subst R nets (subst Q docs t.outcome_is)) s.outcome_is in
      same_done done other (t.text ∙ ap (λ (o : Outcome). judgement_text (judgement_of o)) same ∙ sym s.text) (t.writes ∙ sym s.writes)
      (t.status ∙ ap (λ (o : Outcome). judgement_status (judgement_of o)) same ∙ sym s.status)

  -- a refusal is that of the certificate, or one of a command that judges, where no certificate is refused before it
  abbrev Stage : FileRefusal → Type 0
  Stage r = RefusesCertificate document certificate files r ⊎ (IsJudgingRefusal Judging document files r × ((s : FileRefusal) → RefusesCertificate document certificate files s → ⊥))

  behind : (r : FileRefusal) → IsFilesRefusal Judging [] document files r ⊎ RefusesClasses Judging document files r → IsJudgingRefusal Judging document files r
  behind r (inl u) = inl (inr (inr u))
  behind r (inr u) = inr u

  stage : (r : FileRefusal) → IsCheckRefusal document certificate files r → Stage r
  stage r (inl e) = inr (inl (inl e), λ s v. held_none Judging [] document files r v.document_is.held e)
  stage r (inr (inl u)) = inr (inl (inr (inl u)), λ s v. document_none Judging [] document files v.doc r v.document_is u)
  stage r (inr (inr (inl u))) = inl u
  stage r (inr (inr (inr u))) = inr (behind r u.refused, λ s v. no_value (read_refusal proof_limit files certificate) s v.refused u.held)

  once : (r s : FileRefusal) → Stage r → Stage s → r ≡ s
  once r s (inl u) (inl v) = one_value (read_refusal proof_limit files certificate) r s u.refused v.refused
  once r s (inl u) (inr v) = absurd (v.1 r u)
  once r s (inr u) (inl v) = absurd (u.1 s v)
  once r s (inr u) (inr v) = (judged_once Judging document files).one_refusal r s u.0 v.0

pub refused_once : (document certificate : List ℕ) (files : Files) (r s : FileRefusal) → IsCheckRefusal document certificate files r → IsCheckRefusal document certificate files s → r ≡ s
refused_once document certificate files r s u v = once document certificate files r s (stage document certificate files r u) (stage document certificate files s v)

pub checked_or_refused : (document certificate : List ℕ) (files : Files) (done : Done) (r : FileRefusal) → IsChecked document certificate files done → IsCheckRefusal document certificate files r → ⊥
checked_or_refused document certificate files done r t refused = held_or_refused document certificate files t.doc t.net r t.input t.held t.classes refused
