-- The command `check DOC CERT` for a certificate that is a report.
use Rattle.std.specs.Prelude.{◌≡◌, ◌↔◌, ◌⊎◌, ℕ, List, [], None, Some}
use Rattle.std.specs.List.{AllZip}
use Rattle.arc_outside.specs.Files.{Files}
use Rattle.arc_base.specs.TextLines.{lines}
use Rattle.net_model.specs.declared.policies.Document.{Document}
use Rattle.net_model.specs.declared.rows.Network.{Network}
use Rattle.net_model.specs.Validity.{IsValid}
use Rattle.policy_report.specs.Rereading.{answers}
use Rattle.policy_report.specs.Steps.{start}
use Rattle.report_check.specs.declared.outcome.Outcome.{Outcome}
use Rattle.report_check.specs.declared.outcome.Outcome.TheVariants.{Accepted, Rejected}
use Rattle.report_check.specs.Outcomes.{IsReportOutcome, IsReport}
use Rattle.run_files.specs.declared.judgements.Judgement.{Judgement}
use Rattle.run_files.specs.declared.judgements.Judgement.TheVariants as judgements
use Rattle.run_files.specs.declared.limits.Limits.TheVariants.{Judging}
use Rattle.run_files.specs.declared.outcome.Done.{Done}
use Rattle.run_files.specs.declared.outcome.FileRefusal.{FileRefusal}
use Rattle.run_inputs.specs.Counts.{PoliciesHaveFewClasses, RefusesClasses}
use Rattle.run_inputs.specs.Inputs.{HoldsDocument, HoldsInput, IsFilesRefusal, RefusesDocument}
use Rattle.run_inputs.specs.TrueVerdicts.{IsTrueOf}
use Rattle.run_files.specs.Judgements.{judgement_status, judgement_text}
use Rattle.run_files.specs.Limits.{document_limit, proof_limit}
use Rattle.run_files.specs.Refusals.{bytes_at, read_refusal}

-- the document is held, and the certificate is missing or too long
pub record RefusesCertificate (document certificate : List ℕ) (files : Files)
    (r : FileRefusal) : Type 0 where
  pub doc : Document
  pub document_is : HoldsDocument document files doc
  pub refused : read_refusal proof_limit files certificate ≡ Some r

-- the router files, their network or its classes are refused
abbrev pub RefusesInput : List ℕ → Files → FileRefusal → Type 0
RefusesInput document files r =
    IsFilesRefusal Judging [] document files r ⊎ RefusesClasses Judging document files r

-- the certificate is held, and the router files, their network or its classes are refused
pub record RefusesBehind (document certificate : List ℕ) (files : Files)
    (r : FileRefusal) : Type 0 where
  pub held : read_refusal proof_limit files certificate ≡ None
  pub refused : RefusesInput document files r

-- The first refusal: of the document; of the certificate's file; of the router files and their
-- network; or that there are too many classes.
abbrev pub IsCheckRefusal : List ℕ → List ℕ → Files → FileRefusal → Type 0
IsCheckRefusal document certificate files r =
    (read_refusal document_limit files document ≡ Some r) ⊎
    (RefusesDocument document files r ⊎
    (RefusesCertificate document certificate files r ⊎ RefusesBehind document certificate files r))

-- the judgement that is printed for an outcome
abbrev pub judgement_of : Outcome → Judgement
judgement_of Accepted = judgements.Accepted
judgement_of (Rejected fault) = judgements.Rejected fault.line fault.kind

-- The judgement of the certificate over the network of the document and its files: that it is
-- accepted, or the first line that is rejected. It is accepted exactly if it is a report of right
-- verdicts on the document's policies.
pub record IsChecked (document certificate : List ℕ) (files : Files) (done : Done) : Type 0 where
  pub doc : Document
  pub net : Network
  pub input : HoldsInput Judging [] document files doc net
  pub valid : IsValid net
  pub held : read_refusal proof_limit files certificate ≡ None
  pub classes : PoliciesHaveFewClasses net doc.policies
  pub outcome : Outcome
  pub outcome_is : IsReportOutcome net doc.policies 1 1
      (answers net doc [] start (lines (bytes_at files certificate))) outcome
  pub accepted : (outcome ≡ Accepted) ↔ IsReport net doc (bytes_at files certificate)
  pub text : done.text ≡ judgement_text (judgement_of outcome)
  pub writes : done.writes ≡ []
  pub status : done.status ≡ judgement_status (judgement_of outcome)

-- the document and its files have a network and not too many classes, and the certificate is held,
-- not too long, and a report whose verdicts are right, one for each policy in order; so each of
-- them is true
pub record IsAcceptedReport (document certificate : List ℕ) (files : Files) : Type 0 where
  pub doc : Document
  pub net : Network
  pub input : HoldsInput Judging [] document files doc net
  pub held : read_refusal proof_limit files certificate ≡ None
  pub classes : PoliciesHaveFewClasses net doc.policies
  pub report : IsReport net doc (bytes_at files certificate)
  pub are_true : AllZip (IsTrueOf net) doc.policies report.verdicts

-- the document and its files have a network and not too many classes, and the certificate is held,
-- not too long, and no such report
pub record IsRejected (document certificate : List ℕ) (files : Files) : Type 0 where
  pub doc : Document
  pub net : Network
  pub input : HoldsInput Judging [] document files doc net
  pub held : read_refusal proof_limit files certificate ≡ None
  pub classes : PoliciesHaveFewClasses net doc.policies
  pub no_report : ¬ IsReport net doc (bytes_at files certificate)

-- the document, the certificate, the router files, their network or the number of classes is
-- refused
pub record IsUnchecked (document certificate : List ℕ) (files : Files) : Type 0 where
  pub refusal : FileRefusal
  pub refused : IsCheckRefusal document certificate files refusal

-- The status says which of the three it is: 0 for accepted, 1 for rejected, and 5 for refused.
pub record TellsReportCheck (document certificate : List ℕ) (status : ℕ)
    (files : Files) : Type 0 where
  pub accepted_exactly : (status ≡ 0) ↔ IsAcceptedReport document certificate files
  pub rejected_exactly : (status ≡ 1) ↔ IsRejected document certificate files
  pub refused_exactly : (status ≡ 5) ↔ IsUnchecked document certificate files
  pub nothing_else : (status ≡ 0) ⊎ ((status ≡ 1) ⊎ (status ≡ 5))
