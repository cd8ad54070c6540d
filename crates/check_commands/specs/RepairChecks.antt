-- The command `check DOC CERT`: the first line of the certificate decides whether it is judged as
-- that of a repair or as a report.
use Rattle.std.specs.Prelude.{◌≡◌, ◌↔◌, ◌⊎◌, ℕ, ◌≤◌, Bool, true, false, List, [], ◌∷◌, None, Some}
use Rattle.std.specs.Prelude.{length, bytes_eq, codes}
use Rattle.arc_base.specs.declared.limits.TheConstants.{EDIT_LIMIT}
use Rattle.arc_base.specs.declared.refusal.Kind.TheVariants.{Limit}
use Rattle.arc_base.specs.declared.refusal.LimitKind.{LimitKind}
use Rattle.arc_outside.specs.Files.{Files}
use Rattle.arc_base.specs.TextLines.{lines}
use Rattle.net_model.specs.declared.policies.Document.{Document}
use Rattle.net_model.specs.declared.rows.Network.{Network}
use Rattle.net_model.specs.Validity.{IsValid}
use Rattle.edit_list.specs.declared.claims.Claim.{Claim}
use Rattle.edit_list.specs.declared.edit_kinds.Edit.{Edit}
use Rattle.edit_list.specs.declared.edit_kinds.EditFault.{EditFault}
use Rattle.edit_list.specs.declared.edit_kinds.EditFault.TheVariants as faults
use Rattle.edit_list.specs.Determined.{IsCountable}
use Rattle.edit_list.specs.EditLists.{AreEdits, DocumentHasFewClasses, NamesLimit}
use Rattle.report_check.specs.declared.outcome.Outcome.{Outcome}
use Rattle.report_check.specs.declared.outcome.Outcome.TheVariants.{Accepted}
use Rattle.arc_repair.specs.Claims.{IsTrueClaim}
use Rattle.repair_check.specs.Certifies.{Certifies, IsCertified, IsCounted, IsCountFault}
use Rattle.repair_check.specs.Certifies.{text_answers}
use Rattle.repair_check.specs.Outcomes.{IsRepairOutcome}
use Rattle.run_files.specs.declared.limits.Limits.TheVariants.{Editing}
use Rattle.run_files.specs.declared.outcome.Done.{Done}
use Rattle.run_files.specs.declared.outcome.FileRefusal.{FileRefusal}
use Rattle.run_files.specs.Judgements.{judgement_status, judgement_text}
use Rattle.run_files.specs.Limits.{document_limit, proof_limit}
use Rattle.run_files.specs.Refusals.{bytes_at, read_refusal, refusal_of}
use Rattle.run_inputs.specs.Inputs.{HoldsInput, IsFilesRefusal, RefusesDocument}
use Rattle.check_commands.specs.ReportChecks.{IsChecked, RefusesBehind, RefusesCertificate}
use Rattle.check_commands.specs.ReportChecks.{judgement_of}

-- whether a text is judged as the certificate of a repair: its first line is the head of one
abbrev pub begins_repair : List (List ℕ) → Bool
begins_repair [] = false
begins_repair (line ∷ ls) = bytes_eq line (codes "arc-repair 1")

-- the certificate is held, and its first line is that of a repair
pub record HoldsRepair (certificate : List ℕ) (files : Files) : Type 0 where
  pub held : read_refusal proof_limit files certificate ≡ None
  pub begins : begins_repair (lines (bytes_at files certificate)) ≡ true

-- there are few classes and few edits, and the variables or literals of the formula for the bound
-- of the answer exceed their limit
pub record PassesCounted (net : Network) (doc : Document) (text : List ℕ)
    (fault : EditFault) : Type 0 where
  pub list : List Edit
  pub edits : AreEdits net doc list
  pub classes : DocumentHasFewClasses net doc
  pub few : length list ≤ EDIT_LIMIT
  pub formula : IsCountFault net doc list (text_answers net doc list text) fault

-- the first count above its limit: of classes, of edits, or of the formula for the bound of the
-- answer
abbrev pub IsTextFault : Network → Document → List ℕ → EditFault → Type 0
IsTextFault net doc text fault = NamesLimit net doc fault ⊎ PassesCounted net doc text fault

-- a count for the network of the document and its files is above its limit
pub record RefusesTextCounts (document text : List ℕ) (files : Files)
    (r : FileRefusal) : Type 0 where
  pub doc : Document
  pub net : Network
  pub input : HoldsInput Editing [] document files doc net
  pub valid : IsValid net
  pub what : LimitKind
  pub count : ℕ
  pub fault : IsTextFault net doc text (faults.Limit what count)
  pub told : r ≡ refusal_of document 0 (Limit what count)

-- the router files or their network are refused, within the limits of a repair; or a count
abbrev pub IsTextRefusal : List ℕ → List ℕ → Files → FileRefusal → Type 0
IsTextRefusal document text files r =
    IsFilesRefusal Editing [] document files r ⊎ RefusesTextCounts document text files r

-- what is refused after the certificate's file, by its first line as for a repair or as for a
-- report
abbrev pub RefusesJudging : List ℕ → List ℕ → Files → FileRefusal → Type 0
RefusesJudging document certificate files r =
    (HoldsRepair certificate files × IsTextRefusal document (bytes_at files certificate) files r) ⊎
    ((¬ HoldsRepair certificate files) × RefusesBehind document certificate files r)

-- The judgement of the text over the network, whose interfaces, sessions and names can be counted:
-- that it is accepted, or the first line that is rejected. It is accepted exactly if it is the
-- certificate of a claim, and each such claim is true.
pub record IsJudgedRepair (net : Network) (doc : Document) (text : List ℕ)
    (outcome : Outcome) : Type 0 where
  pub list : List Edit
  pub edits : AreEdits net doc list
  pub classes : DocumentHasFewClasses net doc
  pub few : length list ≤ EDIT_LIMIT
  pub countable : IsCountable net
  pub counted : IsCounted net doc list (text_answers net doc list text)
  pub outcome_is : IsRepairOutcome net doc list text outcome
  pub accepted : (outcome ≡ Accepted) ↔ IsCertified net doc list text
  pub are_true : (claim : Claim) → Certifies net doc list claim text →
      IsTrueClaim net doc list claim

-- the text is judged as the certificate of a repair over the network of the document and its files,
-- and the judgement is printed
pub record IsRepairJudged (document text : List ℕ) (files : Files) (done : Done) : Type 0 where
  pub doc : Document
  pub net : Network
  pub input : HoldsInput Editing [] document files doc net
  pub valid : IsValid net
  pub outcome : Outcome
  pub judged : IsJudgedRepair net doc text outcome
  pub text_is : done.text ≡ judgement_text (judgement_of outcome)
  pub writes : done.writes ≡ []
  pub status : done.status ≡ judgement_status (judgement_of outcome)

-- The first refusal: of the document; of the certificate's file; or, by its first line, of the
-- router files, their network or a count within the limits of a repair, or of these as for a
-- report.
abbrev pub IsAnyRefusal : List ℕ → List ℕ → Files → FileRefusal → Type 0
IsAnyRefusal document certificate files r =
    (read_refusal document_limit files document ≡ Some r) ⊎
    (RefusesDocument document files r ⊎
    (RefusesCertificate document certificate files r ⊎ RefusesJudging document certificate files r))

-- the judgement of a certificate of either form
abbrev pub IsAnyChecked : List ℕ → List ℕ → Files → Done → Type 0
IsAnyChecked document certificate files done =
    (HoldsRepair certificate files ×
    IsRepairJudged document (bytes_at files certificate) files done) ⊎
    ((¬ HoldsRepair certificate files) × IsChecked document certificate files done)
