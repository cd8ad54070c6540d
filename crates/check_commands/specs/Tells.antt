-- What the status of `check` says of a certificate of either form.
use Rattle.std.specs.Prelude.{◌≡◌, ◌↔◌, ◌⊎◌, ℕ, ◌≤◌, List, [], length}
use Rattle.arc_base.specs.declared.limits.TheConstants.{EDIT_LIMIT}
use Rattle.arc_outside.specs.Files.{Files}
use Rattle.net_model.specs.declared.policies.Document.{Document}
use Rattle.net_model.specs.declared.rows.Network.{Network}
use Rattle.edit_list.specs.declared.claims.Claim.{Claim}
use Rattle.edit_list.specs.declared.edit_kinds.Edit.{Edit}
use Rattle.edit_list.specs.EditLists.{AreEdits, DocumentHasFewClasses}
use Rattle.arc_repair.specs.Claims.{IsTrueClaim}
use Rattle.repair_check.specs.Certifies.{Certifies, IsCertified, IsCounted, text_answers}
use Rattle.run_files.specs.declared.limits.Limits.TheVariants.{Editing}
use Rattle.run_files.specs.declared.outcome.FileRefusal.{FileRefusal}
use Rattle.run_files.specs.Refusals.{bytes_at}
use Rattle.run_inputs.specs.Inputs.{HoldsInput}
use Rattle.check_commands.specs.ReportChecks.{IsAcceptedReport, IsRejected}
use Rattle.check_commands.specs.RepairChecks.{HoldsRepair, IsAnyRefusal}

-- The certificate is held and begins as that of a repair; the document and its files have a network
-- with these edits, within the limits of a repair, and the formula for the bound that is claimed is
-- within its limits.
pub record IsJudgeable (document certificate : List ℕ) (files : Files) (doc : Document)
    (net : Network) (list : List Edit) : Type 0 where
  pub holds : HoldsRepair certificate files
  pub input : HoldsInput Editing [] document files doc net
  pub edits : AreEdits net doc list
  pub classes : DocumentHasFewClasses net doc
  pub few : length list ≤ EDIT_LIMIT
  pub counted : IsCounted net doc list (text_answers net doc list (bytes_at files certificate))

-- the certificate is judged as that of a repair and is the certificate of a claim, and each claim
-- that it is the certificate of is true
pub record IsRepairAccepted (document certificate : List ℕ) (files : Files) : Type 0 where
  pub doc : Document
  pub net : Network
  pub list : List Edit
  pub judgeable : IsJudgeable document certificate files doc net list
  pub certified : IsCertified net doc list (bytes_at files certificate)
  pub are_true : (claim : Claim) → Certifies net doc list claim (bytes_at files certificate) →
      IsTrueClaim net doc list claim

-- the certificate is judged as that of a repair and is the certificate of no claim
pub record IsRepairRejected (document certificate : List ℕ) (files : Files) : Type 0 where
  pub doc : Document
  pub net : Network
  pub list : List Edit
  pub judgeable : IsJudgeable document certificate files doc net list
  pub not_certified : ¬ IsCertified net doc list (bytes_at files certificate)

-- the certificate shows a true claim on a repair; or it does not begin as one of a repair, and is a
-- report whose verdicts are right and true
abbrev pub IsAnyAccepted : List ℕ → List ℕ → Files → Type 0
IsAnyAccepted document certificate files =
    IsRepairAccepted document certificate files ⊎
    ((¬ HoldsRepair certificate files) × IsAcceptedReport document certificate files)

-- the certificate begins as that of a repair and is none; or it does not, and is no such report
abbrev pub IsAnyRejected : List ℕ → List ℕ → Files → Type 0
IsAnyRejected document certificate files =
    IsRepairRejected document certificate files ⊎
    ((¬ HoldsRepair certificate files) × IsRejected document certificate files)

-- there is a first reason to refuse the files
pub record IsAnyUnchecked (document certificate : List ℕ) (files : Files) : Type 0 where
  pub refusal : FileRefusal
  pub refused : IsAnyRefusal document certificate files refusal

-- The status says which of the three it is: 0 for accepted, 1 for rejected, and 5 for refused.
pub record TellsCheck (document certificate : List ℕ) (status : ℕ) (files : Files) : Type 0 where
  pub accepted_exactly : (status ≡ 0) ↔ IsAnyAccepted document certificate files
  pub rejected_exactly : (status ≡ 1) ↔ IsAnyRejected document certificate files
  pub refused_exactly : (status ≡ 5) ↔ IsAnyUnchecked document certificate files
  pub nothing_else : (status ≡ 0) ⊎ ((status ≡ 1) ⊎ (status ≡ 5))
