-- The answers of the two readings of a certificate.
use Rattle.std.specs.Prelude.{◌≡◌, ◌↔◌, ◌⊎◌, ℕ, Bool, List, None, Some, Result}
use Rattle.arc_base.specs.declared.refusal.Kind.TheVariants.{Limit}
use Rattle.arc_base.specs.declared.refusal.LimitKind.{LimitKind}
use Rattle.arc_outside.specs.Files.{Files}
use Rattle.arc_base.specs.TextLines.{lines}
use Rattle.net_model.specs.declared.policies.Document.{Document}
use Rattle.net_model.specs.declared.rows.Network.{Network}
use Rattle.edit_list.specs.declared.edit_kinds.EditFault.{EditFault}
use Rattle.edit_list.specs.declared.edit_kinds.EditFault.TheVariants as faults
use Rattle.report_check.specs.declared.outcome.Outcome.{Outcome}
use Rattle.report_check.specs.declared.outcome.Outcome.TheVariants.{Accepted}
use Rattle.report_check.specs.LineByLine.{IsJudgedTo}
use Rattle.report_check.specs.Outcomes.{IsReport}
use Rattle.run_files.specs.declared.outcome.FileRefusal.{FileRefusal}
use Rattle.run_files.specs.declared.outcome.Stop.{Stop}
use Rattle.run_files.specs.Answers.{Gives}
use Rattle.run_files.specs.Limits.{proof_limit}
use Rattle.run_files.specs.Refusals.{bytes_at, read_refusal, refusal_of}
use Rattle.check_commands.specs.RepairChecks.{begins_repair, IsJudgedRepair, IsTextFault}

-- whether a file that is not refused begins as the certificate of a repair, or its refusal
abbrev pub ReadsHead : ℕ → Files → List ℕ → Result Bool Stop → Type 0
ReadsHead limit files certificate result =
    Gives (λ r. read_refusal limit files certificate ≡ Some r)
    (λ begins. (read_refusal limit files certificate ≡ None) ×
    (begins ≡ begins_repair (lines (bytes_at files certificate)))) result

-- the document is refused for a count that is at fault
abbrev pub RefusesFor : (EditFault → Type 0) → List ℕ → FileRefusal → Type 0
RefusesFor IsFault document r =
    (what : LimitKind) × (count : ℕ) × IsFault (faults.Limit what count) ×
    (r ≡ refusal_of document 0 (Limit what count))

-- the outcome of the text as a report, which is accepted exactly if it is a report of right
-- verdicts; or a refusal of its file
abbrev pub JudgesReport : ℕ → Network → Document → List ℕ → Files → Result Outcome Stop → Type 0
JudgesReport limit net doc certificate files result =
    Gives (λ r. read_refusal limit files certificate ≡ Some r)
    (λ o. IsJudgedTo net doc (bytes_at files certificate) o ×
    ((o ≡ Accepted) ↔ IsReport net doc (bytes_at files certificate))) result

-- the outcome of the text over the network as the certificate of a repair, or a refusal of its file
-- or for a count
abbrev pub JudgesRepair : List ℕ → Network → Document → List ℕ → Files →
    Result Outcome Stop → Type 0
JudgesRepair document net doc certificate files result =
    Gives (λ r. (read_refusal proof_limit files certificate ≡ Some r) ⊎
    RefusesFor (IsTextFault net doc (bytes_at files certificate)) document r)
    (IsJudgedRepair net doc (bytes_at files certificate)) result
