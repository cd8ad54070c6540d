-- The outcome of judging a text as a report. A report is a text whose lines are those of a report
-- of right verdicts, one for each policy in order. For any other text the outcome is the first line
-- that is not of its form, or the first line of the first block whose verdict is not right.
use Rattle.std.specs.Prelude.{◌≡◌, ◌↔◌, ◌⊎◌, ℕ, ◌+◌, ◌≤◌, List, [], ◌∷◌, length, All, Result, Ok}
use Rattle.std.specs.Prelude.{Err, IsSomeAnd, slice_get}
use Rattle.std.specs.List.{AllZip}
use Rattle.arc_base.specs.declared.certificate.CertKind.TheVariants.{Form, NoEnd, Witness}
use Rattle.arc_base.specs.TextLines.{lines}
use Rattle.net_model.specs.declared.policies.Document.{Document}
use Rattle.net_model.specs.declared.policies.Policy.{Policy}
use Rattle.net_model.specs.declared.rows.Network.{Network}
use Rattle.net_model.specs.declared.verdicts.Verdict as verdicts
use Rattle.net_model.specs.Validity.{IsValid}
use Rattle.net_model.specs.Witnesses.{IsRight}
use Rattle.policy_report.specs.declared.got.Got.{Got}
use Rattle.policy_report.specs.declared.got.Got.TheVariants.{More, Head, Verdict, End}
use Rattle.policy_report.specs.declared.got.CertForm.TheVariants.{Report}
use Rattle.policy_report.specs.declared.got.CertFault.{CertFault}
use Rattle.policy_report.specs.Reports.{witness_lines, report_text}
use Rattle.policy_report.specs.Steps.{start}
use Rattle.policy_report.specs.Rereading.{answers}
use Rattle.report_check.specs.declared.outcome.Outcome.{Outcome}
use Rattle.report_check.specs.declared.outcome.Outcome.TheVariants.{Accepted, Rejected}

-- the verdict on the policy at this place is right
abbrev pub IsRightAt : Network → List Policy → ℕ → verdicts.Verdict → Type 0
IsRightAt net policies which v =
    IsSomeAnd (slice_get policies which) (λ policy. IsRight net policy v)

-- The outcome, given the reader's answers to the lines that are left. The next line has this
-- number, and its block begins at line `first`. What counts is the first line that is rejected, or
-- the first verdict that is not right, at the first line of its block, or else whether the last
-- line is `end`. A line that only the certificate of a repair has is rejected.
abbrev pub IsReportOutcome : Network → List Policy → ℕ → ℕ →
    List (Result Got CertFault) → Outcome → Type 0
IsReportOutcome net policies first number [] o =
    o ≡ Rejected (record { line = number; kind = NoEnd })
IsReportOutcome net policies first number (Err fault ∷ rest) o = o ≡ Rejected fault
IsReportOutcome net policies first number (Ok More ∷ rest) o =
    IsReportOutcome net policies first (number + 1) rest o
IsReportOutcome net policies first number (Ok (Head Report) ∷ rest) o =
    IsReportOutcome net policies (number + 1) (number + 1) rest o
IsReportOutcome net policies first number (Ok (Verdict which v) ∷ rest) o =
    (IsRightAt net policies which v ×
    IsReportOutcome net policies (number + 1) (number + 1) rest o) ⊎
    ((¬ IsRightAt net policies which v) × (o ≡ Rejected (record { line = first; kind = Witness })))
IsReportOutcome net policies first number (Ok End ∷ []) o = o ≡ Accepted
IsReportOutcome net policies first number (Ok End ∷ (told ∷ rest)) o =
    IsReportOutcome net policies first (number + 1) (told ∷ rest) o
IsReportOutcome net policies first number (Ok other ∷ rest) o =
    o ≡ Rejected (record { line = number; kind = Form })

-- the text is a report of right verdicts on the policies of the document, one for each: its lines
-- are those of that report, and the lines of each witness can be counted in 32 bits
pub record IsReport (net : Network) (doc : Document) (text : List ℕ) : Type 0 where
  pub verdicts : List verdicts.Verdict
  pub right : AllZip (IsRight net) doc.policies verdicts
  pub few : All (λ v. length (witness_lines net v) ≤ 4294967295) verdicts
  pub is_text : lines text ≡ lines (report_text net doc verdicts)

-- a text is accepted exactly if it is a report of right verdicts
abbrev pub ReportsAreAccepted : Type 0
ReportsAreAccepted =
    (net : Network) (doc : Document) (text : List ℕ) (o : Outcome) → IsValid net →
    length doc.policies ≤ 4294967295 →
    IsReportOutcome net doc.policies 1 1 (answers net doc [] start (lines text)) o →
    (o ≡ Accepted) ↔ IsReport net doc text

-- a text has one outcome
abbrev pub ReportHasOneOutcome : Type 0
ReportHasOneOutcome =
    (net : Network) (policies : List Policy) (first number : ℕ)
    (told : List (Result Got CertFault)) (o p : Outcome) →
    IsReportOutcome net policies first number told o →
    IsReportOutcome net policies first number told p → o ≡ p
