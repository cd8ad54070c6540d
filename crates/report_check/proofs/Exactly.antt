-- A text is accepted exactly if it is a report of right verdicts.
use Rattle.std.proofs.Common.{◌≡◌, ℕ, ◌≤◌, List, [], length, ◌∙◌, ap, subst}
use Rattle.arc_base.specs.TextLines.{lines}
use Rattle.net_model.specs.declared.policies.Document.{Document}
use Rattle.net_model.specs.declared.rows.Network.{Network}
use Rattle.net_model.specs.Validity.{IsValid}
use Rattle.policy_report.specs.Steps.{start}
use Rattle.policy_report.specs.Rereading.{answers, report_answers, IsReadable}
use Rattle.policy_report.proofs.ReportsRead.{reports_are_read_again}
use Rattle.policy_report.proofs.ReportsTaken.{only_reports_are_taken}
use Rattle.report_check.specs.declared.outcome.Outcome.{Outcome}
use Rattle.report_check.specs.declared.outcome.Outcome.TheVariants.{Accepted}
use Rattle.report_check.specs.Outcomes.{IsReportOutcome, IsReport}
use Rattle.report_check.proofs.Heads.{accepted_report}
use Rattle.report_check.proofs.Rights.{all_right, all_accepted}
use Rattle.report_check.proofs.Zipped.{right_zip, right_places}
use Rattle.report_check.proofs.Readable.{all_readable, all_few}

accepted_is_report : (net : Network) (doc : Document) (text : List ℕ) → IsValid net → length doc.policies ≤ 4294967295 →
    IsReportOutcome net doc.policies 1 1 (answers net doc [] start (lines text)) Accepted → IsReport net doc text
accepted_is_report net doc text valid few h =
    let taken = only_reports_are_taken net doc [] (lines text) valid few (accepted_report net doc (lines text) h) in
    let vs = taken.0 in
    let told : answers net doc [] start (lines text) ≡ report_answers net vs = ap (answers net doc [] start) taken.2 ∙ reports_are_read_again net doc [] vs valid few taken.1 in
    let right = all_right net doc.policies vs (subst (λ a. IsReportOutcome net doc.policies 1 1 a Accepted) told h) in
    record {
      verdicts = vs;
      right = right_zip net (IsReadable net) doc.policies vs taken.1 right;
      few = all_few net doc.policies vs taken.1;
      is_text = taken.2;
    }

report_is_accepted : (net : Network) (doc : Document) (text : List ℕ) (o : Outcome) → IsValid net → length doc.policies ≤ 4294967295 →
    IsReportOutcome net doc.policies 1 1 (answers net doc [] start (lines text)) o → IsReport net doc text → o ≡ Accepted
report_is_accepted net doc text o valid few h is =
    let told : answers net doc [] start (lines text) ≡ report_answers net is.verdicts =
    ap (answers net doc [] start) is.is_text ∙ reports_are_read_again net doc [] is.verdicts valid few (all_readable net doc.policies is.verdicts is.right is.few) in
    all_accepted net doc.policies is.verdicts o (right_places net doc.policies is.verdicts is.right) (subst (λ a. IsReportOutcome net doc.policies 1 1 a o) told h)

pub exactly : (net : Network) (doc : Document) (text : List ℕ) (o : Outcome) → IsValid net → length doc.policies ≤ 4294967295 →
    IsReportOutcome net doc.policies 1 1 (answers net doc [] start (lines text)) o → (o ≡ Accepted → IsReport net doc text) × (IsReport net doc text → o ≡ Accepted)
exactly net doc text o valid few h = (
  λ e. accepted_is_report net doc text valid few (subst (IsReportOutcome net doc.policies 1 1 (answers net doc [] start (lines text))) e h),
  λ is. report_is_accepted net doc text o valid few h is,
)
