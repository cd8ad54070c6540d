-- A text whose lines come to a judge one by one.
use Rattle.std.specs.Prelude.{ℕ, List, []}
use Rattle.arc_base.specs.TextLines.{lines}
use Rattle.net_model.specs.declared.policies.Document.{Document}
use Rattle.net_model.specs.declared.rows.Network.{Network}
use Rattle.policy_report.specs.Rereading.{answers}
use Rattle.policy_report.specs.Steps.{standing, start}
use Rattle.report_check.specs.declared.judge.ReportJudge.{ReportJudge}
use Rattle.report_check.specs.declared.outcome.Outcome.{Outcome}
use Rattle.report_check.specs.Lines.{IsOutcomeAfter}
use Rattle.report_check.specs.Outcomes.{IsReportOutcome}

-- this is the outcome of the text
abbrev pub IsJudgedTo : Network → Document → List ℕ → Outcome → Type 0
IsJudgedTo net doc text o =
    IsReportOutcome net doc.policies 1 1 (answers net doc [] start (lines text)) o

-- The judge has taken the lines of the text up to these: the outcome of these is that of the whole
-- text.
pub record HasComeTo (net : Network) (doc : Document) (text : List ℕ) (ls : List (List ℕ))
    (judge : ReportJudge) : Type 0 where
  pub outcome : (o : Outcome) →
      IsOutcomeAfter judge.ended net doc.policies judge.first judge.number
      (answers net doc [] (standing judge.reader) ls) o → IsJudgedTo net doc text o
