-- A text whose lines come to a judge one by one.
use Rattle.std.specs.Prelude.{ℕ, List}
use Rattle.net_model.specs.declared.policies.Document.{Document}
use Rattle.net_model.specs.declared.rows.Network.{Network}
use Rattle.edit_list.specs.declared.edit_kinds.Edit.{Edit}
use Rattle.policy_report.specs.Rereading.{answers}
use Rattle.policy_report.specs.Steps.{standing}
use Rattle.report_check.specs.declared.outcome.Outcome.{Outcome}
use Rattle.repair_check.specs.declared.judge.RepairJudge.{RepairJudge}
use Rattle.repair_check.specs.Certifies.{IsCounted, text_answers}
use Rattle.repair_check.specs.Outcomes.{ReaderAnswers, IsRepairOutcome}
use Rattle.repair_check.specs.Phases.{IsAt, IsGoing, IsPhaseOutcome}

-- another line may come to the judge
abbrev pub CanGoOn : Network → Document → List Edit → RepairJudge → Type 0
CanGoOn net doc list judge = IsGoing net doc list judge.phase

-- the answers of the judge's reader to these lines
abbrev pub answers_to : Network → Document → List Edit → RepairJudge → List (List ℕ) → ReaderAnswers
answers_to net doc list judge ls = answers net doc list (standing judge.reader) ls

-- The judge has taken the lines of the text up to these: the outcome of these is that of the whole
-- text, and their place in it is known.
pub record HasComeTo (net : Network) (doc : Document) (list : List Edit) (text : List ℕ)
    (ls : List (List ℕ)) (judge : RepairJudge) : Type 0 where
  pub outcome : (o : Outcome) →
      IsPhaseOutcome net doc list judge.phase judge.number (answers_to net doc list judge ls) o →
      IsRepairOutcome net doc list text o
  pub at : IsAt net doc list (text_answers net doc list text) judge.phase
      (answers_to net doc list judge ls)

-- this is the outcome of the text, and the formula for the bound of its answer is within its limits
pub record Judges (net : Network) (doc : Document) (list : List Edit) (text : List ℕ)
    (o : Outcome) : Type 0 where
  pub outcome : IsRepairOutcome net doc list text o
  pub counted : IsCounted net doc list (text_answers net doc list text)
