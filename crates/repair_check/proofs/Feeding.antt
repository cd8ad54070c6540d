-- What a line leads to that a judge takes.
use Rattle.std.proofs.Common.{◌≡◌, ℕ, ◌+◌, List, ◌∷◌, refl, sym, ap, subst}
use Rattle.std.specs.Prelude.{Result}
use Rattle.net_model.specs.declared.policies.Document.{Document}
use Rattle.net_model.specs.declared.rows.Network.{Network}
use Rattle.edit_list.specs.declared.edit_kinds.Edit.{Edit}
use Rattle.policy_report.specs.declared.got.Got.{Got}
use Rattle.policy_report.specs.declared.got.CertFault.{CertFault}
use Rattle.policy_report.specs.declared.reader.Reader.{Reader}
use Rattle.policy_report.specs.Rereading.{answers}
use Rattle.policy_report.specs.Steps.{Standing, standing, step}
use Rattle.report_check.specs.declared.outcome.Outcome.{Outcome}
use Rattle.repair_check.specs.declared.judge.RepairJudge.{RepairJudge}
use Rattle.repair_check.specs.declared.phases.Next.{Next}
use Rattle.repair_check.specs.declared.phases.Next.TheVariants.{Line, Done}
use Rattle.repair_check.specs.declared.phases.Phase.{Phase}
use Rattle.repair_check.specs.Certifies.{text_answers}
use Rattle.repair_check.specs.LineByLine.{HasComeTo, Judges}
use Rattle.repair_check.specs.Outcomes.{ReaderAnswers}
use Rattle.repair_check.specs.Phases.{Goes, IsAt, IsPhaseOutcome, LeadsTo, Settles}

module _ (net : Network) (doc : Document) (list : List Edit) (text : List ℕ) where
  module _ (judge : RepairJudge) (line : List ℕ) (rest : List (List ℕ)) (told : Result Got CertFault) (reads : told ≡ (step net doc list (standing judge.reader) line).1)
      (come : HasComeTo net doc list text (line ∷ rest) judge) where
    -- the answers to the lines after it
    abbrev behind : ReaderAnswers
    behind = answers net doc list (step net doc list (standing judge.reader) line).0 rest

    here : IsAt net doc list (text_answers net doc list text) judge.phase (told ∷ behind)
    here = subst (λ (t : Result Got CertFault). IsAt net doc list (text_answers net doc list text) judge.phase (t ∷ behind)) (sym reads) come.at

    leads : (o : Outcome) → IsPhaseOutcome net doc list judge.phase judge.number (told ∷ behind) o →
        IsPhaseOutcome net doc list judge.phase judge.number ((step net doc list (standing judge.reader) line).1 ∷ behind) o
    leads o h = subst (λ (t : Result Got CertFault). IsPhaseOutcome net doc list judge.phase judge.number (t ∷ behind) o) reads h

    gone_on : (next : RepairJudge) → standing next.reader ≡ (step net doc list (standing judge.reader) line).0 → next.number ≡ judge.number + 1 →
        Goes net doc list judge.phase judge.number told next.phase → HasComeTo net doc list text rest next
    gone_on next stands number goes =
        let same : answers net doc list (standing next.reader) rest ≡ behind = ap (λ (s : Standing). answers net doc list s rest) stands in
        record {
          outcome = λ o h. come.outcome o (leads o (goes.outcome behind o
              (subst (λ (n : ℕ). IsPhaseOutcome net doc list next.phase n behind o) number (subst (λ (a : ReaderAnswers). IsPhaseOutcome net doc list next.phase next.number a o) same h))));
          at = subst (λ (a : ReaderAnswers). IsAt net doc list (text_answers net doc list text) next.phase a) (sym same) (goes.at (text_answers net doc list text) behind here);
        }

    -- another line may come
    pub line_came : (next : Next) (phase : Phase) → next ≡ Line phase → LeadsTo net doc list judge.phase judge.number told next → (reader : Reader) →
        standing reader ≡ (step net doc list (standing judge.reader) line).0 →
        HasComeTo net doc list text rest (record { reader = reader; phase = phase; number = judge.number + 1 })
    line_came next phase is there reader stands =
        gone_on (record { reader = reader; phase = phase; number = judge.number + 1 }) stands refl (subst (LeadsTo net doc list judge.phase judge.number told) is there)

    -- the line decides the outcome
    pub settled : (next : Next) (o : Outcome) → next ≡ Done o → LeadsTo net doc list judge.phase judge.number told next → Judges net doc list text o
    settled next o is there =
        let settles : Settles net doc list judge.phase judge.number told o = subst (LeadsTo net doc list judge.phase judge.number told) is there in
        record {
          outcome = come.outcome o (leads o (settles.outcome behind));
          counted = settles.at (text_answers net doc list text) behind here;
        }
