-- What a line leads to that a judge takes.
use Rattle.std.proofs.Common.{◌≡◌, ℕ, ◌+◌, Bool, true, false, List, [], ◌∷◌, refl, sym, subst}
use Rattle.std.specs.Prelude.{Result}
use Rattle.net_model.specs.declared.policies.Document.{Document}
use Rattle.net_model.specs.declared.policies.Policy.{Policy}
use Rattle.net_model.specs.declared.rows.Network.{Network}
use Rattle.policy_report.specs.declared.got.Got.{Got}
use Rattle.policy_report.specs.declared.got.CertFault.{CertFault}
use Rattle.policy_report.specs.declared.reader.Reader.{Reader}
use Rattle.policy_report.specs.Rereading.{answers}
use Rattle.policy_report.specs.Steps.{Standing, standing, step}
use Rattle.report_check.specs.declared.judge.ReportJudge.{ReportJudge}
use Rattle.report_check.specs.declared.judging.Next.{Next}
use Rattle.report_check.specs.declared.judging.Next.TheVariants.{Line, End, Done}
use Rattle.report_check.specs.declared.outcome.Outcome.{Outcome}
use Rattle.report_check.specs.LineByLine.{HasComeTo, IsJudgedTo}
use Rattle.report_check.specs.Lines.{IsOutcomeAfter, LeadsTo, MayCome}
use Rattle.report_check.specs.Outcomes.{IsReportOutcome}

-- if a line follows, it does not matter whether the last one was `end`
some_follows : (ended : Bool) (net : Network) (policies : List Policy) (first number : ℕ) (told : Result Got CertFault) (rest : List (Result Got CertFault)) (o : Outcome) →
    IsReportOutcome net policies first number (told ∷ rest) o → IsOutcomeAfter ended net policies first number (told ∷ rest) o
some_follows true net policies first number told rest o h = h
some_follows false net policies first number told rest o h = h

module _ (net : Network) (doc : Document) (text : List ℕ) (judge : ReportJudge) where
  module _ (line : List ℕ) (rest : List (List ℕ)) (come : HasComeTo net doc text (line ∷ rest) judge) where
    -- the reader's answers to the line, and to those after it
    abbrev answer : Result Got CertFault
    answer = (step net doc [] (standing judge.reader) line).1

    abbrev behind : List (Result Got CertFault)
    behind = answers net doc [] (step net doc [] (standing judge.reader) line).0 rest

    gone_on : (next : ReportJudge) → standing next.reader ≡ (step net doc [] (standing judge.reader) line).0 → next.number ≡ judge.number + 1 →
        ((o : Outcome) → IsOutcomeAfter next.ended net doc.policies next.first (judge.number + 1) behind o →
        IsReportOutcome net doc.policies judge.first judge.number (answer ∷ behind) o) → HasComeTo net doc text rest next
    gone_on next stands number leads = record {
      outcome = λ o h. come.outcome o (some_follows judge.ended net doc.policies judge.first judge.number answer behind o (leads o
          (subst (λ (n : ℕ). IsOutcomeAfter next.ended net doc.policies next.first n behind o) number
          (subst (λ (s : Standing). IsOutcomeAfter next.ended net doc.policies next.first next.number (answers net doc [] s rest) o) stands h))));
    }

    module _ (reader : Reader) (next : Next) (stands : MayCome next → standing reader ≡ (step net doc [] (standing judge.reader) line).0)
        (leads : (told : List (Result Got CertFault)) → LeadsTo net doc.policies judge.first judge.number answer told next) where
      here : (other : Next) → next ≡ other → LeadsTo net doc.policies judge.first judge.number answer behind other
      here other is = subst (LeadsTo net doc.policies judge.first judge.number answer behind) is (leads behind)

      -- another line may come
      pub line_came : (first : ℕ) → next ≡ Line first → HasComeTo net doc text rest (record { reader = reader; first = first; number = judge.number + 1; ended = false })
      line_came first is = gone_on (record { reader = reader; first = first; number = judge.number + 1; ended = false }) (stands (subst MayCome (sym is) tt)) refl (here (Line first) is)

      pub end_came : next ≡ End → HasComeTo net doc text rest (record { reader = reader; first = judge.first; number = judge.number + 1; ended = true })
      end_came is = gone_on (record { reader = reader; first = judge.first; number = judge.number + 1; ended = true }) (stands (subst MayCome (sym is) tt)) refl (here End is)

      -- the line decides the outcome
      pub settled : (o : Outcome) → next ≡ Done o → IsJudgedTo net doc text o
      settled o is = come.outcome o (some_follows judge.ended net doc.policies judge.first judge.number answer behind o (here (Done o) is))
