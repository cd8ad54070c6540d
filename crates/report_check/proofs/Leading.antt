-- What the line of a verdict leads to.
use Rattle.std.proofs.Common.{◌≡◌, ℕ, ◌+◌, inl, inr, List, ◌∷◌, refl, sym, ◌∙◌, ap, subst}
use Rattle.std.specs.Prelude.{Result, Ok, Err}
use Rattle.arc_base.specs.declared.certificate.CertKind.TheVariants.{Witness, Memory}
use Rattle.net_model.specs.declared.policies.Policy.{Policy}
use Rattle.net_model.specs.declared.rows.Network.{Network}
use Rattle.net_model.specs.declared.verdicts.Verdict as verdicts
use Rattle.policy_report.specs.declared.got.Got.{Got}
use Rattle.policy_report.specs.declared.got.Got.TheVariants.{Verdict}
use Rattle.policy_report.specs.declared.got.CertFault.{CertFault}
use Rattle.policy_report.specs.Steps.{Standing, Step, IsRead}
use Rattle.report_check.specs.declared.judging.Next.{Next}
use Rattle.report_check.specs.declared.judging.Next.TheVariants.{Line, Done}
use Rattle.report_check.specs.declared.outcome.Outcome.TheVariants.{Rejected}
use Rattle.report_check.specs.Outcomes.{IsRightAt, IsReportOutcome}
use Rattle.report_check.specs.Lines.{LeadsTo}

no_fault : (got : Got) (fault : CertFault) → Ok got ≡ Err fault → ⊥
no_fault got fault e = absurd (cc)

-- what was read is the expected answer
pub read_told : (expected : Step) (line : ℕ) (now : Standing) (result : Result Got CertFault) (got : Got) → IsRead expected line now result → result ≡ Ok got → expected.1 ≡ Ok got
read_told expected line now result got read is =
    elim read [
      | inl e ↦ sym (ap (λ (s : Step). s.1) e) ∙ is
      | inr e ↦ absurd (no_fault got (record { line = line; kind = Memory }) (sym is ∙ ap (λ (s : Step). s.1) e))
    ]

-- a right verdict leads to the next line, and any other to its rejection
pub right_leads : (net : Network) (policies : List Policy) (first number which : ℕ) (v : verdicts.Verdict) (told : Result Got CertFault) (rest : List (Result Got CertFault)) (next : Next) →
    told ≡ Ok (Verdict which v) → next ≡ Line (number + 1) → IsRightAt net policies which v → LeadsTo net policies first number told rest next
right_leads net policies first number which v told rest next e n right =
    subst (LeadsTo net policies first number told rest) (sym n)
    (λ o h. subst (λ t. IsReportOutcome net policies first number (t ∷ rest) o) (sym e) (inl (right, h)))

pub wrong_leads : (net : Network) (policies : List Policy) (first number which : ℕ) (v : verdicts.Verdict) (told : Result Got CertFault) (rest : List (Result Got CertFault)) (next : Next) →
    told ≡ Ok (Verdict which v) → next ≡ Done (Rejected (record { line = first; kind = Witness })) → (¬ IsRightAt net policies which v) → LeadsTo net policies first number told rest next
wrong_leads net policies first number which v told rest next e n wrong =
    subst (LeadsTo net policies first number told rest) (sym n)
    (subst (λ t. IsReportOutcome net policies first number (t ∷ rest) (Rejected (record { line = first; kind = Witness }))) (sym e) (inr (wrong, refl)))
