-- A text has one outcome.
use Rattle.std.proofs.Common.{◌≡◌, ℕ, ◌+◌, inl, inr, List, [], ◌∷◌, sym, ◌∙◌}
use Rattle.std.specs.Prelude.{Result, Ok, Err}
use Rattle.net_model.specs.declared.policies.Policy.{Policy}
use Rattle.net_model.specs.declared.rows.Network.{Network}
use Rattle.policy_report.specs.declared.got.Got.{Got}
use Rattle.policy_report.specs.declared.got.Got.TheVariants.{More, Head, Verdict, Edit, Step, End}
use Rattle.policy_report.specs.declared.got.CertForm.TheVariants.{Report, Repaired, NoRepair}
use Rattle.policy_report.specs.declared.got.CertFault.{CertFault}
use Rattle.report_check.specs.declared.outcome.Outcome.{Outcome}
use Rattle.report_check.specs.Outcomes.{IsReportOutcome}

pub one_outcome : (net : Network) (policies : List Policy) (first number : ℕ) (told : List (Result Got CertFault)) (o p : Outcome) →
    IsReportOutcome net policies first number told o → IsReportOutcome net policies first number told p → o ≡ p
one_outcome net policies first number [] o p h k = h ∙ sym k
one_outcome net policies first number (Err fault ∷ rest) o p h k = h ∙ sym k
one_outcome net policies first number (Ok More ∷ rest) o p h k = one_outcome net policies first (number + 1) rest o p h k
one_outcome net policies first number (Ok (Head Report) ∷ rest) o p h k = one_outcome net policies (number + 1) (number + 1) rest o p h k
one_outcome net policies first number (Ok (Head (Repaired price bound)) ∷ rest) o p h k = h ∙ sym k
one_outcome net policies first number (Ok (Head (NoRepair bound)) ∷ rest) o p h k = h ∙ sym k
one_outcome net policies first number (Ok (Edit place) ∷ rest) o p h k = h ∙ sym k
one_outcome net policies first number (Ok (Step s) ∷ rest) o p h k = h ∙ sym k
one_outcome net policies first number (Ok (Verdict which v) ∷ rest) o p h k =
    elim h [
      | inl good ↦ elim k [
        | inl also ↦ one_outcome net policies (number + 1) (number + 1) rest o p good.1 also.1
        | inr bad ↦ absurd (bad.0 good.0)
      ]
      | inr bad ↦ elim k [
        | inl good ↦ absurd (bad.0 good.0)
        | inr also ↦ bad.1 ∙ sym also.1
      ]
    ]
one_outcome net policies first number (Ok End ∷ []) o p h k = h ∙ sym k
one_outcome net policies first number (Ok End ∷ (told ∷ rest)) o p h k = one_outcome net policies first (number + 1) (told ∷ rest) o p h k
