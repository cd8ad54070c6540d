-- Judging one line.
use Rattle.std.specs.Prelude.{◌≡◌, ℕ, ◌+◌, Bool, true, false, List, [], ◌∷◌, Result}
use Rattle.net_model.specs.declared.policies.Policy.{Policy}
use Rattle.net_model.specs.declared.rows.Network.{Network}
use Rattle.policy_report.specs.declared.got.Got.{Got}
use Rattle.policy_report.specs.declared.got.CertFault.{CertFault}
use Rattle.report_check.specs.declared.judging.Next.{Next}
use Rattle.report_check.specs.declared.judging.Next.TheVariants.{Line, End, Done}
use Rattle.report_check.specs.declared.outcome.Outcome.{Outcome}
use Rattle.report_check.specs.declared.outcome.Outcome.TheVariants.{Accepted}
use Rattle.report_check.specs.Outcomes.{IsReportOutcome}

-- another line may come
abbrev pub MayCome : Next → Type 0
MayCome (Line begins) = Unit {0}
MayCome End = Unit {0}
MayCome (Done o) = ⊥

-- the outcome, given the answers to the lines that are left and whether the last line was `end`,
-- after which none need follow
abbrev pub IsOutcomeAfter : Bool → Network → List Policy → ℕ → ℕ →
    List (Result Got CertFault) → Outcome → Type 0
IsOutcomeAfter true net policies first number [] o = o ≡ Accepted
IsOutcomeAfter true net policies first number (told ∷ rest) o =
    IsReportOutcome net policies first number (told ∷ rest) o
IsOutcomeAfter false net policies first number told o =
    IsReportOutcome net policies first number told o

-- what the answer to a line leads to: an outcome, or that of the lines after it
abbrev pub LeadsTo : Network → List Policy → ℕ → ℕ → Result Got CertFault →
    List (Result Got CertFault) → Next → Type 0
LeadsTo net policies first number told rest (Line begins) =
    (o : Outcome) → IsReportOutcome net policies begins (number + 1) rest o →
    IsReportOutcome net policies first number (told ∷ rest) o
LeadsTo net policies first number told rest End =
    (o : Outcome) → IsOutcomeAfter true net policies first (number + 1) rest o →
    IsReportOutcome net policies first number (told ∷ rest) o
LeadsTo net policies first number told rest (Done o) =
    IsReportOutcome net policies first number (told ∷ rest) o
