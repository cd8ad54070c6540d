-- A text is accepted exactly if each line is read, the last one as the end, and each verdict is right.
use Rattle.std.proofs.Common.{append_assoc, ◌≡◌, ℕ, ◌+◌, inl, inr, List, [], ◌∷◌, ◌++◌, subst}
use Rattle.std.specs.Prelude.{Result, Ok, Err}
use Rattle.arc_base.specs.declared.certificate.CertKind.TheVariants.{Witness}
use Rattle.net_model.specs.declared.policies.Policy.{Policy}
use Rattle.net_model.specs.declared.rows.Network.{Network}
use Rattle.net_model.specs.declared.verdicts.Verdict as verdicts
use Rattle.policy_report.specs.declared.got.Got.{Got}
use Rattle.policy_report.specs.declared.got.Got.TheVariants.{More, Head, Verdict, Edit, Step, End}
use Rattle.policy_report.specs.declared.got.CertForm.TheVariants.{Report, Repaired, NoRepair}
use Rattle.policy_report.specs.declared.got.CertFault.{CertFault}
use Rattle.policy_report.specs.Reports.{witness_lines}
use Rattle.policy_report.specs.Rereading.{IsWhole, more, blocks_answers, report_answers}
use Rattle.report_check.specs.declared.outcome.Outcome.{Outcome}
use Rattle.report_check.specs.declared.outcome.Outcome.TheVariants.{Accepted, Rejected}
use Rattle.report_check.specs.Outcomes.{IsRightAt, IsReportOutcome}

pub not_accepted : (fault : CertFault) → Accepted ≡ Rejected fault → ⊥
not_accepted fault e = absurd (cc)

-- an accepted text is read as a whole
pub accepted_whole : (net : Network) (policies : List Policy) (first number : ℕ) (told : List (Result Got CertFault)) →
    IsReportOutcome net policies first number told Accepted → IsWhole told
accepted_whole net policies first number [] h = absurd (cc)
accepted_whole net policies first number (Err fault ∷ rest) h = absurd (cc)
accepted_whole net policies first number (Ok More ∷ rest) h = accepted_whole net policies first (number + 1) rest h
accepted_whole net policies first number (Ok (Head Report) ∷ rest) h = accepted_whole net policies (number + 1) (number + 1) rest h
accepted_whole net policies first number (Ok (Head (Repaired price bound)) ∷ rest) h = absurd (cc)
accepted_whole net policies first number (Ok (Head (NoRepair bound)) ∷ rest) h = absurd (cc)
accepted_whole net policies first number (Ok (Edit place) ∷ rest) h = absurd (cc)
accepted_whole net policies first number (Ok (Step s) ∷ rest) h = absurd (cc)
accepted_whole net policies first number (Ok (Verdict which v) ∷ rest) h =
    elim h [
      | inl good ↦ accepted_whole net policies (number + 1) (number + 1) rest good.1
      | inr bad ↦ absurd (not_accepted (record { line = first; kind = Witness }) bad.1)
    ]
accepted_whole net policies first number (Ok End ∷ []) h = tt
accepted_whole net policies first number (Ok End ∷ (told ∷ rest)) h = accepted_whole net policies first (number + 1) (told ∷ rest) h

-- the lines inside a block are passed
passed : (net : Network) (policies : List Policy) (first number : ℕ) (ls : List (List ℕ)) (rest : List (Result Got CertFault)) (o : Outcome) →
    IsReportOutcome net policies first number (more ls ++ rest) o → (number : ℕ) × IsReportOutcome net policies first number rest o
passed net policies first number [] rest o h = (number, h)
passed net policies first number (line ∷ ls) rest o h = passed net policies first (number + 1) ls rest o h

-- each verdict is right at its place, counted from this one
abbrev pub AreRightFrom : Network → List Policy → ℕ → List verdicts.Verdict → Type 0
AreRightFrom net policies which [] = Unit {0}
AreRightFrom net policies which (v ∷ vs) = IsRightAt net policies which v × AreRightFrom net policies (which + 1) vs

-- in an accepted report each verdict is right
rights_from : (net : Network) (policies : List Policy) (first number which : ℕ) (vs : List verdicts.Verdict) →
    IsReportOutcome net policies first number (blocks_answers net which vs (Ok End ∷ [])) Accepted → AreRightFrom net policies which vs
rights_from net policies first number which [] h = tt
rights_from net policies first number which (v ∷ vs) h =
    let whole = subst (λ told. IsReportOutcome net policies first number told Accepted)
    (append_assoc (more (witness_lines net v)) (Ok (Verdict which v) ∷ []) (blocks_answers net (which + 1) vs (Ok End ∷ []))) h in
    let last = passed net policies first number (witness_lines net v) (Ok (Verdict which v) ∷ blocks_answers net (which + 1) vs (Ok End ∷ [])) Accepted whole in
    elim last.1 [
      | inl good ↦ (good.0, rights_from net policies (last.0 + 1) (last.0 + 1) (which + 1) vs good.1)
      | inr bad ↦ absurd (not_accepted (record { line = first; kind = Witness }) bad.1)
    ]

-- a report in which each verdict is right is accepted
accepted_from : (net : Network) (policies : List Policy) (first number which : ℕ) (vs : List verdicts.Verdict) (o : Outcome) →
    AreRightFrom net policies which vs → IsReportOutcome net policies first number (blocks_answers net which vs (Ok End ∷ [])) o → o ≡ Accepted
accepted_from net policies first number which [] o right h = h
accepted_from net policies first number which (v ∷ vs) o right h =
    let whole = subst (λ told. IsReportOutcome net policies first number told o)
    (append_assoc (more (witness_lines net v)) (Ok (Verdict which v) ∷ []) (blocks_answers net (which + 1) vs (Ok End ∷ []))) h in
    let last = passed net policies first number (witness_lines net v) (Ok (Verdict which v) ∷ blocks_answers net (which + 1) vs (Ok End ∷ [])) o whole in
    elim last.1 [
      | inl good ↦ accepted_from net policies (last.0 + 1) (last.0 + 1) (which + 1) vs o right.1 good.1
      | inr bad ↦ absurd (bad.0 right.0)
    ]

-- a whole report is accepted exactly if each verdict is right
pub all_right : (net : Network) (policies : List Policy) (vs : List verdicts.Verdict) → IsReportOutcome net policies 1 1 (report_answers net vs) Accepted → AreRightFrom net policies 0 vs
all_right net policies vs h = rights_from net policies 2 2 0 vs h

pub all_accepted : (net : Network) (policies : List Policy) (vs : List verdicts.Verdict) (o : Outcome) → AreRightFrom net policies 0 vs →
    IsReportOutcome net policies 1 1 (report_answers net vs) o → o ≡ Accepted
all_accepted net policies vs o right h = accepted_from net policies 2 2 0 vs o right h
