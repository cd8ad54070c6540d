-- How long a report of right verdicts can get.
use Rattle.std.specs.Prelude.{ℕ, ◌≤◌, ◌^◌, List, length, All}
use Rattle.std.specs.List.{AllZip}
use Rattle.arc_base.specs.declared.limits.TheConstants.{LINK_LIMIT, POLICY_LIMIT, CLASS_LIMIT}
use Rattle.arc_base.specs.declared.limits.TheConstants.{PROOF_LIMIT}
use Rattle.net_model.specs.declared.policies.Document.{Document}
use Rattle.net_model.specs.declared.policies.PolicyKind.{PolicyKind}
use Rattle.net_model.specs.declared.policies.PolicyKind.TheVariants.{Blocked, Through, Reach}
use Rattle.net_model.specs.declared.rows.Network.{Network}
use Rattle.net_model.specs.declared.verdicts.Verdict.{Verdict}
use Rattle.net_model.specs.Validity.{IsValid}
use Rattle.net_model.specs.Witnesses.{IsRight}
use Rattle.policy_report.specs.Reports.{witness_lines, report_text}

-- the witness has few lines: not more than CLASS_LIMIT
abbrev pub HasFewLines : Network → Verdict → Type 0
HasFewLines net v = length (witness_lines net v) ≤ CLASS_LIMIT

-- few links may fail: not more than LINK_LIMIT
abbrev pub HasFewFailures : PolicyKind → Type 0
HasFewFailures Blocked = Unit {0}
HasFewFailures Through = Unit {0}
HasFewFailures (Reach k) = k ≤ LINK_LIMIT

-- a report of right verdicts with few lines each, on at most POLICY_LIMIT policies, is no longer
-- than a report may be
abbrev pub RightReportsAreShort : Type 0
RightReportsAreShort =
    (net : Network) (doc : Document) (vs : List Verdict) → IsValid net →
    length doc.policies ≤ POLICY_LIMIT →
    All (λ p. HasFewFailures p.kind) doc.policies → AllZip (IsRight net) doc.policies vs →
    All (HasFewLines net) vs → length (report_text net doc vs) ≤ PROOF_LIMIT
