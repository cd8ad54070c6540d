-- How long a report can get.
use Rattle.std.specs.Prelude.{◌≤◌, List, length, All}
use Rattle.std.specs.List.{AllZip}
use Rattle.arc_base.specs.declared.limits.TheConstants.{LINK_LIMIT, POLICY_LIMIT, CLASS_LIMIT}
use Rattle.arc_base.specs.declared.limits.TheConstants.{PROOF_LIMIT}
use Rattle.net_model.specs.declared.policies.Document.{Document}
use Rattle.net_model.specs.declared.rows.Network.{Network}
use Rattle.net_model.specs.declared.verdicts.Verdict.{Verdict}
use Rattle.net_model.specs.declared.verdicts.Verdict.TheVariants.{Closed, Paths, Walk, Denied, Cut}
use Rattle.net_model.specs.declared.verdicts.Verdict.TheVariants.{Refused}
use Rattle.net_model.specs.Validity.{IsValid}
use Rattle.policy_report.specs.Reports.{report_text}
use Rattle.policy_report.specs.Rereading.{IsReadable}

-- the witness is short: it has at most CLASS_LIMIT sides or paths, and no line of it has more than
-- LINK_LIMIT links
abbrev pub IsShort : Verdict → Type 0
IsShort (Closed sides) = length sides ≤ CLASS_LIMIT
IsShort (Paths paths) = (length paths ≤ CLASS_LIMIT) × All (λ p. length p.links ≤ LINK_LIMIT) paths
IsShort (Walk class path) = length path.links ≤ LINK_LIMIT
IsShort (Denied class) = Unit {0}
IsShort (Cut links side) = length links ≤ LINK_LIMIT
IsShort (Refused packet link) = Unit {0}

-- a report of short witnesses on at most POLICY_LIMIT policies is no longer than a report may be
abbrev pub ReportsAreShort : Type 0
ReportsAreShort =
    (net : Network) (doc : Document) (vs : List Verdict) → IsValid net →
    length doc.policies ≤ POLICY_LIMIT → AllZip (IsReadable net) doc.policies vs → All IsShort vs →
    length (report_text net doc vs) ≤ PROOF_LIMIT
