-- A report is read again: a reader that takes its lines in order gives back its head, its verdicts
-- and its end, and a text of which each line is taken, the first of them as a report's and the last
-- as the end, is a report.
use Rattle.std.specs.Prelude.{◌≡◌, ℕ, ◌+◌, ◌<◌, ◌≤◌, ◌^◌, List, [], ◌∷◌, ◌++◌, length, All, Result}
use Rattle.std.specs.Prelude.{Ok, Err}
use Rattle.std.specs.List.{AllZip}
use Rattle.arc_base.specs.declared.place.Link.{Link}
use Rattle.arc_base.specs.TextLines.{lines}
use Rattle.net_model.specs.declared.policies.Document.{Document}
use Rattle.net_model.specs.declared.policies.Policy.{Policy}
use Rattle.net_model.specs.declared.policies.PolicyKind.{PolicyKind}
use Rattle.net_model.specs.declared.policies.PolicyKind.TheVariants as kinds
use Rattle.net_model.specs.declared.rows.Network.{Network}
use Rattle.net_model.specs.declared.verdicts.Verdict as verdicts
use Rattle.net_model.specs.declared.verdicts.Verdict.TheVariants.{Closed, Paths, Walk, Denied, Cut}
use Rattle.net_model.specs.declared.verdicts.Verdict.TheVariants.{Refused}
use Rattle.net_model.specs.Validity.{IsValid}
use Rattle.edit_list.specs.declared.edit_kinds.Edit as edits
use Rattle.policy_report.specs.declared.got.Got.{Got}
use Rattle.policy_report.specs.declared.got.Got.TheVariants.{More, Head, Verdict, End}
use Rattle.policy_report.specs.declared.got.CertForm.TheVariants.{Report}
use Rattle.policy_report.specs.declared.got.CertFault.{CertFault}
use Rattle.policy_report.specs.Reports.{witness_lines, report_text}
use Rattle.policy_report.specs.Steps.{Standing, start, step}

-- a policy that asks this may have the verdict
abbrev pub MayHaveVerdict : PolicyKind → verdicts.Verdict → Type 0
MayHaveVerdict (kinds.Reach k) (Paths paths) = Unit {0}
MayHaveVerdict (kinds.Reach k) (Denied class) = Unit {0}
MayHaveVerdict (kinds.Reach k) (Cut links side) = Unit {0}
MayHaveVerdict (kinds.Reach k) (Refused packet link) = Unit {0}
MayHaveVerdict (kinds.Reach k) _ = ⊥
MayHaveVerdict _ (Closed sides) = Unit {0}
MayHaveVerdict _ (Walk class path) = Unit {0}
MayHaveVerdict _ _ = ⊥

-- the links are the network's
abbrev pub AreLinks : Network → List Link → Type 0
AreLinks net links = All (λ l. l.0 < length net.links) links

-- the witness can be written in lines: links are the network's, a side has a flag for each router,
-- an address has 32 bits and a service 24, and the lines can be counted in 32 bits
abbrev pub CanBeWritten : Network → verdicts.Verdict → Type 0
CanBeWritten net (Closed sides) =
    All (λ s. length s.side ≡ length net.routers) sides × (length sides ≤ 4294967295)
CanBeWritten net (Paths paths) = All (λ p. AreLinks net p.links) paths × (length paths ≤ 4294967295)
CanBeWritten net (Walk class path) = AreLinks net path.links
CanBeWritten net (Denied class) = Unit {0}
CanBeWritten net (Cut links side) = AreLinks net links × (length side ≡ length net.routers)
CanBeWritten net (Refused packet link) =
    (link.0 < length net.links) ×
    ((packet.from < 2 ^ 32) × (packet.to < 2 ^ 32) × (packet.service < 2 ^ 24))

-- the verdict on the policy can be written in a report
pub record IsReadable (net : Network) (policy : Policy) (v : verdicts.Verdict) : Type 0 where
  pub kind : MayHaveVerdict policy.kind v
  pub told : CanBeWritten net v

-- what a reader answers to these lines, where the edits are these
abbrev pub answers : Network → Document → List edits.Edit → Standing → List (List ℕ) →
    List (Result Got CertFault)
answers net doc all s [] = []
answers net doc all s (line ∷ ls) =
    (step net doc all s line).1 ∷ answers net doc all (step net doc all s line).0 ls

-- as often as there are lines
abbrev pub more : {X : Type 0} → List X → List (Result Got CertFault)
more [] = []
more (line ∷ ls) = Ok More ∷ more ls

-- the answers to a block
abbrev pub block_answers : Network → ℕ → verdicts.Verdict → List (Result Got CertFault)
block_answers net which v = more (witness_lines net v) ++ Ok (Verdict which v) ∷ []

-- the answers to the blocks from this place on and the lines after them
abbrev pub blocks_answers : Network → ℕ → List verdicts.Verdict → List (Result Got CertFault) →
    List (Result Got CertFault)
blocks_answers net which [] rest = rest
blocks_answers net which (v ∷ vs) rest =
    block_answers net which v ++ blocks_answers net (which + 1) vs rest

-- the answers to a report
abbrev pub report_answers : Network → List verdicts.Verdict → List (Result Got CertFault)
report_answers net vs = Ok (Head Report) ∷ blocks_answers net 0 vs (Ok End ∷ [])

-- each line is taken, and the last one is the end
abbrev pub IsWhole : List (Result Got CertFault) → Type 0
IsWhole [] = ⊥
IsWhole (Err fault ∷ rest) = ⊥
IsWhole (Ok End ∷ []) = Unit {0}
IsWhole (Ok got ∷ rest) = IsWhole rest

-- each line is taken, the first one as the head of a report and the last one as the end
abbrev pub IsWholeReport : List (Result Got CertFault) → Type 0
IsWholeReport (Ok (Head Report) ∷ rest) = IsWhole rest
IsWholeReport other = ⊥

-- the lines of a report are read again
abbrev pub ReportsAreReadAgain : Type 0
ReportsAreReadAgain =
    (net : Network) (doc : Document) (all : List edits.Edit) (vs : List verdicts.Verdict) →
    IsValid net → length doc.policies ≤ 4294967295 → AllZip (IsReadable net) doc.policies vs →
    answers net doc all start (lines (report_text net doc vs)) ≡ report_answers net vs

-- only the lines of a report are taken
abbrev pub OnlyReportsAreTaken : Type 0
OnlyReportsAreTaken =
    (net : Network) (doc : Document) (all : List edits.Edit) (ls : List (List ℕ)) → IsValid net →
    length doc.policies ≤ 4294967295 → IsWholeReport (answers net doc all start ls) →
    (vs : List verdicts.Verdict) × AllZip (IsReadable net) doc.policies vs ×
    (ls ≡ lines (report_text net doc vs))
