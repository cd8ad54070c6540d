-- The blocks that an old report holds.
use Rattle.std.specs.Prelude.{Bool, true, false, List, [], ◌∷◌, Result, Ok, Err}
use Rattle.net_model.specs.declared.verdicts.Verdict as verdicts
use Rattle.policy_report.specs.declared.got.Got.{Got}
use Rattle.policy_report.specs.declared.got.Got.TheVariants.{Head, Verdict}
use Rattle.policy_report.specs.declared.got.CertForm.TheVariants.{Report}
use Rattle.policy_report.specs.declared.got.CertFault.{CertFault}
use Rattle.arc_recheck.specs.declared.held.Told.{Told}
use Rattle.arc_recheck.specs.declared.held.Told.TheVariants.{Block, Other, Refused}

-- the verdicts of the blocks that a reader gives before the first line that it rejects
abbrev pub verdicts_before : List (Result Got CertFault) → List verdicts.Verdict
verdicts_before [] = []
verdicts_before (Err fault ∷ rest) = []
verdicts_before (Ok (Verdict which v) ∷ rest) = v ∷ verdicts_before rest
verdicts_before (Ok got ∷ rest) = verdicts_before rest

-- The verdicts of the blocks that are held, by what a reader answers to the lines: those before the
-- first line that it rejects, where the first line is the head of a report. A reader gives the
-- blocks in the order of the policies, so the first is that of the first policy.
abbrev pub held_verdicts : List (Result Got CertFault) → List verdicts.Verdict
held_verdicts (Ok (Head Report) ∷ rest) = verdicts_before rest
held_verdicts _ = []

-- whether the answer is the head of a report
abbrev pub is_report_head : Result Got CertFault → Bool
is_report_head (Ok (Head Report)) = true
is_report_head _ = false

-- what an answer of the reader says of the blocks
abbrev pub told_by : Result Got CertFault → Told
told_by (Ok (Verdict which v)) = Block v
told_by (Ok got) = Other
told_by (Err fault) = Refused

-- a line that is not rejected
abbrev pub IsTaken : Told → Type 0
IsTaken (Block v) = Unit {0}
IsTaken Other = Unit {0}
IsTaken Refused = ⊥
