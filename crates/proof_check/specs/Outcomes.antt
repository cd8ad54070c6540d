-- What the text of a proof is judged to.
use Rattle.std.specs.Prelude.{ℕ, ◌+◌, if◌then◌else◌, List, [], ◌∷◌, Option, Some, None, Result, Ok}
use Rattle.std.specs.Prelude.{Err, IsSomeAnd}
use Rattle.std.specs.Option.{option_map}
use Rattle.arc_base.specs.declared.certificate.CertKind.{CertKind}
use Rattle.arc_base.specs.declared.certificate.CertKind.TheVariants as kinds
use Rattle.cnf_types.specs.declared.clauses.Formula.{Formula}
use Rattle.arc_base.specs.TextLines.{lines}
use Rattle.proof_log.specs.declared.steps.Step.{Step}
use Rattle.proof_log.specs.declared.reading.LineKind.{LineKind}
use Rattle.proof_log.specs.Reading.{reading}
use Rattle.proof_check.specs.declared.faults.StepFault.{StepFault}
use Rattle.proof_check.specs.declared.faults.StepFault.TheVariants as faults
use Rattle.proof_check.specs.declared.rejections.Rejection.{Rejection}
use Rattle.proof_check.specs.declared.rejections.Rejection.TheVariants.{Form, Fault, NotRefuted}
use Rattle.proof_check.specs.declared.rejections.Outcome.{Outcome}
use Rattle.proof_check.specs.declared.rejections.Outcome.TheVariants.{Accepted, Rejected}
use Rattle.proof_check.specs.Knowledge.{Knowledge, start, step_fault, after}
use Rattle.proof_check.specs.Logs.{IsAccepted, IsRefuting}

-- the steps of a log's lines, where each line is a step, a comment or empty
abbrev pub with_line : Result (Option Step) LineKind → Option (List Step) → Option (List Step)
with_line (Err kind) rest = None
with_line (Ok None) rest = rest
with_line (Ok (Some s)) rest = option_map (λ steps. s ∷ steps) rest

abbrev pub steps_of : List (List ℕ) → Option (List Step)
steps_of [] = Some []
steps_of (line ∷ ls) = with_line (reading line) (steps_of ls)

-- the text is an accepted log for the formula that adds the empty clause
abbrev pub IsRefutation : Formula → List ℕ → Type 0
IsRefutation f proof =
    IsSomeAnd (steps_of (lines proof)) (λ steps.
    IsAccepted (start f None []) steps × IsRefuting steps)

-- the kind of reason for which a step is not accepted
abbrev pub fault_kind : StepFault → CertKind
fault_kind faults.IdNotRising = kinds.IdNotRising
fault_kind (faults.NegativeHint place) = kinds.NegativeHint
fault_kind (faults.UnknownId place) = kinds.UnknownId
fault_kind (faults.HintNotUnit place) = kinds.HintNotUnit
fault_kind faults.NoConflict = kinds.NoConflict
fault_kind faults.BoundTooLow = kinds.BoundTooLow
fault_kind faults.BoundTooHigh = kinds.BoundTooHigh
fault_kind faults.Memory = kinds.Memory

-- why a line is rejected
abbrev pub line_rejection : Result (Option Step) LineKind → Knowledge → Option Rejection
line_rejection (Err kind) k = Some Form
line_rejection (Ok None) k = None
line_rejection (Ok (Some s)) k = option_map Fault (step_fault k s)

-- what is known after a line that is not
abbrev pub line_after : Result (Option Step) LineKind → Knowledge → Knowledge
line_after (Err kind) k = k
line_after (Ok None) k = k
line_after (Ok (Some s)) k = after k s

-- the rejection of a line, or else the outcome of the rest
abbrev pub rejected_or : Option Rejection → ℕ → Outcome → Outcome
rejected_or (Some r) number rest = Rejected number r
rejected_or None number rest = rest

-- the outcome of a log's lines, the first of them with this number
abbrev pub log_outcome : Knowledge → ℕ → List (List ℕ) → Outcome
log_outcome k number [] = if k.refuted then Accepted else Rejected number NotRefuted
log_outcome k number (line ∷ ls) =
    rejected_or (line_rejection (reading line) k) number
    (log_outcome (line_after (reading line) k) (number + 1) ls)
