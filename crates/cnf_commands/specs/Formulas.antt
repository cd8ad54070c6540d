-- The formula that a command begins with.
use Rattle.std.specs.Prelude.{◌≡◌, ℕ, List, [], Option, Some, None, Result, Ok, Err, IsOkAnd}
use Rattle.arc_base.specs.declared.refusal.Kind.TheVariants.{Limit}
use Rattle.arc_outside.specs.Files.{Files}
use Rattle.cnf_types.specs.declared.clauses.Formula.{Formula}
use Rattle.cnf_types.specs.declared.faults.CnfFault.{CnfFault}
use Rattle.cnf_types.specs.declared.faults.CnfFault.TheVariants as faults
use Rattle.cnf_types.specs.Dimacs.{reading}
use Rattle.proof_check.specs.declared.checker.Checker.{Checker}
use Rattle.proof_check.specs.Knowledge.{start}
use Rattle.proof_check.specs.View.{known}
use Rattle.run_files.specs.declared.outcome.FileRefusal.{FileRefusal}
use Rattle.run_files.specs.declared.outcome.Reason.TheVariants as reasons
use Rattle.run_files.specs.declared.outcome.Stop.{Stop}
use Rattle.run_files.specs.Answers.{Gives}
use Rattle.run_files.specs.Refusals.{bytes_at, refusal_of, read_refusal}
use Rattle.std.specs.Option.{option_or}
use Rattle.arc_base.specs.declared.limits.TheConstants.{FORMULA_FILE_LIMIT}

-- how many bytes a formula's file may have
abbrev pub cnf_limit : ℕ
cnf_limit = FORMULA_FILE_LIMIT

-- the refusal of a text that has this fault; out of memory is no fault of the text
abbrev pub faulty : List ℕ → CnfFault → Option FileRefusal
faulty cnf (faults.BadHeader line) =
    Some (record { name = cnf; number = line; reason = reasons.BadHeader })
faulty cnf (faults.BadNumber line) =
    Some (record { name = cnf; number = line; reason = reasons.BadNumber })
faulty cnf (faults.Count line) =
    Some (record { name = cnf; number = line; reason = reasons.ClauseCount })
faulty cnf (faults.TooLarge what count) = Some (refusal_of cnf 0 (Limit what count))
faulty cnf faults.Memory = None

-- the refusal of a text, given how it is read: none if it has a formula
abbrev pub formula_refusal : List ℕ → Result Formula CnfFault → Option FileRefusal
formula_refusal cnf (Ok f) = None
formula_refusal cnf (Err fault) = faulty cnf fault

-- the first refusal of a formula's file: it is missing or too long, or its first fault
abbrev pub cnf_refusal : List ℕ → Files → Option FileRefusal
cnf_refusal cnf files =
    option_or (read_refusal cnf_limit files cnf)
    (formula_refusal cnf (reading (bytes_at files cnf)))

-- the answer of reading the formula: the formula, or its first refusal
abbrev pub ReadsFormula : List ℕ → Files → Result Formula Stop → Type 0
ReadsFormula cnf files result =
    Gives (λ r. cnf_refusal cnf files ≡ Some r)
    (λ f. (cnf_refusal cnf files ≡ None) × (reading (bytes_at files cnf) ≡ Ok f)) result

-- the answer of reading the formula into a checker: one that knows the formula, or the first
-- refusal
abbrev pub MakesChecker : List ℕ → Files → Result Checker Stop → Type 0
MakesChecker cnf files result =
    Gives (λ r. cnf_refusal cnf files ≡ Some r)
    (λ checker. (cnf_refusal cnf files ≡ None)
    × IsOkAnd (reading (bytes_at files cnf)) (λ f. known checker ≡ start f None [])) result
