-- A step adds one clause at most.
use Rattle.std.proofs.Common.{◌≤◌, [], ◌∷◌, arith}
use Rattle.proof_log.specs.declared.steps.Step.{Step}
use Rattle.proof_log.specs.declared.steps.Step.TheVariants.{Add, Drop, Bound}
use Rattle.clean_logs.specs.CleanLogs.{additions}

pub additions_one : (s : Step) → additions (s ∷ []) ≤ 1
additions_one (Add id lits hints) = omega arith
additions_one (Drop ids) = omega arith
additions_one (Bound id price) = omega arith
