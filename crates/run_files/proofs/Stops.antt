-- Stops that are no failure of the store.
use Rattle.std.specs.Prelude.{Result, Ok, Err, IfErr, IsErrOf}
use Rattle.run_files.specs.declared.outcome.Stop.{Stop}
use Rattle.run_files.specs.declared.outcome.Stop.TheVariants as stops
use Rattle.run_files.specs.Answers.{HasStopCause}

pub not_failed : {X : Type 0} (result : Result X Stop) → IfErr result (HasStopCause ⊥ ⊥ ⊥) → IsErrOf result stops.Failed → ⊥
not_failed (Ok x) cause is = cc
not_failed (Err (stops.Refused r)) cause is = cc
not_failed (Err stops.Memory) cause is = cc
not_failed (Err stops.Failed) cause is = cause

-- they have a cause wherever they come
pub any_cause : {X : Type 0} (failed absent long : Type 0) (result : Result X Stop) → IfErr result (HasStopCause ⊥ ⊥ ⊥) → IfErr result (HasStopCause failed absent long)
any_cause failed absent long (Ok x) cause = tt
any_cause failed absent long (Err (stops.Refused r)) cause = record { missing = λ is. absurd (cause.missing is); too_long = λ is. absurd (cause.too_long is) }
any_cause failed absent long (Err stops.Memory) cause = tt
any_cause failed absent long (Err stops.Failed) cause = absurd cause
