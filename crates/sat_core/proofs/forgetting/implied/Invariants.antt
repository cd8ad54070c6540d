use Rattle.std.proofs.Common.{◌≢◌, ℕ, ◌<◌, get_or, Some}
use Rattle.std.specs.Option.{option_and_then}
use Rattle.cnf_types.specs.declared.literal.Lit.{Lit}
use Rattle.cnf_types.specs.Literals.{variable}
use Rattle.sat_core.specs.Trails.{entry_of}
use Rattle.sat_core.proofs.forgetting.implied.Given as goal

abbrev pub invariant-loop-lit : goal.invariant-loop-lit
invariant-loop-lit l = (k : ℕ) (d : Lit) → k < l.lit-index → option_and_then (λ e. e.reason) (entry_of l.trail.entries (variable (get_or l.lits k d))) ≢ Some l.held
