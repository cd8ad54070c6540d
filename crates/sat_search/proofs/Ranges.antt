-- Lists of literals in range, as they are pushed and turned round.
use Rattle.std.proofs.Common.{◌≡◌, Bool, true, false, Option, Some, None, unwrap_or}
use Rattle.std.proofs.lemmas.Bool.{false_from_ne_true}
use Rattle.cnf_types.specs.declared.literal.Lit.{Lit}
use Rattle.sat_core.specs.Trails.{IsValue, is_on}
use Rattle.sat_core.specs.States.{State, IsSound}
use Rattle.sat_search.proofs.Passing.{trail_consistent}

-- what a core says of a true literal
pub value_true : (s : State) (l : Lit) (o : Option Bool) → IsSound s → IsValue s.trail l o → is_on s.trail l ≡ unwrap_or o false
value_true s l None sound value = value.not_true
value_true s l (Some true) sound value = value
value_true s l (Some false) sound value = false_from_ne_true (is_on s.trail l) (λ on. trail_consistent s sound l on value)
