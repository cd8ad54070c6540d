-- The literals of the marks.
use Rattle.std.specs.Prelude.{Bool, nat_eq, slice_get}
use Rattle.std.specs.Option.{unwrap_or}
use Rattle.std.specs.HashSet.{contains}
use Rattle.cnf_types.specs.declared.literal.Lit.{Lit}
use Rattle.proof_check.specs.declared.left.Marks.{Marks}

-- the set of the marked literals: the flag of a literal's code where there is one, or else
-- membership in the set
abbrev pub is_marked : Marks → Lit → Bool
is_marked marks l = unwrap_or (slice_get marks.near l.code) (contains nat_eq marks.far l.code)
