-- What is left of a clause, literal by literal.
use Rattle.std.proofs.Common.{List, Option, Some, None}
use Rattle.cnf_types.specs.declared.literal.Lit.{Lit}
use Rattle.proof_check.specs.declared.left.Left.{Left}
use Rattle.proof_check.specs.Propagation.{left_of, one_or_more}

-- what is left, where one literal may be known to be
abbrev pub left_from : Option Lit → List Lit → Left
left_from None ls = left_of ls
left_from (Some l) ls = one_or_more l ls
