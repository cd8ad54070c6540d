use Rattle.std.specs.Prelude.{ℕ, ◌+◌, ◌-◌, ◌*◌, ◌/◌, ◌%◌, Bool, if◌then◌else◌, ◌==◌}
use Rattle.cnf_types.specs.declared.literal.Lit.{Lit}

-- the variable itself, or its negation
abbrev pub literal : ℕ → Bool → Lit
literal var positive = record { code = if positive then 2 * var else 2 * var + 1 }

-- the variable of a literal
abbrev pub variable : Lit → ℕ
variable l = l.code / 2

-- whether a literal is its variable and not the negation
abbrev pub is_positive : Lit → Bool
is_positive l = l.code % 2 == 0

-- the literal of the same variable and the other sign
abbrev pub negated : Lit → Lit
negated l = record { code = if is_positive l then l.code + 1 else l.code - 1 }
