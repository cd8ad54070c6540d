-- Clauses one after another among literals.
use Rattle.std.specs.Prelude.{ℕ, ◌-◌, ◌<◌, ◌≤◌, ◌^◌, All, List, length, take, drop}
use Rattle.cnf_types.specs.declared.literal.Lit.{Lit}
use Rattle.cnf_types.specs.declared.clauses.Clause.{Clause}
use Rattle.packed_formula.specs.declared.clauses.Span.{Span}

-- a span of some of `count` literals
pub record IsSpan (count : ℕ) (span : Span) : Type 0 where
  pub start : span.start ≤ span.stop
  pub stop : span.stop ≤ count

-- the clause of these literals
abbrev pub clause_at : List Lit → Span → Clause
clause_at lits span = record { lits = take (span.stop - span.start) (drop span.start lits) }

-- each span is one of these literals, and there are fewer than 2^32 of both
pub record ArePacked (lits : List Lit) (spans : List Span) : Type 0 where
  pub within : All (IsSpan (length lits)) spans
  pub few_lits : length lits < 2 ^ 32
  pub few : length spans < 2 ^ 32
