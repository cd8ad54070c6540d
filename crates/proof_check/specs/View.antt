-- What a checker knows, by its fields.
use Rattle.std.specs.Prelude.{ℕ, nat_eq, List, Option, Some, None, Vec, slice_get}
use Rattle.std.specs.Option.{option_map}
use Rattle.std.specs.Global.{Global}
use Rattle.std.specs.HashMap.{get}
use Rattle.cnf_types.specs.declared.literal.Lit.{Lit}
use Rattle.proof_check.specs.declared.live.Live.{Live}
use Rattle.proof_check.specs.declared.checker.Checker.{Checker}
use Rattle.proof_check.specs.Knowledge.{Knowledge}

-- what is in a row of a table, or else what a map has
abbrev pub near_or : {X : Type 0} → Option (Option X) → Option X → Option X
near_or (Some row) far = row
near_or None far = far

-- the live clause under an id: in the row of that number, or past the rows in the map
abbrev pub clause_in : Live → ℕ → Option (List Lit)
clause_in live id =
    near_or (slice_get live.near id)
    (option_map (λ (v : Vec Lit Global). v.items) (get nat_eq live.far id))

-- what the checker knows
abbrev pub known : Checker → Knowledge
known c = record {
  clause = clause_in c.live;
  last = c.last;
  least = c.least;
  tops = c.tops.items;
  refuted = c.refuted;
}
