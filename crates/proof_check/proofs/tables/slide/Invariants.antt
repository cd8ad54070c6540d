use Rattle.std.proofs.Common.{◌≡◌, ◌≤◌, All, length, map, take, drop}
use Rattle.std.specs.Prelude.{sum_by}
use Rattle.proof_check.specs.Places.{IsPlace, IsRising, clause_at, size}
use Rattle.proof_check.proofs.tables.slide.Given as goal

abbrev pub invariant-loop-row : goal.invariant-loop-row
invariant-loop-row l = record {
  within : All (IsPlace l.end) (take l.row l.places);
  rising : IsRising 0 (take l.row l.places);
  rest_within : All (IsPlace (length l.lits)) (drop l.row l.places);
  rest_rising : IsRising l.end (drop l.row l.places);
  clauses : map (clause_at l.lits) l.places ≡ map (clause_at l.fn.lits) l.fn.places;
  room : l.end ≡ sum_by size (take l.row l.places);
  end_within : l.end ≤ length l.lits;
}
