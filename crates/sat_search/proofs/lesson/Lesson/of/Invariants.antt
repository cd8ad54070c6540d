use Rattle.std.proofs.Common.{◌≡◌, length, reverse, All}
use Rattle.sat_core.specs.Trails.{IsOf}
use Rattle.sat_search.specs.Passes.{IsPass}
use Rattle.sat_search.proofs.lesson.Lesson.of.Given as goal

abbrev pub invariant-loop-place : goal.invariant-loop-place
invariant-loop-place l = record {
  pass : IsPass l.core l.place l.marks l.lesson.lits.items (reverse l.lesson.hints.items) l.lesson.current;
  met : All (IsOf l.core.vars) l.lesson.met.items;
  size : length l.marks ≡ length l.fn.marks;
}
