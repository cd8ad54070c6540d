use Rattle.std.proofs.Common.{◌≡◌, length, take, All}
use Rattle.sat_core.specs.Trails.{IsOf}
use Rattle.sat_search.specs.Passes.{open_in, IsJoined}
use Rattle.sat_search.proofs.lesson.Lesson.join.Given as goal

abbrev pub invariant-loop-lit : goal.invariant-loop-lit
invariant-loop-lit l = record {
  joined : IsJoined l.core.trail l.initial.marks l.marks (take l.lit-index l.lits);
  counted : l.self.current ≡ open_in l.core.level l.core.trail l.marks;
  met : All (IsOf l.core.vars) l.self.met.items;
  size : length l.marks ≡ length l.initial.marks;
  lits : l.self.lits.items ≡ l.initial.self.lits.items;
  hints : l.self.hints.items ≡ l.initial.self.hints.items;
}
