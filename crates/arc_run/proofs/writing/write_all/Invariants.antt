use Rattle.std.proofs.Common.{◌≡◌, ◌≤◌, take}
use Rattle.arc_run.specs.Runs.{WereWritten}
use Rattle.arc_run.proofs.writing.write_all.Given as goal

abbrev pub invariant-loop-write : goal.invariant-loop-write
invariant-loop-write g l = record {
  written : WereWritten (take l.write-index l.writes) (g.S.Store.held l.fn.store) (g.S.Store.held l.store);
  faults : g.S.Store.faults l.store ≡ g.S.Store.faults l.fn.store;
  absences : g.S.Store.absences l.fn.store ≤ g.S.Store.absences l.store;
  taken : g.S.Store.taken l.store ≡ g.S.Store.taken l.fn.store;
}
