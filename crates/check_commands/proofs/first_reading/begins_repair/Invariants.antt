use Rattle.std.proofs.Common.{◌≡◌, ◌+◌, ◌-◌, ◌^◌, ◌≤◌, false}
use Rattle.std.specs.Prelude.{IfSome, min}
use Rattle.arc_outside.specs.LinesRead.{ahead}
use Rattle.arc_base.specs.TextLines.{lines}
use Rattle.run_files.specs.Refusals.{bytes_at}
use Rattle.check_commands.specs.RepairChecks.{begins_repair}
use Rattle.check_commands.proofs.first_reading.begins_repair.Given as goal

abbrev pub invariant-lines : goal.invariant-lines
invariant-lines g l = record {
  told : IfSome (g.S.Store.held l.fn.store) (λ files. l.begins ≡ begins_repair (lines (bytes_at files l.certificate)));
  limit : l.pieces.limit ≡ l.limit;
  going : l.pieces.failed ≡ false;
  same : g.S.Store.held l.store ≡ g.S.Store.held l.fn.store;
  took : min (g.S.Store.taken l.fn.store + l.pieces.place) (2 ^ 64 - 1) ≤ g.S.Store.taken l.store;
  no_more : g.S.Store.taken l.store ≤ g.S.Store.taken l.fn.store + l.pieces.place;
  faults : g.S.Store.faults l.store ≡ g.S.Store.faults l.fn.store;
  absences : g.S.Store.absences l.fn.store ≤ g.S.Store.absences l.store;
}

abbrev pub decreases-lines : goal.decreases-lines
decreases-lines g l = ahead l.pieces
