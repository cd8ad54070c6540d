use Rattle.std.proofs.Common.{◌≡◌, ◌+◌, ◌-◌, ◌^◌, ◌≤◌, length, vec_len}
use Rattle.std.specs.Prelude.{IfSome, min}
use Rattle.run_files.specs.Refusals.{bytes_at}
use Rattle.run_files.proofs.by_lines.read_past.Given as goal

abbrev pub invariant-pieces : goal.invariant-pieces
invariant-pieces g l = record {
  same : g.S.Store.held l.store ≡ g.S.Store.held l.fn.store;
  few : l.place ≤ l.limit;
  room : vec_len l.piece ≡ 65536;
  taken : min (g.S.Store.taken l.fn.store + l.place) (2 ^ 64 - 1) ≤ g.S.Store.taken l.store;
  no_more : g.S.Store.taken l.store ≤ g.S.Store.taken l.fn.store + l.place;
  reached : IfSome (g.S.Store.held l.fn.store) (λ files. l.place ≤ length (bytes_at files l.name));
  faults : g.S.Store.faults l.store ≡ g.S.Store.faults l.fn.store;
  absences : g.S.Store.absences l.store ≡ g.S.Store.absences l.fn.store;
}

abbrev pub decreases-pieces : goal.decreases-pieces
decreases-pieces g l = l.limit - l.place
