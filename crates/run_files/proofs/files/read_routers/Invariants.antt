use Rattle.std.proofs.Common.{◌≡◌, ◌+◌, ◌-◌, ◌≤◌, ◌<◌, ◌^◌, length}
use Rattle.std.specs.Prelude.{IfSome, All, min}
use Rattle.run_files.specs.Limits.{least_limit, router_limit}
use Rattle.run_files.proofs.RoutersRead.{ReadSoFar}
use Rattle.run_files.proofs.files.read_routers.Given as goal

abbrev pub invariant-loop-name : goal.invariant-loop-name
invariant-loop-name g l = record {
  told : IfSome (g.S.Store.held l.fn.store) (ReadSoFar l.fn.limits l.names l.contents l.name-index l.room);
  same : g.S.Store.held l.store ≡ g.S.Store.held l.fn.store;
  count : length l.contents ≡ l.name-index;
  few : All (λ text. length text < 2 ^ 32) l.contents;
  bytes : All (λ text. length text ≤ router_limit l.fn.limits) l.contents;
  room : l.room ≤ 67108864;
  took : min (g.S.Store.taken l.fn.store + (least_limit - l.room)) (2 ^ 64 - 1) ≤ g.S.Store.taken l.store;
  faults : g.S.Store.faults l.store ≡ g.S.Store.faults l.fn.store;
  absences : g.S.Store.absences l.fn.store ≤ g.S.Store.absences l.store;
}
