use Rattle.std.proofs.Common.{◌≡◌, take}
use Rattle.sat_core.proofs.Anew.{AreAnew}
use Rattle.sat_core.proofs.forgetting.put_anew.Given as goal

abbrev pub invariant-loop-place : goal.invariant-loop-place
invariant-loop-place l = record {
  clauses : l.store.clauses ≡ l.initial.store.clauses;
  anew : AreAnew l.initial.store.places l.store.places (take l.place-index l.moved);
}
