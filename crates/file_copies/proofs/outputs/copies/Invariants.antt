use Rattle.std.proofs.Common.{◌≡◌, ◌≤◌, length, take}
use Rattle.file_copies.specs.Outputs.{copies}
use Rattle.file_copies.proofs.outputs.copies.Given as goal

abbrev pub invariant-loop-at : goal.invariant-loop-at
invariant-loop-at l = record {
  writes : l.writes ≡ copies l.suffix (take l.at l.names) (take l.at l.old) (take l.at l.text-items);
  few : length l.writes ≤ l.at;
}
