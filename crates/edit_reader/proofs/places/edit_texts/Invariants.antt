use Rattle.std.proofs.Common.{◌≡◌, length, map, take}
use Rattle.policy_report.specs.Edits.{edit_text}
use Rattle.edit_reader.proofs.places.edit_texts.Given as goal

abbrev pub invariant-loop-at : goal.invariant-loop-at
invariant-loop-at l = record {
  made : l.texts ≡ map (edit_text l.net) (take l.at l.edits);
  long : length l.texts ≡ l.at;
}
