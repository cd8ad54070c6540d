use Rattle.std.proofs.Common.{◌≡◌, ◌+◌, ◌≤◌, length, take, drop}
use Rattle.edit_reader.specs.EditFiles.{line_texts, AreMarked}
use Rattle.edit_reader.proofs.reading.named_edits.Given as goal

abbrev pub invariant-loop-line : goal.invariant-loop-line
invariant-loop-line l = record {
  left : drop l.number (line_texts l.fn.text) ≡ l.line-iterator;
  marked : AreMarked l.net l.edits (take l.number (line_texts l.fn.text)) l.chosen.items;
  whole : length l.chosen.items ≡ length l.edits;
  few : l.number + length l.line-iterator ≤ length l.fn.text;
}
