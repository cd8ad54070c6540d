use Rattle.std.proofs.Common.{◌≡◌, ◌-◌, ◌++◌, List, length, take, Some, slice_get, ℕ, All}
use Rattle.ios_lines.specs.declared.line.Line.{Line}
use Rattle.ios_lines.specs.Texts.{HasWordsIn, Join, bytes_of, text_lines}
use Rattle.ios_lines.specs.Lines.{IsRow}
use Rattle.ios_lines.specs.Reading.{Stands}
use Rattle.ios_lines.proofs.cutting.cut.Given as goal

abbrev pub invariant-loop-at : goal.invariant-loop-at
invariant-loop-at l = record {
  stands : Stands l.bytes l.at l.state;
  count : length l.rows ≡ l.state.count;
  join : (rest : List Line) → Join l.bytes l.at rest → Join l.bytes 0 (l.rows ++ rest);
  texts : bytes_of l.bytes l.rows ≡ take l.state.count (text_lines l.bytes);
  inside : All (HasWordsIn l.bytes) l.rows;
  rows : (place : ℕ) (line : Line) → slice_get l.rows place ≡ Some line → IsRow l.bytes place line;
}

abbrev pub decreases-loop-at : goal.decreases-loop-at
decreases-loop-at l = length l.bytes - l.at
