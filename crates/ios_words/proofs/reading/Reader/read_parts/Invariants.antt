use Rattle.std.proofs.Common.{◌≡◌, ◌≤◌, ◌*◌, map, drop}
use Rattle.ios_words.specs.Readings.{read_parts}
use Rattle.ios_words.specs.Rows.{piece_of}
use Rattle.ios_words.specs.Views.{state_of}
use Rattle.ios_words.proofs.reading.Reader.read_parts.Given as goal

abbrev pub invariant-loop-part : goal.invariant-loop-part
invariant-loop-part l = (read_parts (map piece_of l.fn.parts) (state_of l.fn.self) ≡ read_parts (map piece_of (drop l.part-index l.parts)) (state_of l.reader)) × (l.reader.taken ≤ 3 * l.part-index)
