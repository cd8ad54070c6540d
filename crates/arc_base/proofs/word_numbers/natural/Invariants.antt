use Rattle.std.proofs.Common.{◌≡◌, ◌≤◌, drop}
use Rattle.std.specs.Str.{all_ascii_digits}
use Rattle.arc_base.specs.WordNumbers.{value_after}
use Rattle.arc_base.proofs.word_numbers.natural.Given as goal

abbrev pub invariant-loop-byte : goal.invariant-loop-byte
invariant-loop-byte l = record {
  digits : all_ascii_digits (drop l.byte-index l.word) ≡ all_ascii_digits l.word;
  value : value_after l.value (drop l.byte-index l.word) ≡ value_after 0 l.word;
  small : l.value ≤ l.limit;
}
