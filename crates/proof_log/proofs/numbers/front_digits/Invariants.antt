use Rattle.std.proofs.Common.{◌≡◌, ◌<◌, ◌^◌, true, take}
use Rattle.std.specs.Str.{all_ascii_digits}
use Rattle.arc_base.specs.WordNumbers.{value_after}
use Rattle.proof_log.proofs.numbers.front_digits.Given as goal

abbrev pub invariant-loop-count : goal.invariant-loop-count
invariant-loop-count l = record {
  digits : all_ascii_digits (take l.count l.bytes) ≡ true;
  value : l.value ≡ value_after 0 (take l.count l.bytes);
  small : l.value < 10 ^ 18;
}
