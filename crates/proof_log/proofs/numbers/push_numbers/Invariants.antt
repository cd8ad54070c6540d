use Rattle.std.proofs.Common.{◌≡◌, ◌++◌, length}
use Rattle.std.specs.List.{list_any}
use Rattle.arc_base.specs.Words.{words}
use Rattle.proof_log.specs.Reading.{is_bad, numbers}
use Rattle.proof_log.proofs.numbers.push_numbers.Given as goal

abbrev pub invariant-words : goal.invariant-words
invariant-words l = record {
  bad : list_any is_bad (words l.rest) ≡ list_any is_bad (words l.line);
  added : l.all.items ++ numbers (words l.rest) ≡ l.fn.all.items ++ numbers (words l.line);
}

abbrev pub decreases-words : goal.decreases-words
decreases-words l = length l.rest
