use Rattle.std.proofs.Common.{◌≡◌, length}
use Rattle.command_words.specs.Values.{link_numbers}
use Rattle.command_words.proofs.LinkNumbers.{following}
use Rattle.command_words.proofs.values.links.Given as goal

abbrev pub invariant-loop-word : goal.invariant-loop-word
invariant-loop-word l = link_numbers l.text ≡ following l.numbers.items (link_numbers l.rest)

abbrev pub decreases-loop-word : goal.decreases-loop-word
decreases-loop-word l = length l.rest
