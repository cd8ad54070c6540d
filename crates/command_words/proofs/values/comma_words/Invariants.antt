use Rattle.std.proofs.Common.{◌≡◌, ◌++◌, length}
use Rattle.command_words.specs.Values.{comma_words}
use Rattle.command_words.proofs.values.comma_words.Given as goal

-- the words so far, and those of the rest
abbrev pub invariant-loop-word : goal.invariant-loop-word
invariant-loop-word l = comma_words l.text ≡ l.words.items ++ comma_words l.rest

abbrev pub decreases-loop-word : goal.decreases-loop-word
decreases-loop-word l = length l.rest
