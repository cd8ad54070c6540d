use Rattle.std.proofs.Common.{◌≡◌, ◌++◌, drop}
use Rattle.edit_list.specs.Prices.{chosen_of}
use Rattle.policy_report.specs.Edits.{edit_lines}
use Rattle.policy_report.proofs.certificates.push_chosen.Given as goal

-- what is there and what is still to be put are the whole
abbrev pub invariant-loop-place : goal.invariant-loop-place
invariant-loop-place l =
    l.text.items ++ edit_lines l.net (chosen_of (drop l.place l.edits) (drop l.place l.chosen)) ≡ l.fn.text.items ++ edit_lines l.net (chosen_of l.edits l.chosen)
