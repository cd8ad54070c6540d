use Rattle.std.proofs.Common.{◌≡◌, ℕ, List, map}
use Rattle.std.specs.List.{range_with_len}
use Rattle.ios_words.specs.declared.commands.Command.{Command}
use Rattle.arc_base.specs.Numbered.{of_number}
use Rattle.line_patcher.proofs.texts.commands_at.Given as goal

abbrev pub invariant-loop-number : goal.invariant-loop-number
invariant-loop-number l =
    let group : ℕ → List Command = λ k. of_number k l.yielded in
    l.groups.items ≡ map group (range_with_len 0 l.count)
