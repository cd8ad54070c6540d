use Rattle.std.proofs.Common.{◌≡◌, ◌++◌, ℕ, List, take, map}
use Rattle.std.specs.List.{flat_map}
use Rattle.line_patcher.specs.Written.{line_of}
use Rattle.line_patcher.proofs.texts.push_begun.Given as goal

abbrev pub invariant-loop-command : goal.invariant-loop-command
invariant-loop-command l = l.text.items ≡ l.fn.text.items ++ flat_map (λ (line : List ℕ). l.end ++ line) (map line_of (take l.command-index l.commands))
