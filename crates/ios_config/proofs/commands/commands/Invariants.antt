use Rattle.ios_config.proofs.Steps.{ReadsTo}
use Rattle.ios_config.proofs.commands.commands.Given as goal

abbrev pub invariant-loop-place : goal.invariant-loop-place
invariant-loop-place l = ReadsTo l.fn.text l.fn.lines l.place l.commands.items l.current
