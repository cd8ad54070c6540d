use Rattle.std.proofs.Common.{◌≡◌, take, map}
use Rattle.ios_config.specs.Seen.{commands_seen}
use Rattle.ios_config.specs.Texts.{given}
use Rattle.ios_config.proofs.processes.all_given.Given as goal

abbrev pub invariant-loop-command : goal.invariant-loop-command
invariant-loop-command l = l.found.items ≡ map given (commands_seen (take l.command-index l.commands))
