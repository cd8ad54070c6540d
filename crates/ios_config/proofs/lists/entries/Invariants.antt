use Rattle.std.proofs.Common.{◌≡◌, take}
use Rattle.ios_config.specs.Seen.{commands_seen}
use Rattle.ios_config.specs.Texts.{entries}
use Rattle.ios_config.proofs.lists.entries.Given as goal

abbrev pub invariant-loop-command : goal.invariant-loop-command
invariant-loop-command l = l.found.items ≡ entries (commands_seen (take l.command-index l.commands))
