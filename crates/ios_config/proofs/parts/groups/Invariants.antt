use Rattle.std.proofs.Common.{take}
use Rattle.ios_config.proofs.Grouping.{AreGroups}
use Rattle.ios_config.proofs.parts.groups.Given as goal

abbrev pub invariant-loop-command : goal.invariant-loop-command
invariant-loop-command l = AreGroups (take l.command-index l.commands) l.parts.keys l.groups.items
