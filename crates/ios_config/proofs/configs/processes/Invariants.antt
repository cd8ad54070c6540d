use Rattle.std.proofs.Common.{◌≡◌, take}
use Rattle.std.specs.List.{flat_map}
use Rattle.ios_config.specs.Seen.{group_list}
use Rattle.ios_config.specs.Texts.{process_of}
use Rattle.ios_config.proofs.configs.processes.Given as goal

abbrev pub invariant-loop-group : goal.invariant-loop-group
invariant-loop-group l = l.found.items ≡ flat_map process_of (group_list (take l.group-index l.groups))
