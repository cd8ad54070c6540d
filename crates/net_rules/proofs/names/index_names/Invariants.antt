use Rattle.std.proofs.Common.{◌≡◌, take}
use Rattle.std.specs.List.{flat_map}
use Rattle.net_rules.specs.Names.{names_at, file_names}
use Rattle.net_rules.proofs.names.index_names.Given as goal

abbrev pub invariant-loop-config : goal.invariant-loop-config
invariant-loop-config l = names_at l.names.keys ≡ flat_map file_names (take l.config-index l.config-items)
