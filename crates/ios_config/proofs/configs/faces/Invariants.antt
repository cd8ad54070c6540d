use Rattle.std.proofs.Common.{◌≡◌, take}
use Rattle.std.specs.List.{flat_map}
use Rattle.ios_config.specs.Seen.{group_list}
use Rattle.ios_config.specs.Texts.{face_of}
use Rattle.ios_config.proofs.configs.faces.Given as goal

abbrev pub invariant-loop-group : goal.invariant-loop-group
invariant-loop-group l = l.found.items ≡ flat_map face_of (group_list (take l.group-index l.groups))
