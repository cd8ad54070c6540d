use Rattle.std.proofs.Common.{◌≡◌, take}
use Rattle.std.specs.List.{flat_map}
use Rattle.traffic_classes.specs.ServiceParts.{inner_ends}
use Rattle.traffic_classes.proofs.service_leaves.cuts_inside.Given as goal

abbrev pub invariant-loop-mark : goal.invariant-loop-mark
invariant-loop-mark l = l.cuts.items ≡ flat_map (inner_ends l.whole) (take l.mark-index l.marks)
