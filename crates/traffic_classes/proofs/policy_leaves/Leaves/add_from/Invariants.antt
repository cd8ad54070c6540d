use Rattle.std.proofs.Common.{◌≡◌, ◌++◌, take}
use Rattle.traffic_classes.specs.Classes.{classes_from}
use Rattle.traffic_classes.proofs.policy_leaves.Leaves.add_from.Given as goal

abbrev pub invariant-loop-destination : goal.invariant-loop-destination
invariant-loop-destination l = l.classes.items ≡ l.initial.classes.items ++ classes_from (take l.destination-index l.destination-items) l.self.services l.source
