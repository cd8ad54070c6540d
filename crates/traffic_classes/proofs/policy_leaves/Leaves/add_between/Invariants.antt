use Rattle.std.proofs.Common.{◌≡◌, ◌++◌, take}
use Rattle.traffic_classes.specs.Classes.{classes_between}
use Rattle.traffic_classes.proofs.policy_leaves.Leaves.add_between.Given as goal

abbrev pub invariant-loop-service : goal.invariant-loop-service
invariant-loop-service l = l.classes.items ≡ l.initial.classes.items ++ classes_between (take l.service-index l.service-items) l.source l.destination
