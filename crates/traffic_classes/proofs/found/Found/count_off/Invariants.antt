use Rattle.std.proofs.Common.{◌≡◌, take}
use Rattle.std.specs.Prelude.{count_by}
use Rattle.traffic_classes.specs.AllClasses.{lies_off}
use Rattle.traffic_classes.proofs.found.Found.count_off.Given as goal

abbrev pub invariant-loop-class : goal.invariant-loop-class
invariant-loop-class l = l.count ≡ count_by (lies_off l.policy) (take l.class-index l.self.classes.items)
