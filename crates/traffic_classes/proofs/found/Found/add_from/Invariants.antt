use Rattle.std.proofs.Common.{◌≡◌, take}
use Rattle.std.specs.Prelude.{fold}
use Rattle.traffic_classes.specs.Classes.{classes_from}
use Rattle.traffic_classes.specs.AllClasses.{with_class, IsIndexed}
use Rattle.traffic_classes.proofs.found.Found.add_from.Given as goal

abbrev pub invariant-loop-destination : goal.invariant-loop-destination
invariant-loop-destination l = record {
  indexed : IsIndexed l.self;
  added : l.self.classes.items ≡ fold with_class l.initial.self.classes.items (classes_from (take l.destination-index l.destination-items) l.leaves.services l.source);
}
