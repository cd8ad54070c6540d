use Rattle.std.proofs.Common.{◌≡◌, take}
use Rattle.std.specs.Prelude.{fold}
use Rattle.traffic_classes.specs.Classes.{classes_between}
use Rattle.traffic_classes.specs.AllClasses.{with_class, IsIndexed}
use Rattle.traffic_classes.proofs.found.Found.add_between.Given as goal

abbrev pub invariant-loop-service : goal.invariant-loop-service
invariant-loop-service l = record {
  indexed : IsIndexed l.self;
  added : l.self.classes.items ≡ fold with_class l.initial.self.classes.items (classes_between (take l.service-index l.services) l.source l.destination);
}
