use Rattle.std.proofs.Common.{◌≡◌, take}
use Rattle.std.specs.Prelude.{fold}
use Rattle.traffic_classes.specs.Classes.{all_triples}
use Rattle.traffic_classes.specs.AllClasses.{with_class, IsIndexed}
use Rattle.traffic_classes.proofs.found.Found.add.Given as goal

abbrev pub invariant-loop-source : goal.invariant-loop-source
invariant-loop-source l = record {
  indexed : IsIndexed l.self;
  added : l.self.classes.items ≡ fold with_class l.initial.self.classes.items (all_triples (take l.source-index l.source-items) l.leaves.destinations l.leaves.services);
}
