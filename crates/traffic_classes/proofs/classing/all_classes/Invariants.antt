use Rattle.std.proofs.Common.{◌≤◌, take, length}
use Rattle.traffic_classes.specs.AllClasses.{AreAllClasses, IsIndexed}
use Rattle.traffic_classes.proofs.classing.all_classes.Given as goal

abbrev pub invariant-loop-policy : goal.invariant-loop-policy
invariant-loop-policy l = record {
  indexed : IsIndexed l.found;
  are : AreAllClasses l.net l.policies (take l.policy-index l.policies) l.found.classes.items;
  few : length l.found.classes.items ≤ 4096;
}
