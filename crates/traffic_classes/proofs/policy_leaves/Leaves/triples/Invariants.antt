use Rattle.std.proofs.Common.{◌≡◌, take}
use Rattle.traffic_classes.specs.Classes.{all_triples}
use Rattle.traffic_classes.proofs.policy_leaves.Leaves.triples.Given as goal

abbrev pub invariant-loop-source : goal.invariant-loop-source
invariant-loop-source l = l.classes.items ≡ all_triples (take l.source-index l.source-items) l.self.destinations l.self.services
