use Rattle.std.proofs.Common.{◌≡◌, ◌++◌, map, take}
use Rattle.net_model.specs.declared.policies.Policy.{Policy}
use Rattle.std.specs.List.{flat_map}
use Rattle.traffic_classes.specs.Classes.{marks_of}
use Rattle.traffic_classes.proofs.gathering.Gathered.add_policies.Given as goal

abbrev pub invariant-loop-policy : goal.invariant-loop-policy
invariant-loop-policy l = record {
  sources : l.self.sources.items ≡ l.initial.self.sources.items ++ map (λ (p : Policy). p.from) (take l.policy-index l.policies);
  destinations : l.self.destinations.items ≡ l.initial.self.destinations.items ++ map (λ (p : Policy). p.to) (take l.policy-index l.policies);
  services : l.self.services.items ≡ l.initial.self.services.items ++ flat_map (λ (p : Policy). marks_of p.service) (take l.policy-index l.policies);
}
