-- The classes that leaves under the marks of a network make.
use Rattle.std.proofs.Common.{◌≡◌, Option, Some, List, refl, subst}
use Rattle.std.specs.Prelude.{IfSome}
use Rattle.arc_base.specs.declared.prefix.Prefix.{Prefix}
use Rattle.net_model.specs.declared.policies.Policy.{Policy}
use Rattle.net_model.specs.declared.rows.Network.{Network}
use Rattle.net_model.specs.declared.services.Service.{Service}
use Rattle.traffic_classes.specs.declared.marks.Marks.{Marks}
use Rattle.traffic_classes.specs.Leaves.{AreLeaves}
use Rattle.traffic_classes.specs.ServiceLeaves.{AreServiceLeaves}
use Rattle.traffic_classes.specs.Classes.{AreMarks, AreClasses, all_triples}

pub made : (net : Network) (policies : List Policy) (marks : Marks) → AreMarks net policies marks → (policy : Policy) (ss ds : List Prefix) (vs : List Service) →
    AreLeaves marks.sources.items policy.from ss → AreLeaves marks.destinations.items policy.to ds → AreServiceLeaves marks.services.items policy.service vs →
    AreClasses net policies policy (all_triples ss ds vs)
made net policies marks are policy ss ds vs one two three = record {
  sources = ss;
  destinations = ds;
  services = vs;
  sources_are = subst (λ (m : List Prefix). AreLeaves m policy.from ss) are.sources one;
  destinations_are = subst (λ (m : List Prefix). AreLeaves m policy.to ds) are.destinations two;
  services_are = subst (λ (m : List Service). AreServiceLeaves m policy.service vs) are.services three;
  triples = refl;
}

-- what holds of the policy that stands at the place
pub there : (o : Option Policy) (policy : Policy) (P : Policy → Type 0) → Some policy ≡ o → P policy → IfSome o P
there o policy P is holds = subst (λ (q : Option Policy). IfSome q P) is holds
