use Rattle.net_model.specs.Forwarding.{Ends}
use Rattle.class_graph.specs.Hosts.{IsHostPair}
use Rattle.class_graph.specs.Passing.{AllPass}
use Rattle.class_graph.proofs.hosts.HostPair.first_kept_out.Given as goal

abbrev pub invariant-loop-class : goal.invariant-loop-class
invariant-loop-class l = (ends : Ends) → IsHostPair l.net ends l.self → AllPass l.net ends l.class-items l.class-index
