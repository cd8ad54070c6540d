-- What the classes from one host network to another share.
use Rattle.std.specs.Prelude.{◌≡◌, Bool, IsTrue, List, Contains}
use Rattle.net_model.specs.declared.lists.Packet.{Packet}
use Rattle.net_model.specs.declared.policies.Class.{Class}
use Rattle.net_model.specs.declared.rows.FaceRow.{FaceRow}
use Rattle.net_model.specs.declared.rows.Network.{Network}
use Rattle.net_model.specs.Forwarding.{Ends, AreEnds, ListPermits}
use Rattle.net_model.specs.Tables.{AreRoutedLinks}
use Rattle.class_graph.specs.declared.hosts.End.{End}
use Rattle.class_graph.specs.declared.hosts.HostPair.{HostPair}
use Rattle.class_graph.specs.Answers.{Allows}

-- the interface as one at which packets enter, with the list that is bound inbound
abbrev pub end_in : FaceRow → End
end_in face = record { router = face.router; up = face.up; list = face.list_in }

-- the interface as one at which packets leave, with the list that is bound outbound
abbrev pub end_out : FaceRow → End
end_out face = record { router = face.router; up = face.up; list = face.list_out }

-- the interface is up, and its list answers yes
abbrev pub IsOpenTo : List Bool → End → Type 0
IsOpenTo answers end = IsTrue end.up × Allows answers end.list

-- the interface is up, and its list permits the packet
abbrev pub Admits : Network → End → Packet → Type 0
Admits net end p = IsTrue end.up × ListPermits net end.list p

-- the pair is that of these ends, which are interfaces of the network: packets enter at the source
-- and leave at the target, and its table says which arcs are routed
pub record IsHostPair (net : Network) (ends : Ends) (pair : HostPair) : Type 0 where
  pub from_here : Contains net.faces ends.source
  pub to_there : Contains net.faces ends.target
  pub source : pair.source ≡ end_in ends.source
  pub target : pair.target ≡ end_out ends.target
  pub to : pair.to ≡ ends.to
  pub routed : AreRoutedLinks net pair.to pair.routed

-- the pair is that of some ends
abbrev pub HasHostPair : Network → HostPair → Type 0
HasHostPair net pair = (ends : Ends) × IsHostPair net ends pair

-- the pair is that of the ends of the class
pub record IsHostPairOf (net : Network) (class : Class) (pair : HostPair) : Type 0 where
  pub ends : Ends
  pub are_ends : AreEnds net class ends
  pub is_pair : IsHostPair net ends pair
