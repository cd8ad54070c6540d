-- What the classes of a policy are good for: they make up the policy's packets, and each packet
-- list gives all packets of a class one answer.
use Rattle.std.specs.Prelude.{◌≡◌, ◌↔◌, List, All, AllPairs, Contains, sum_by}
use Rattle.net_model.specs.declared.lists.Packet.{Packet}
use Rattle.net_model.specs.declared.policies.Class.{Class}
use Rattle.net_model.specs.declared.policies.Policy.{Policy}
use Rattle.net_model.specs.declared.rows.Network.{Network}
use Rattle.net_model.specs.Packets.{IsOfClass, LiesIn, ShareNoPacket, packets}
use Rattle.net_model.specs.Witnesses.{IsUniformFor}
use Rattle.traffic_classes.specs.Classes.{AreClasses}

-- one of the classes has the packet
pub record HasPacket (classes : List Class) (p : Packet) : Type 0 where
  pub class : Class
  pub one : Contains classes class
  pub is_of : IsOfClass class p

-- the classes make up the whole: each is a part of it on which each packet list is uniform, no two
-- share a packet, each packet of the whole is of one, and together they have as many packets as the
-- whole
pub record MakeUp (net : Network) (whole : Class) (classes : List Class) : Type 0 where
  pub parts : All (λ c. LiesIn c whole) classes
  pub uniform : All (IsUniformFor net) classes
  pub disjoint : AllPairs ShareNoPacket classes
  pub cover : (p : Packet) → IsOfClass whole p → HasPacket classes p
  pub sizes : sum_by packets classes ≡ packets whole

-- the class is one of some of the policies'
pub record IsClassOf (net : Network) (policies some : List Policy) (class : Class) : Type 0 where
  pub policy : Policy
  pub one : Contains some policy
  pub classes : List Class
  pub are : AreClasses net policies policy classes
  pub there : Contains classes class

-- the classes tell the policies' packets apart: they are the classes of the policies, each packet
-- list is uniform on each, and no two share a packet
pub record TellApart (net : Network) (policies : List Policy) (classes : List Class) : Type 0 where
  pub each : (class : Class) → Contains classes class ↔ IsClassOf net policies policies class
  pub uniform : All (IsUniformFor net) classes
  pub disjoint : AllPairs ShareNoPacket classes
