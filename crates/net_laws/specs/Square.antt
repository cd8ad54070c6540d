-- The square of docs/model.md: four routers, links 1-2, 2-4, 1-3 and 3-4, the last two at cost 10,
-- and a packet list inbound at the fourth router's end of the second link that denies the packets
-- from the first router's users to its own.
use Rattle.std.specs.Prelude.{ℕ, true, false, None, Some, Option, List, [], ◌∷◌, codes, refl}
use Rattle.std.specs.Prelude.{slice_index_or, is_some}
use Rattle.std.proofs.Common.{lit<, lit≤}
use Rattle.arc_base.specs.declared.prefix.Prefix.{Prefix}
use Rattle.arc_base.specs.declared.place.ListId.{ListId}
use Rattle.net_model.specs.declared.rows.Protocol.TheVariants.{Ospf}
use Rattle.net_model.specs.declared.rows.FaceRow.{FaceRow}
use Rattle.net_model.specs.declared.rows.LinkRow.{LinkRow}
use Rattle.net_model.specs.declared.rows.RouterRow.{RouterRow}
use Rattle.net_model.specs.declared.rows.Network.{Network}
use Rattle.net_model.specs.declared.lists.Packet.{Packet}
use Rattle.net_model.specs.declared.lists.PacketList.{PacketList}
use Rattle.net_model.specs.declared.policies.Class.{Class}
use Rattle.net_model.specs.declared.policies.Policy.{Policy}
use Rattle.net_model.specs.declared.policies.PolicyKind.{PolicyKind}
use Rattle.net_model.specs.declared.policies.PolicyKind.TheVariants.{Blocked, Reach}
use Rattle.net_model.specs.declared.verdicts.LinkPath.{LinkPath}
use Rattle.net_model.specs.declared.verdicts.Verdict.TheVariants.{Walk, Refused}
use Rattle.net_model.specs.Services.{whole_service}
use Rattle.net_model.specs.Packets.{IsOfClass}
use Rattle.net_model.specs.Routing.{Arc, DistanceMap, IsStable}
use Rattle.net_model.specs.Forwarding.{Ends, IsDelivered}
use Rattle.net_model.specs.Policies.{IsBlocked}
use Rattle.net_model.specs.Witnesses.{IsRight}
use Rattle.net_laws.specs.Examples.{users_1, users_2, between as subnet_1}

-- 10.3.0.0/24, the host network of the third router
abbrev pub users_3 : Prefix
users_3 = record { addr = 167968768; len = 24; in_range = lit< tt; length = lit≤ tt; clear = refl }

-- 10.4.0.0/24, the host network of the fourth router
abbrev pub users_4 : Prefix
users_4 = record { addr = 168034304; len = 24; in_range = lit< tt; length = lit≤ tt; clear = refl }

-- the prefix of all addresses
abbrev pub everyone : Prefix
everyone = record { addr = 0; len = 0; in_range = lit< tt; length = lit≤ tt; clear = refl }

-- 10.0.2.0/30, the subnet of link 2
abbrev pub subnet_2 : Prefix
subnet_2 = record { addr = 167772672; len = 30; in_range = lit< tt; length = lit≤ tt; clear = refl }

-- 10.0.3.0/30, the subnet of link 3
abbrev pub subnet_3 : Prefix
subnet_3 = record { addr = 167772928; len = 30; in_range = lit< tt; length = lit≤ tt; clear = refl }

-- 10.0.4.0/30, the subnet of link 4
abbrev pub subnet_4 : Prefix
subnet_4 = record { addr = 167773184; len = 30; in_range = lit< tt; length = lit≤ tt; clear = refl }

-- an interface that is up and runs OSPF, of this router, name, address, subnet, host network, cost
-- and inbound list
abbrev pub face : ℕ → List ℕ → ℕ → Prefix → Option Prefix → ℕ → Option ListId → FaceRow
face router name addr subnet host cost list = record {
  router = record { 0 = router };
  name = name;
  addr = Some addr;
  subnet = Some subnet;
  host = host;
  up = true;
  enabled = true;
  told = is_some host;
  passive = false;
  cost = cost;
  bound_in = is_some list;
  list_in = list;
  list_out = None;
}

-- the interface of a router with its users
abbrev pub user_face : ℕ → ℕ → Prefix → FaceRow
user_face router addr users =
    face router (codes "GigabitEthernet0/0") addr users (Some users) 1 None

-- that of the first router, 10.1.0.1
abbrev pub owner_1 : FaceRow
owner_1 = user_face 0 167837697 users_1

-- that of the fourth router, 10.4.0.1
abbrev pub owner_4 : FaceRow
owner_4 = user_face 3 168034305 users_4

-- end a of link 1, at r1
abbrev pub end_1a : FaceRow
end_1a = face 0 (codes "GigabitEthernet0/1") 167772417 subnet_1 None 1 None

-- end b of link 1, at r2
abbrev pub end_1b : FaceRow
end_1b = face 1 (codes "GigabitEthernet0/1") 167772418 subnet_1 None 1 None

-- end a of link 2, at r2
abbrev pub end_2a : FaceRow
end_2a = face 1 (codes "GigabitEthernet0/2") 167772673 subnet_2 None 1 None

-- end b of link 2, at r4, with the list inbound
abbrev pub end_2b : FaceRow
end_2b = face 3 (codes "GigabitEthernet0/1") 167772674 subnet_2 None 1 (Some (record { 0 = 0 }))

-- end a of link 3, at r1
abbrev pub end_3a : FaceRow
end_3a = face 0 (codes "GigabitEthernet0/2") 167772929 subnet_3 None 10 None

-- end b of link 3, at r3
abbrev pub end_3b : FaceRow
end_3b = face 2 (codes "GigabitEthernet0/1") 167772930 subnet_3 None 10 None

-- end a of link 4, at r3
abbrev pub end_4a : FaceRow
end_4a = face 2 (codes "GigabitEthernet0/2") 167773185 subnet_4 None 10 None

-- end b of link 4, at r4
abbrev pub end_4b : FaceRow
end_4b = face 3 (codes "GigabitEthernet0/2") 167773186 subnet_4 None 10 None

-- a link between the interfaces at these places, which is no waypoint
abbrev pub link : ℕ → ℕ → LinkRow
link a b = record { a = record { 0 = a }; b = record { 0 = b }; waypoint = false }

-- a router of this name
abbrev pub router : List ℕ → List (List ℕ) → RouterRow
router name names = record { name = name; asn = 0; names = names }

-- deny from the first router's users to the fourth's, permit all else
abbrev pub list_101 : PacketList
list_101 = record {
  router = record { 0 = 3 };
  name = codes "101";
  extended = true;
  entries =
      record { permit = false; from = users_1; to = users_4; service = whole_service } ∷
      record { permit = true; from = everyone; to = everyone; service = whole_service } ∷ [];
}

-- the square
abbrev pub square : Network
square = record {
  protocol = Ospf;
  routers =
      router (codes "r1") [] ∷ router (codes "r2") [] ∷ router (codes "r3") [] ∷
      router (codes "r4") (codes "101" ∷ []) ∷ [];
  faces =
      owner_1 ∷ end_1a ∷ end_3a ∷ user_face 1 167903233 users_2 ∷ end_1b ∷ end_2a ∷
      user_face 2 167968769 users_3 ∷ end_3b ∷ end_4a ∷ owner_4 ∷ end_2b ∷ end_4b ∷ [];
  sessions = [];
  links = link 1 4 ∷ link 5 10 ∷ link 2 7 ∷ link 8 11 ∷ [];
  packet_lists = list_101 ∷ [];
  route_lists = [];
}

-- the distances to the fourth router's users with all links up: 2, 1, 10 and 0
abbrev pub length_of : ℕ → ℕ
length_of router = slice_index_or (2 ∷ 1 ∷ 10 ∷ 0 ∷ []) router 0

-- the same as a map
abbrev pub distances : DistanceMap
distances router = Some (length_of router)

-- these distances are stable
abbrev pub SquareDistancesAreStable : Type 0
SquareDistancesAreStable = IsStable square users_4 3 (λ link. false) distances

-- the packets from the first router's users to the fourth's
abbrev pub across : Class
across = record { from = users_1; to = users_4; service = whole_service }

-- a policy on them
abbrev pub policy : PolicyKind → Policy
policy kind = record { kind = kind; from = users_1; to = users_4; service = whole_service }

-- the links 3 and 4, in order
abbrev pub over_3_and_4 : LinkPath
over_3_and_4 = record { links = record { 0 = 2 } ∷ record { 0 = 3 } ∷ [] }

-- the interfaces of these users
abbrev pub ends : Ends
ends = record { source = owner_1; target = owner_4; to = users_4 }

-- with all links up none of them is delivered
abbrev pub SquareDeliversNone : Type 0
SquareDeliversNone =
    (p : Packet) → IsOfClass across p →
    (arcs : List Arc) → ¬ IsDelivered square ends (λ link. false) distances p arcs

-- and yet they are not blocked
abbrev pub SquareIsNotBlocked : Type 0
SquareIsNotBlocked = ¬ IsBlocked square ends across

-- for links 3 and 4 are a right walk
abbrev pub SquareWalkIsRight : Type 0
SquareWalkIsRight = IsRight square (policy Blocked) (Walk across over_3_and_4)

-- nor is reach answered: the arc of link 2 denies the packet from 10.1.0.0 to 10.4.0.0
abbrev pub SquareRefusalIsRight : Type 0
SquareRefusalIsRight =
    IsRight square (policy (Reach 0))
    (Refused (record { from = 167837696; to = 168034304; service = 0 }) (record { 0 = 1 }))
