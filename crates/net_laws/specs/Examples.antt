-- A network of two routers and one link, on which the definitions compute: routes, distances, and
-- one right witness of each answer. Its rows are those of the smallest files with a host network at
-- each router.
use Rattle.std.specs.Prelude.{ℕ, true, false, None, Some, if◌then◌else◌, ◌==◌, Option, List, []}
use Rattle.std.specs.Prelude.{◌∷◌, codes, refl}
use Rattle.std.proofs.Common.{lit<, lit≤}
use Rattle.arc_base.specs.declared.prefix.Prefix.{Prefix}
use Rattle.net_model.specs.declared.rows.Protocol.TheVariants.{Ospf}
use Rattle.net_model.specs.declared.rows.FaceRow.{FaceRow}
use Rattle.net_model.specs.declared.rows.LinkRow.{LinkRow}
use Rattle.net_model.specs.declared.rows.Network.{Network}
use Rattle.arc_base.specs.declared.place.Link.{Link}
use Rattle.net_model.specs.declared.policies.Policy.{Policy}
use Rattle.net_model.specs.declared.policies.PolicyKind.{PolicyKind}
use Rattle.net_model.specs.declared.policies.PolicyKind.TheVariants.{Blocked, Reach}
use Rattle.net_model.specs.declared.verdicts.LinkPath.{LinkPath}
use Rattle.net_model.specs.declared.verdicts.Verdict.TheVariants.{Paths, Walk, Cut}
use Rattle.net_model.specs.Services.{whole_service}
use Rattle.net_model.specs.Witnesses.{IsRight}
use Rattle.net_model.specs.Validity.{IsValid}
use Rattle.net_model.specs.Routing.{IsRoutedLink, IsStable}

-- 10.1.0.0/24, the host network of the first router
abbrev pub users_1 : Prefix
users_1 = record { addr = 167837696; len = 24; in_range = lit< tt; length = lit≤ tt; clear = refl }

-- 10.2.0.0/24, the host network of the second router
abbrev pub users_2 : Prefix
users_2 = record { addr = 167903232; len = 24; in_range = lit< tt; length = lit≤ tt; clear = refl }

-- 10.0.1.0/30, the subnet of the link
abbrev pub between : Prefix
between = record { addr = 167772416; len = 30; in_range = lit< tt; length = lit≤ tt; clear = refl }

-- an interface that is up and runs OSPF at cost 1, of this router, name, address, subnet and host
-- network
abbrev pub face : ℕ → List ℕ → ℕ → Prefix → Option Prefix → FaceRow
face router name addr subnet host = record {
  router = record { 0 = router };
  name = name;
  addr = Some addr;
  subnet = Some subnet;
  host = host;
  up = true;
  enabled = true;
  told = true;
  passive = false;
  cost = 1;
  bound_in = false;
  list_in = None;
  list_out = None;
}

-- the first router's interface with its users, 10.1.0.1
abbrev pub owner_1 : FaceRow
owner_1 = face 0 (codes "GigabitEthernet0/0") 167837697 users_1 (Some users_1)

-- the first router's end of the link
abbrev pub end_1 : FaceRow
end_1 = face 0 (codes "GigabitEthernet0/1") 167772417 between None

-- the second router's interface with its users, 10.2.0.1
abbrev pub owner_2 : FaceRow
owner_2 = face 1 (codes "GigabitEthernet0/0") 167903233 users_2 (Some users_2)

-- the second router's end of the link
abbrev pub end_2 : FaceRow
end_2 = face 1 (codes "GigabitEthernet0/1") 167772418 between None

-- the link, which is no waypoint
abbrev pub the_link : LinkRow
the_link = record { a = record { 0 = 1 }; b = record { 0 = 3 }; waypoint = false }

-- the network: r1 and r2 under OSPF, joined by the link
abbrev pub two_routers : Network
two_routers = record {
  protocol = Ospf;
  routers =
      record { name = codes "r1"; asn = 0; names = [] } ∷
      record { name = codes "r2"; asn = 0; names = [] } ∷ [];
  faces = owner_1 ∷ end_1 ∷ owner_2 ∷ end_2 ∷ [];
  sessions = [];
  links = the_link ∷ [];
  packet_lists = [];
  route_lists = [];
}

-- the link is routed in both directions for the second router's users
abbrev pub BothWaysRouted : Type 0
BothWaysRouted = IsRoutedLink two_routers 0 true users_2 × IsRoutedLink two_routers 0 false users_2

-- the second router has the distance 0 to its users, and the first one 1
abbrev pub distances : ℕ → Option ℕ
distances router = if router == 0 then Some 1 else Some 0

-- these distances are stable with no failed link
abbrev pub DistancesAreStable : Type 0
DistancesAreStable = IsStable two_routers users_2 1 (λ link. false) distances

-- the network is valid
abbrev pub ExampleIsValid : Type 0
ExampleIsValid = IsValid two_routers

-- a policy from the first router's users to the second's
abbrev pub between_users : PolicyKind → Policy
between_users kind = record { kind = kind; from = users_1; to = users_2; service = whole_service }

-- the place of the link
abbrev pub link_1 : Link
link_1 = record { 0 = 0 }

-- the path over the link
abbrev pub over_link_1 : LinkPath
over_link_1 = record { links = link_1 ∷ [] }

-- under no failures the users reach each other, by the one link
abbrev pub OnePathIsRight : Type 0
OnePathIsRight = IsRight two_routers (between_users (Reach 0)) (Paths (over_link_1 ∷ []))

-- under one failure they do not: the link is a cut
abbrev pub OneCutIsRight : Type 0
OneCutIsRight =
    IsRight two_routers (between_users (Reach 1)) (Cut (link_1 ∷ []) (true ∷ false ∷ []))

-- and they are not blocked: the link is a walk
abbrev pub OneWalkIsRight : Type 0
OneWalkIsRight =
    IsRight two_routers (between_users Blocked)
    (Walk (record { from = users_1; to = users_2; service = whole_service }) over_link_1)
