-- Three gateways on a LAN, and a copy of them with a hub.
use Rattle.std.specs.Prelude.{ℕ, [], ◌∷◌, codes}
use Rattle.net_model.specs.declared.policies.Class.{Class}
use Rattle.net_model.specs.declared.rows.FaceRow.{FaceRow}
use Rattle.net_model.specs.declared.rows.Network.{Network}
use Rattle.net_laws.specs.Examples.{end_1, two_routers}
use Rattle.net_laws.specs.Square.{link as joining}
use Rattle.any_forwarding_laws.specs.Hubs.{HasHub}

-- an interface of this router that is up and has no lists
abbrev pub at_router : ℕ → FaceRow
at_router router = record end_1 { router = record { 0 = router } }

-- three gateways on a LAN, with a link between each two
abbrev pub on_a_lan : Network
on_a_lan = record two_routers {
  routers =
      record { name = codes "g1"; asn = 0; names = [] } ∷
      record { name = codes "g2"; asn = 0; names = [] } ∷
      record { name = codes "g3"; asn = 0; names = [] } ∷ [];
  faces = at_router 0 ∷ at_router 1 ∷ at_router 2 ∷ [];
  links = joining 0 1 ∷ joining 0 2 ∷ joining 1 2 ∷ [];
}

-- and with a hub, which has three interfaces
abbrev pub at_a_hub : Network
at_a_hub = record two_routers {
  routers =
      record { name = codes "g1"; asn = 0; names = [] } ∷
      record { name = codes "g2"; asn = 0; names = [] } ∷
      record { name = codes "g3"; asn = 0; names = [] } ∷
      record { name = codes "lan"; asn = 0; names = [] } ∷ [];
  faces =
      at_router 0 ∷ at_router 1 ∷ at_router 2 ∷
      at_router 3 ∷ at_router 3 ∷ at_router 3 ∷ [];
  links = joining 0 3 ∷ joining 1 4 ∷ joining 2 5 ∷ [];
}

-- the copy has a hub in place of the LAN
abbrev pub ExampleHasHub : Type 0
ExampleHasHub = (class : Class) → HasHub at_a_hub on_a_lan class 3
