-- Small networks for which the premises of the laws hold, and which differ from their copies.
use Rattle.std.specs.Prelude.{true, false, None, Some, if◌then◌else◌, cond, ◌==◌, ◌&&◌, IsTrue}
use Rattle.std.specs.Prelude.{[], ◌∷◌, codes}
use Rattle.net_model.specs.declared.lists.Packet.{Packet}
use Rattle.net_model.specs.declared.lists.PacketList.{PacketList}
use Rattle.net_model.specs.declared.rows.FaceRow.{FaceRow}
use Rattle.net_model.specs.declared.rows.Network.{Network}
use Rattle.net_model.specs.Services.{whole_service}
use Rattle.net_model.specs.Routing.{Arc, FailureSet, DistanceMap, IsStable, tail_router}
use Rattle.net_model.specs.Routing.{head_router}
use Rattle.net_model.specs.Forwarding.{ListPermits}
use Rattle.net_laws.specs.Examples.{users_1, users_2, owner_1, end_1, owner_2, end_2, two_routers}
use Rattle.net_laws.specs.Square.{square}
use Rattle.copy_laws.specs.Passing.{PermitsMore}
use Rattle.copy_laws.specs.Adjacencies.{HasFewerLinks}
use Rattle.copy_laws.specs.Cables.{Cabling, CarriesAtMost}
use Rattle.copy_laws.specs.Beyond.{NextHops, AgreesWhereKnown, NoneComesBack}

-- a list that denies the packets from the first router's users to the second's
abbrev pub guard : PacketList
guard = record {
  router = record { 0 = 1 };
  name = codes "guard";
  extended = true;
  entries = record { permit = false; from = users_1; to = users_2; service = whole_service } ∷ [];
}

-- the second router's end of the link of two routers, with this list inbound
abbrev pub guarded_end : FaceRow
guarded_end = record end_2 { bound_in = true; list_in = Some (record { 0 = 0 }) }

-- two routers with this list
abbrev pub guarded : Network
guarded = record two_routers {
  faces = owner_1 ∷ end_1 ∷ owner_2 ∷ guarded_end ∷ [];
  packet_lists = guard ∷ [];
}

-- the packet from 10.1.0.0 to 10.2.0.0
abbrev pub first : Packet
first = record { from = 167837696; to = 167903232; service = 0 }

-- without the list more packets pass: this one does not pass the list
abbrev pub GuardIsLess : Type 0
GuardIsLess =
    PermitsMore guarded two_routers × (¬ ListPermits guarded (Some (record { 0 = 0 })) first)

-- all links
abbrev pub every_link : FailureSet
every_link link = true

-- two routers where the first one's end of their link is passive
abbrev pub quiet : Network
quiet = record two_routers {
  faces = owner_1 ∷ record end_1 { passive = true } ∷ owner_2 ∷ end_2 ∷ [];
}

-- they are the two routers without their link
abbrev pub QuietIsDown : Type 0
QuietIsDown = HasFewerLinks quiet two_routers every_link

-- the two links of the square at its first router go over one cable, and the other two over another
abbrev pub two_cables : Cabling
two_cables = record { cables = 2; of_link = λ link. cond (link == 0) 0 (cond (link == 2) 0 1) }

-- Reads the destination ports, if the protocol has ports and words of them come here.
abbrev pub TwoByTwo : Type 0
TwoByTwo = CarriesAtMost square two_cables 2

-- with the link of two routers failed, only the second one has a distance to its own users
abbrev pub parted : DistanceMap
parted router = if router == 1 then Some 0 else None

-- the first router sends what it has no modelled route for out of the network
abbrev pub by_default : NextHops
by_default arc = (tail_router arc == 0) && (head_router arc == 2)

-- this agrees with the model, and nothing comes back
pub record DefaultAgrees : Type 0 where
  pub stable : IsStable two_routers users_2 1 every_link parted
  pub agrees : AgreesWhereKnown two_routers users_2 every_link parted by_default
  pub away : NoneComesBack parted by_default
  pub sends : (arc : Arc) × IsTrue (by_default arc)
