-- Packet lists that stop the routing protocol's own packets on a link that is able.
use Rattle.std.specs.Prelude.{◌≡◌, ℕ, ◌+◌, IsFalse, Some, IsSomeAnd, List, [], ◌∷◌, slice_get, Any}
use Rattle.std.specs.Prelude.{Contains}
use Rattle.std.proofs.Common.{arith}
use Rattle.arc_base.specs.declared.refusal.Kind.TheVariants as kinds
use Rattle.net_doc.specs.declared.fault.Refusal.{Refusal}
use Rattle.net_model.specs.declared.policies.Document.{Document}
use Rattle.net_model.specs.declared.lists.Packet.{Packet}
use Rattle.net_model.specs.declared.lists.PacketEntry.{PacketEntry}
use Rattle.net_model.specs.declared.rows.FaceRow.{FaceRow}
use Rattle.net_model.specs.declared.rows.Network.{Network}
use Rattle.net_model.specs.declared.rows.Protocol.{Protocol}
use Rattle.net_model.specs.declared.rows.Protocol.TheVariants.{Ospf, Bgp}
use Rattle.net_model.specs.declared.services.Service.{Service}
use Rattle.net_model.specs.Lists.{permits}
use Rattle.net_model.specs.Services.{Serves}
use Rattle.net_model.specs.Routing.{Arc, IsArc, IsAbleEnd, session_at, tail_face, head_face}
use Rattle.ios_config.specs.declared.settings.Config.{Config}
use Rattle.net_rules.specs.Sites.{Site, sites}
use Rattle.net_rules.specs.Rows.{AreRows}

-- the link of the arc is able: from either end
pub record IsAble (net : Network) (arc : Arc) : Type 0 where
  pub tail : IsAbleEnd net (session_at net (tail_face arc)) arc.tail arc.head
  pub head : IsAbleEnd net (session_at net (head_face arc)) arc.head arc.tail

-- where the protocol's packets to an interface with this address go: to AllSPFRouters (224.0.0.5),
-- AllDRouters (224.0.0.6) and the address itself under OSPF (RFC 2328, appendix A.1), and to the
-- address itself under eBGP
abbrev pub targets : Protocol → ℕ → List ℕ
targets Ospf own = 3758096389 ∷ 3758096390 ∷ own ∷ []
targets Bgp own = own ∷ []

-- all services of OSPF, which is protocol 89
abbrev pub ospf_services : Service
ospf_services =
    record { low = 5832704; high = 5898239; ordered = omega arith; in_range = omega arith }

-- the service of TCP (protocol 6) for port 179, on which BGP listens (RFC 4271)
abbrev pub bgp_service : Service
bgp_service = record { low = 393395; high = 393395; ordered = omega arith; in_range = omega arith }

-- the services of TCP for the ports from 1024 to 65535, from one of which the end that opens a
-- session sends
abbrev pub opener_services : Service
opener_services =
    record { low = 394240; high = 458751; ordered = omega arith; in_range = omega arith }

-- the services of the packets that the protocol needs: for eBGP both those of TCP, because either
-- end may open the session
abbrev pub session_services : Protocol → List Service
session_services Ospf = ospf_services ∷ []
session_services Bgp = bgp_service ∷ opener_services ∷ []

-- the protocol needs the packet on the way from the interface with the one address to that with the
-- other
pub record IsNeeded (protocol : Protocol) (from own : ℕ) (p : Packet) : Type 0 where
  pub source : p.from ≡ from
  pub target : Contains (targets protocol own) p.to
  pub service : Any (λ range. Serves range p.service) (session_services protocol)

-- the entries deny a packet that the protocol needs from the one address to the interface with the
-- other
abbrev pub Denies : Protocol → List PacketEntry → ℕ → ℕ → Type 0
Denies protocol entries from own =
    (p : Packet) × IsNeeded protocol from own p × IsFalse (permits entries p)

-- the list bound inbound at the one interface denies a packet of the protocol from the address of
-- the other
pub record StopsPackets (net : Network) (tail head : FaceRow) : Type 0 where
  pub from : ℕ
  pub from_is : tail.addr ≡ Some from
  pub own : ℕ
  pub own_is : head.addr ≡ Some own
  pub denies : IsSomeAnd head.list_in (λ id. IsSomeAnd (slice_get net.packet_lists id.0) (λ list.
      Denies net.protocol list.entries from own))

-- an interface at the head of such an arc, at the line that binds the list
pub record RefusesListStopsSession (doc : Document) (configs : List Config)
    (r : Refusal) : Type 0 where
  pub net : Network
  pub rows : AreRows doc configs net
  pub arc : Arc
  pub is_arc : IsArc net arc
  pub able : IsAble net arc
  pub stops : StopsPackets net arc.tail arc.head
  pub site : Site
  pub at_head : slice_get (sites configs) (head_face arc).0 ≡ Some site
  pub line : ℕ
  pub binds : IsSomeAnd site.face.list_in (λ g. g.line ≡ line)
  pub told : r ≡ record { file = site.router + 1; number = line; kind = kinds.ListStopsSession }
