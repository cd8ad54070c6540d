-- The arcs that leave a side, and those that deny a packet, link by link.
use Rattle.std.specs.Prelude.{◌≡◌, ◌↔◌, ℕ, Bool, List, length, Contains}
use Rattle.arc_base.specs.declared.place.Link.{Link}
use Rattle.arc_base.specs.declared.prefix.Prefix.{Prefix}
use Rattle.net_model.specs.declared.lists.Packet.{Packet}
use Rattle.net_model.specs.declared.rows.Network.{Network}
use Rattle.net_model.specs.Routing.{Arc}
use Rattle.net_model.specs.Forwarding.{Ends, source_router, target_router, ArcPermits}
use Rattle.net_model.specs.Witnesses.{IsOn, LeavesSide}
use Rattle.witness_check.specs.Cases.{IsRoutedArc}

-- an arc of the link leaves the side
pub record LeavesOver (net : Network) (to : Prefix) (side : List Bool) (link : ℕ) : Type 0 where
  pub arc : Arc
  pub over : arc.link ≡ link
  pub leaving : LeavesSide net to side arc

-- no arc of the link leaves the side, or the link is one of these
abbrev pub CutsOver : Network → Prefix → List Bool → List Link → Link → Type 0
CutsOver net to side links l = LeavesOver net to side l.0 → Contains links l

-- each arc that leaves the side is over one of the links
abbrev pub CutsAll : Network → Prefix → List Bool → List Link → Type 0
CutsAll net to side links = (l : Link) → CutsOver net to side links l

-- the links are exactly those over which arcs leave the side
abbrev pub IsCut : Network → Prefix → List Bool → List Link → Type 0
IsCut net to side links =
    (l : Link) → Contains links l ↔ ((arc : Arc) × (arc.link ≡ l.0) × LeavesSide net to side arc)

-- the side has a flag for each router, holds the source, and does not hold the target
pub record PartsEnds (net : Network) (ends : Ends) (side : List Bool) : Type 0 where
  pub flags : length side ≡ length net.routers
  pub source : IsOn side (source_router ends)
  pub target : ¬ IsOn side (target_router ends)

-- a routed arc of the link denies the packet
pub record DeniesOver (net : Network) (to : Prefix) (p : Packet) (link : ℕ) : Type 0 where
  pub arc : Arc
  pub over : arc.link ≡ link
  pub routed : IsRoutedArc net to arc
  pub denied : ¬ ArcPermits net arc p
