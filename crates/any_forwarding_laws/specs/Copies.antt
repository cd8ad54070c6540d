-- When one network covers another: what the other delivers, it delivers too.
use Rattle.std.specs.Prelude.{◌≡◌, ◌⊎◌, ℕ, IsTrue, Some, List, slice_get}
use Rattle.net_model.specs.declared.lists.Packet.{Packet}
use Rattle.net_model.specs.declared.policies.Class.{Class}
use Rattle.net_model.specs.declared.rows.FaceRow.{FaceRow}
use Rattle.net_model.specs.declared.rows.Network.{Network}
use Rattle.net_model.specs.Packets.{IsOfClass}
use Rattle.net_model.specs.Routing.{Arc, tail_router, head_router}
use Rattle.net_model.specs.Forwarding.{Ends, ListPermits, ArcPermits, Enters, Leaves}
use Rattle.net_model.specs.Forwarding.{source_router, target_router}
use Rattle.net_model.specs.Policies.{CrossesWaypoint}
use Rattle.any_forwarding_laws.specs.Forwardings.{IsUpArc, Way}

-- some arcs are a way of the packet from the one router to the other, and cross a waypoint only if
-- they may
pub record HasWay (net : Network) (p : Packet) (u v : ℕ) (may_cross : Type 0) : Type 0 where
  pub arcs : List Arc
  pub way : Way net p u arcs v
  pub crosses : CrossesWaypoint arcs → may_cross

-- the copy covers the network for a class: each router has a router of the copy in its place; for
-- each packet of the class an arc that is up and permits it has a way in the copy, over a waypoint
-- only if the arc is over one; where the packet enters the network it enters the copy, and has a
-- way to the place of the source over no waypoint; and where it leaves, the same from the target
pub record Covers (copy : Network) (copied : Ends) (net : Network) (ends : Ends)
    (class : Class) : Type 0 where
  pub place : ℕ → ℕ
  pub arcs : (p : Packet) → IsOfClass class p → (arc : Arc) → IsUpArc net arc →
      ArcPermits net arc p →
      HasWay copy p (place (tail_router arc)) (place (head_router arc)) (IsTrue arc.row.waypoint)
  pub enters : (p : Packet) → IsOfClass class p → Enters net ends p →
      Enters copy copied p × HasWay copy p (source_router copied) (place (source_router ends)) ⊥
  pub leaves : (p : Packet) → IsOfClass class p → Leaves net ends p →
      Leaves copy copied p × HasWay copy p (place (target_router ends)) (target_router copied) ⊥

-- the interface of the copy is wider than that of the network for a class: it is of the same
-- router, is up where this one is, and its lists permit each packet of the class that the lists of
-- this one permit
pub record IsWiderFace (copy : Network) (wide : FaceRow) (net : Network) (face : FaceRow)
    (class : Class) : Type 0 where
  pub router : face.router.0 ≡ wide.router.0
  pub up : IsTrue face.up → IsTrue wide.up
  pub inbound : (p : Packet) → IsOfClass class p → ListPermits net face.list_in p →
      ListPermits copy wide.list_in p
  pub outbound : (p : Packet) → IsOfClass class p → ListPermits net face.list_out p →
      ListPermits copy wide.list_out p

-- the copy has a wider interface at the place of each interface of the network
abbrev pub HasWiderFaces : Network → Network → Class → Type 0
HasWiderFaces copy net class =
    (place : ℕ) (face : FaceRow) → slice_get net.faces place ≡ Some face →
    (wide : FaceRow) × (slice_get copy.faces place ≡ Some wide) ×
    IsWiderFace copy wide net face class

-- the copy is wider than the network for a class: it has the same links, and wider interfaces; of
-- routes nothing is asked
pub record IsWider (copy net : Network) (class : Class) : Type 0 where
  pub links : net.links ≡ copy.links
  pub faces : HasWiderFaces copy net class

-- two arcs of the copy lead over a hub in place of an arc of the network: one from its tail to the
-- hub, and one on to its head. Both are up; outbound at the tail and inbound at the head they
-- permit what the arc permits, and at the hub they permit the whole class; and if one is over a
-- waypoint, so is the arc
pub record LeadsOverHub (copy net : Network) (class : Class) (arc : Arc) : Type 0 where
  pub there : Arc
  pub onward : Arc
  pub there_up : IsUpArc copy there
  pub onward_up : IsUpArc copy onward
  pub tail : tail_router there ≡ tail_router arc
  pub hub : tail_router onward ≡ head_router there
  pub head : head_router onward ≡ head_router arc
  pub outbound : (p : Packet) → IsOfClass class p → ListPermits net arc.tail.list_out p →
      ListPermits copy there.tail.list_out p
  pub at_hub : (p : Packet) → IsOfClass class p →
      ListPermits copy there.head.list_in p × ListPermits copy onward.tail.list_out p
  pub inbound : (p : Packet) → IsOfClass class p → ListPermits net arc.head.list_in p →
      ListPermits copy onward.head.list_in p
  pub waypoint : IsTrue there.row.waypoint ⊎ IsTrue onward.row.waypoint →
      IsTrue arc.row.waypoint
