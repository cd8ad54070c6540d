-- A LAN of several gateways: a network value has links between each two of them, and a copy a hub,
-- a router of its own with one link to each gateway.
use Rattle.std.specs.Prelude.{◌≡◌, ◌⊎◌, ℕ, Bool, IsTrue, Some, slice_get}
use Rattle.net_model.specs.declared.lists.Packet.{Packet}
use Rattle.net_model.specs.declared.policies.Class.{Class}
use Rattle.net_model.specs.declared.rows.FaceRow.{FaceRow}
use Rattle.net_model.specs.declared.rows.LinkRow.{LinkRow}
use Rattle.net_model.specs.declared.rows.Network.{Network}
use Rattle.net_model.specs.Packets.{IsOfClass}
use Rattle.net_model.specs.Routing.{tail_end, head_end}
use Rattle.net_model.specs.Forwarding.{Ends, ListPermits}
use Rattle.any_forwarding_laws.specs.Copies.{IsWiderFace, HasWiderFaces, Covers}

-- the interface is one of the hub: it is up, and its lists permit the whole class
pub record IsHubFace (copy : Network) (class : Class) (hub : ℕ) (face : FaceRow) : Type 0 where
  pub router : face.router.0 ≡ hub
  pub up : IsTrue face.up
  pub inbound : (p : Packet) → IsOfClass class p → ListPermits copy face.list_in p
  pub outbound : (p : Packet) → IsOfClass class p → ListPermits copy face.list_out p

-- the interface at this place has a spoke: a link of the copy that joins it to an interface of the
-- hub, and is a waypoint only if it may be
pub record HasSpoke (copy : Network) (class : Class) (hub place : ℕ)
    (may_be_waypoint : Type 0) : Type 0 where
  pub link : ℕ
  pub row : LinkRow
  pub inward : Bool
  pub far : FaceRow
  pub at_link : slice_get copy.links link ≡ Some row
  pub near : (tail_end row inward).0 ≡ place
  pub at_far : slice_get copy.faces (head_end row inward).0 ≡ Some far
  pub at_hub : IsHubFace copy class hub far
  pub waypoint : IsTrue row.waypoint → may_be_waypoint

-- the link is in the copy as it is, or over the hub: both its ends have a spoke, a waypoint only if
-- the link is one
abbrev pub IsKeptOrSpoked : Network → Class → ℕ → LinkRow → Type 0
IsKeptOrSpoked copy class hub row =
    ((link : ℕ) × (slice_get copy.links link ≡ Some row)) ⊎
    (HasSpoke copy class hub row.a.0 (IsTrue row.waypoint) ×
    HasSpoke copy class hub row.b.0 (IsTrue row.waypoint))

-- the copy has a hub in place of a LAN of the network: a wider interface at the place of each, and
-- each link as it is or over the hub
pub record HasHub (copy net : Network) (class : Class) (hub : ℕ) : Type 0 where
  pub faces : HasWiderFaces copy net class
  pub links : (link : ℕ) (row : LinkRow) → slice_get net.links link ≡ Some row →
      IsKeptOrSpoked copy class hub row

-- the copy's interface is at the hub in place of one of the network: it is the hub's, and the
-- network's has a spoke that is no waypoint
pub record StandsAtHub (copy : Network) (stand : FaceRow) (net : Network) (face : FaceRow)
    (class : Class) (hub : ℕ) : Type 0 where
  pub place : ℕ
  pub at_place : slice_get net.faces place ≡ Some face
  pub spoke : HasSpoke copy class hub place ⊥
  pub at_hub : IsHubFace copy class hub stand

-- the copy's interface covers the network's: it is wider, or it is at the hub
abbrev pub StandsFor : Network → FaceRow → Network → FaceRow → Class → ℕ → Type 0
StandsFor copy stand net face class hub =
    IsWiderFace copy stand net face class ⊎ StandsAtHub copy stand net face class hub

-- a copy with a hub in place of a LAN covers the network if its ends cover the network's
abbrev pub HubsCover : Type 0
HubsCover =
    (copy net : Network) (copied ends : Ends) (class : Class) (hub : ℕ) →
    HasHub copy net class hub →
    StandsFor copy copied.source net ends.source class hub →
    StandsFor copy copied.target net ends.target class hub → Covers copy copied net ends class
