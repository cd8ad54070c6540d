-- What the calls that go over all links keep: the place of each interface's session, and which arcs
-- are routed.
use Rattle.std.specs.Prelude.{◌≡◌, ℕ, ◌<◌, ◌↔◌, Bool, true, false, IsTrue, Option, Some, None, Any}
use Rattle.std.specs.Prelude.{List, length, slice_get, slice_index_or}
use Rattle.std.specs.List.Sorted.{IsNonDecreasingBy}
use Rattle.std.specs.Option.{option_and_then, option_map_or}
use Rattle.arc_base.specs.declared.place.Face.{Face}
use Rattle.arc_base.specs.declared.prefix.Prefix.{Prefix}
use Rattle.net_model.specs.declared.rows.FaceRow.{FaceRow}
use Rattle.net_model.specs.declared.rows.LinkRow.{LinkRow}
use Rattle.net_model.specs.declared.rows.Network.{Network}
use Rattle.net_model.specs.declared.routing.Told.{Told}
use Rattle.net_model.specs.declared.tables.RoutedLink.{RoutedLink}
use Rattle.net_model.specs.Routing.{tail_end, head_end, session_at, Leads, IsRoutedLink, Advertises}

-- the router of the interface, and 0 where there is no such interface
abbrev pub router_at : Network → Face → ℕ
router_at net face = option_map_or (λ row. row.router.0) (slice_get net.faces face.0) 0

-- the sessions are sorted by router
pub record StandByRouter (net : Network) : Type 0 where
  pub rising : IsNonDecreasingBy (λ s. router_at net s.face) net.sessions

-- what is known of the network for the host network is so: some interface advertises it, or none
-- does, and the sessions are sorted by router if the flag says so
pub record IsToldOf (net : Network) (to : Prefix) (told : Told) : Type 0 where
  pub host : IsTrue told.host ↔ Any (Advertises to) net.faces
  pub by_router : IsTrue told.by_router → StandByRouter net

-- the list has, for each interface within it, the place of its session, or none where it has no
-- session
abbrev pub IsSessionIndex : Network → List (Option ℕ) → Type 0
IsSessionIndex net places =
    (face : Face) → face.0 < length places → session_at net face
    ≡ option_and_then (slice_get net.sessions) (slice_index_or places face.0 None)

-- the arc of a link with this row is routed: its two ends have rows, and its tail learns of the
-- host network from its head
pub record IsRoutedOver (net : Network) (row : LinkRow) (from_a : Bool) (to : Prefix) : Type 0 where
  pub tail : FaceRow
  pub head : FaceRow
  pub at_tail : slice_get net.faces (tail_end row from_a).0 ≡ Some tail
  pub at_head : slice_get net.faces (head_end row from_a).0 ≡ Some head
  pub leads : Leads net to (tail_end row from_a) tail (head_end row from_a) head

-- the flags say whether the two arcs of the link are routed
abbrev pub TellsRouted : Network → ℕ → Prefix → RoutedLink → Type 0
TellsRouted net link to flags =
    (IsTrue flags.from_a ↔ IsRoutedLink net link true to) ×
    (IsTrue flags.from_b ↔ IsRoutedLink net link false to)

-- the list has for each link of the network, in order, the flags that say whether its arcs are
-- routed
pub record AreRoutedLinks (net : Network) (to : Prefix) (table : List RoutedLink) : Type 0 where
  pub whole : length table ≡ length net.links
  pub each : (link : ℕ) (flags : RoutedLink) → slice_get table link ≡ Some flags →
      TellsRouted net link to flags
