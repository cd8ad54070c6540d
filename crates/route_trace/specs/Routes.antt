-- What the distances and the next hops are, in the terms of the model: flags of failed links, paths
-- of usable arcs, next hops.
use Rattle.std.specs.Prelude.{◌≡◌, ℕ, ◌<◌, ◌↔◌, Bool, false, IsSome, Option, Some, None, List}
use Rattle.std.specs.Prelude.{length, map, slice_index_or, Contains}
use Rattle.std.specs.List.Sorted.{IsStrictlyIncreasing}
use Rattle.arc_base.specs.declared.place.Link.{Link}
use Rattle.arc_base.specs.declared.prefix.Prefix.{Prefix}
use Rattle.net_model.specs.declared.rows.FaceRow.{FaceRow}
use Rattle.net_model.specs.declared.rows.Network.{Network}
use Rattle.net_model.specs.Routing.{Arc, FailureSet, DistanceMap, IsStable, tail_router}
use Rattle.net_model.specs.Forwarding.{Attains}
use Rattle.net_laws.specs.Routes.{Route}

-- the failure set that flags of the links show: a link has failed where its flag is set
abbrev pub flagged : List Bool → FailureSet
flagged down link = slice_index_or down link false

-- the map of a list of distances: the distance at the router's place in the list
abbrev pub distance_map : List (Option ℕ) → DistanceMap
distance_map distances router = slice_index_or distances router None

-- the router owns the prefix: the prefix is the host network of one of its interfaces
pub record Owns (net : Network) (to : Prefix) (owner : ℕ) : Type 0 where
  pub face : FaceRow
  pub is_face : Contains net.faces face
  pub host : face.host ≡ Some to
  pub router : face.router.0 ≡ owner

-- the prefix is a host network: some router owns it
abbrev pub IsHostNetwork : Network → Prefix → Type 0
IsHostNetwork net to = (owner : ℕ) × Owns net to owner

-- a path is left from the one router to the other
abbrev pub HasPathLeft : Network → Prefix → FailureSet → ℕ → ℕ → Type 0
HasPathLeft net to failed u v = (arcs : List Arc) × Route net to failed u arcs v

-- the distances are those of the network: one for each router, and stable for the router that owns
-- the prefix
pub record AreDistances (net : Network) (to : Prefix) (failed : FailureSet)
    (distances : List (Option ℕ)) : Type 0 where
  pub whole : length distances ≡ length net.routers
  pub stable : (owner : ℕ) → Owns net to owner →
      IsStable net to owner failed (distance_map distances)

-- a router has a distance exactly where a path is left from it to the router that owns the prefix
abbrev pub TellReach : Network → Prefix → FailureSet → List (Option ℕ) → Type 0
TellReach net to failed distances =
    (owner router : ℕ) → Owns net to owner → router < length net.routers →
    IsSome (distance_map distances router) ↔ HasPathLeft net to failed router owner

-- the link is a next hop of the router: an arc over it from this router attains the router's
-- distance
pub record IsNextHop (net : Network) (to : Prefix) (failed : FailureSet) (d : DistanceMap)
    (router : ℕ) (link : Link) : Type 0 where
  pub arc : Arc
  pub attains : Attains net to failed d arc
  pub tail : tail_router arc ≡ router
  pub link_is : arc.link ≡ link.0

-- the links are the next hops of the router, rising
pub record AreNextHops (net : Network) (to : Prefix) (failed : FailureSet) (d : DistanceMap)
    (router : ℕ) (links : List Link) : Type 0 where
  pub each : (link : Link) → Contains links link ↔ IsNextHop net to failed d router link
  pub rising : IsStrictlyIncreasing (map (λ (l : Link). l.0) links)
