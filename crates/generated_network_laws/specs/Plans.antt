-- The network that a number describes, as its files give it.
use Rattle.std.specs.Prelude.{◌≡◌, ℕ, ◌+◌, ◌*◌, ◌^◌, ◌≤◌, true, false, Some, [], length, map}
use Rattle.std.specs.Prelude.{slice_get, IsTrue, IsSomeAnd}
use Rattle.net_model.specs.declared.rows.FaceRow.{FaceRow}
use Rattle.net_model.specs.declared.rows.LinkRow.{LinkRow}
use Rattle.net_model.specs.declared.rows.Network.{Network}
use Rattle.net_model.specs.declared.rows.Protocol.TheVariants.{Ospf}
use Rattle.net_gen.specs.Generated.{IsGeneratedHostNetwork}
use Rattle.net_gen.specs.Plans.{numbers, link_count, a_router, b_router, port}
use Rattle.net_gen.specs.RouterFiles.{host_name, face_name}

-- The interface at this place is the router's over the link: it has its name and the address
-- 10.0.LINK.END, is up, takes part in OSPF and is not passive.
pub record IsEndAt (n : ℕ) (net : Network) (router link end place : ℕ) : Type 0 where
  pub face : FaceRow
  pub at_place : slice_get net.faces place ≡ Some face
  pub own : face.router.0 + 1 ≡ router
  pub name : face.name ≡ face_name (port n router link)
  pub addr : face.addr ≡ Some (10 * 2 ^ 24 + link * 2 ^ 8 + end)
  pub up : face.up ≡ true
  pub enabled : IsTrue face.enabled
  pub passive : face.passive ≡ false

-- the link of this number joins its two routers
pub record JoinsRouters (n : ℕ) (net : Network) (link : ℕ) (row : LinkRow) : Type 0 where
  pub a : IsEndAt n net (a_router n link) link 1 row.a.0
  pub b : IsEndAt n net (b_router n link) link 2 row.b.0
  pub waypoint : row.waypoint ≡ false

-- the router has an interface to its host network, 10.ROUTER.0.0/24
pub record HasHostNetwork (net : Network) (router : ℕ) : Type 0 where
  pub place : ℕ
  pub face : FaceRow
  pub at_place : slice_get net.faces place ≡ Some face
  pub own : face.router.0 + 1 ≡ router
  pub host : IsSomeAnd face.host (IsGeneratedHostNetwork router)

-- the network runs OSPF, has these routers in their order, their host networks and the links
-- between them, and no lists and no sessions
pub record HasPlan (n : ℕ) (net : Network) : Type 0 where
  pub protocol : net.protocol ≡ Ospf
  pub names : map (λ router. router.name) net.routers ≡ map host_name (numbers n)
  pub routers : length net.routers ≡ n
  pub links : length net.links ≡ link_count n
  pub joined : (place : ℕ) (row : LinkRow) → slice_get net.links place ≡ Some row →
      JoinsRouters n net (place + 1) row
  pub hosts : (router : ℕ) → 1 ≤ router → router ≤ n → HasHostNetwork net router
  pub packet_lists : net.packet_lists ≡ []
  pub route_lists : net.route_lists ≡ []
  pub sessions : net.sessions ≡ []
