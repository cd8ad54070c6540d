-- The rows that the router files and the document give to the network.
use Rattle.std.specs.Prelude.{◌≡◌, ◌<◌, ℕ, ◌↔◌, Bool, false, IsTrue, Option, Some, None, IsSome}
use Rattle.std.specs.Prelude.{IsSomeAnd, is_some, List, unwrap_or, option_map, slice_get, Any}
use Rattle.std.specs.Prelude.{Contains, if◌then◌else◌, not, [], map}
use Rattle.std.specs.List.{AllZip}
use Rattle.arc_base.specs.declared.prefix.Prefix.{Prefix}
use Rattle.net_model.specs.declared.policies.Document.{Document}
use Rattle.net_model.specs.declared.policies.LinkText.{LinkText}
use Rattle.net_model.specs.declared.rows.FaceRow.{FaceRow}
use Rattle.net_model.specs.declared.rows.RouterRow.{RouterRow}
use Rattle.net_model.specs.declared.rows.SessionRow.{SessionRow}
use Rattle.net_model.specs.declared.rows.LinkRow.{LinkRow}
use Rattle.net_model.specs.declared.rows.Network.{Network}
use Rattle.net_model.specs.declared.rows.Protocol.{Protocol}
use Rattle.net_model.specs.declared.rows.Protocol.TheVariants.{Ospf, Bgp}
use Rattle.net_model.specs.Routing.{tail_end, head_end}
use Rattle.ios_words.specs.declared.commands.Command.{Command}
use Rattle.ios_words.specs.declared.commands.Command.TheVariants as commands
use Rattle.ios_config.specs.declared.settings.Given.{Given}
use Rattle.ios_config.specs.declared.settings.Config.{Config}
use Rattle.ios_config.specs.declared.settings.FaceText.{FaceText}
use Rattle.net_rules.specs.Kinds.{face_kind, is_loopback}
use Rattle.net_rules.specs.Settings.{value, process_of, lines_of, address_of, IsPrefixAt, is_up}
use Rattle.net_rules.specs.Settings.{face_cost, is_passive, IsEnabled}
use Rattle.net_rules.specs.Sites.{Site, FullName, sites, host_name, full_name, full_names, a_end}
use Rattle.net_rules.specs.Sites.{b_end, ends_of}
use Rattle.net_rules.specs.Routers.{protocol_of}
use Rattle.net_rules.specs.Neighbors.{remote_of, is_down, filter_of}
use Rattle.net_rules.specs.Lists.{AreListNames, ArePacketLists, AreRouteLists, IsPlaceAmong}
use Rattle.net_rules.specs.Lists.{packet_list_key, route_list_key}
use Rattle.net_rules.specs.Ordered.{AreInOrder, IsPairBefore}

-- the AS of the file's process, and 0 under OSPF
abbrev pub asn_of : Protocol → Config → ℕ
asn_of Ospf config = 0
asn_of Bgp config = unwrap_or (option_map (λ p. p.number) (process_of config)) 0

-- what the network says of the router of a file
pub record IsRouterRow (protocol : Protocol) (config : Config) (row : RouterRow) : Type 0 where
  pub name : row.name ≡ host_name config
  pub asn : row.asn ≡ asn_of protocol config
  pub names : AreListNames config row.names

-- the connected subnet of an interface: the prefix of its address and mask, where it has them
abbrev pub IsSubnet : Option (ℕ × ℕ) → Option Prefix → Type 0
IsSubnet None subnet = subnet ≡ None
IsSubnet (Some address) subnet = IsSomeAnd subnet (IsPrefixAt address.0 address.1)

-- OSPF advertises a loopback's own address alone, unless the interface is set to point-to-point
abbrev pub is_host_route : Protocol → FaceText → Bool
is_host_route Ospf face =
    if is_loopback (face_kind face.name) then not (unwrap_or (value face.point) false) else false
is_host_route Bgp face = false

-- how many bits the host network of the interface has, if its mask has `mask_len`
abbrev pub host_len : Protocol → FaceText → ℕ → ℕ
host_len protocol face mask_len = if is_host_route protocol face then 32 else mask_len

-- the address of the interface with the length of its host network
abbrev pub host_address_of : Protocol → FaceText → Option (ℕ × ℕ)
host_address_of protocol face =
    option_map (λ a. (a.0, host_len protocol face a.1)) (address_of face)

-- the interface is one of these ends of links
abbrev pub IsEndOfLink : List FullName → Site → Type 0
IsEndOfLink ends site = Contains ends (full_name site)

-- the host network of an interface, which a link's end does not have
pub record IsHost (protocol : Protocol) (ends : List FullName) (site : Site)
    (host : Option Prefix) : Type 0 where
  pub at_end : IsEndOfLink ends site → host ≡ None
  pub elsewhere : ¬ IsEndOfLink ends site → IsSubnet (host_address_of protocol site.face) host

-- the router advertises the host network to its neighbours: under OSPF if the interface takes part,
-- under eBGP if a network statement names it exactly
abbrev pub TellsHost : Protocol → List (Given Command) → Option Prefix → Bool → Type 0
TellsHost Ospf lines host enabled = IsSome host × IsTrue enabled
TellsHost Bgp lines host enabled = IsSomeAnd host (λ p. Any (λ g. g.value ≡ commands.Tells p) lines)

-- what the network says of an interface, where these are the ends of links, and packet lists have
-- these routers and names
pub record IsFaceRow (protocol : Protocol) (ends : List FullName) (lists : List (ℕ × List ℕ))
    (site : Site) (row : FaceRow) : Type 0 where
  pub router : row.router.0 ≡ site.router
  pub name : row.name ≡ site.face.name
  pub addr : row.addr ≡ option_map (λ a. a.0) (address_of site.face)
  pub subnet : IsSubnet (address_of site.face) row.subnet
  pub host : IsHost protocol ends site row.host
  pub up : row.up ≡ is_up site.face
  pub enabled : IsTrue row.enabled ↔ IsEnabled (lines_of site.config) site.face
  pub told : IsTrue row.told ↔ TellsHost protocol (lines_of site.config) row.host row.enabled
  pub passive : row.passive ≡ is_passive protocol (lines_of site.config) site.face.name
  pub cost : row.cost ≡ face_cost (lines_of site.config) site.face
  pub bound_in : row.bound_in ≡ is_some site.face.list_in
  pub list_in : IsPlaceAmong lists site.router (value site.face.list_in) row.list_in
  pub list_out : IsPlaceAmong lists site.router (value site.face.list_out) row.list_out

-- the link's ends are at the places that their names have among these
pub record IsLinkRow (names : List FullName) (link : LinkText) (row : LinkRow) : Type 0 where
  pub a : slice_get names row.a.0 ≡ Some (a_end link)
  pub b : slice_get names row.b.0 ≡ Some (b_end link)
  pub waypoint : row.waypoint ≡ link.waypoint

-- the file, which is that of this router, configures the session's neighbour as the session says;
-- the route lists have these routers and names
pub record IsConfigured (lists : List (ℕ × List ℕ)) (router : ℕ) (config : Config)
    (session : SessionRow) : Type 0 where
  pub remote : remote_of (lines_of config) session.peer ≡ Some session.remote
  pub down : session.down ≡ is_down (lines_of config) session.peer
  pub bound : session.bound ≡ is_some (filter_of (lines_of config) session.peer)
  pub filter : IsPlaceAmong lists router (filter_of (lines_of config) session.peer) session.filter

-- at this end of a link the file of the interface configures a neighbour, with the address of the
-- far end
pub record IsSessionOf (configs : List Config) (links : List LinkRow) (lists : List (ℕ × List ℕ))
    (link : ℕ) (from_a : Bool) (session : SessionRow) : Type 0 where
  pub row : LinkRow
  pub at_link : slice_get links link ≡ Some row
  pub near : Site
  pub at_near : slice_get (sites configs) session.face.0 ≡ Some near
  pub near_end : (tail_end row from_a).0 ≡ session.face.0
  pub far : Site
  pub at_far : slice_get (sites configs) (head_end row from_a).0 ≡ Some far
  pub peer : option_map (λ a. a.0) (address_of far.face) ≡ Some session.peer
  pub configured : IsConfigured lists near.router near.config session

-- a session is that of some end of a link
pub record IsSession (configs : List Config) (links : List LinkRow) (lists : List (ℕ × List ℕ))
    (session : SessionRow) : Type 0 where
  pub link : ℕ
  pub from_a : Bool
  pub session_of : IsSessionOf configs links lists link from_a session

-- the one session comes before the other: by router, and then in the order of their links
abbrev pub IsSessionBefore : List Config → List LinkRow → List (ℕ × List ℕ) →
    SessionRow → SessionRow → Type 0
IsSessionBefore configs links lists s t =
    (i j : ℕ) (from to : Bool) (one : IsSessionOf configs links lists i from s)
    (other : IsSessionOf configs links lists j to t) →
    IsPairBefore ◌<◌ (one.near.router, i) (other.near.router, j)

-- these are the sessions of the network: none under OSPF
abbrev pub AreSessions : Protocol → List Config → List LinkRow → List (ℕ × List ℕ) →
    List SessionRow → Type 0
AreSessions Ospf configs links lists sessions = sessions ≡ []
AreSessions Bgp configs links lists sessions =
    AreInOrder (IsSessionBefore configs links lists) (IsSession configs links lists) sessions

-- the network has the routers of the files, their interfaces and lists, and the document's links,
-- each in its order, and nothing else
pub record AreBaseRows (doc : Document) (configs : List Config) (net : Network) : Type 0 where
  pub protocol : net.protocol ≡ protocol_of configs
  pub routers : AllZip (IsRouterRow net.protocol) configs net.routers
  pub packet_lists : ArePacketLists configs net.packet_lists
  pub faces :
      AllZip (IsFaceRow net.protocol (ends_of doc.links) (map packet_list_key net.packet_lists))
      (sites configs) net.faces
  pub links : AllZip (IsLinkRow (full_names configs)) doc.links net.links
  pub route_lists : AreRouteLists configs net.route_lists

-- and it has their sessions
pub record AreRows (doc : Document) (configs : List Config) (net : Network) : Type 0 where
  pub base : AreBaseRows doc configs net
  pub sessions :
      AreSessions net.protocol configs net.links (map route_list_key net.route_lists) net.sessions
