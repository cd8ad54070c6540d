-- The edits of a network for a document, in their order: sessions, then entries for routes, then
-- entries for packets.
use Rattle.std.specs.Prelude.{◌≡◌, ℕ, ◌<◌, ◌≤◌, ◌&&◌, nat_eq, Bool, false, is_some, Some, List, []}
use Rattle.std.specs.Prelude.{◌∷◌, ◌++◌, map, filter, fold, length, slice_get, Any, if◌then◌else◌}
use Rattle.std.specs.List.{flat_map, list_any, AllZip}
use Rattle.std.specs.Option.{option_map_or}
use Rattle.arc_base.specs.declared.limits.TheConstants.{CLASS_LIMIT, EDIT_LIMIT}
use Rattle.arc_base.specs.Addresses.{IsInside}
use Rattle.arc_base.specs.declared.place.Face.{Face}
use Rattle.arc_base.specs.declared.prefix.Prefix.{Prefix}
use Rattle.arc_base.specs.declared.refusal.LimitKind.TheVariants as limits
use Rattle.net_model.specs.declared.policies.Class.{Class}
use Rattle.net_model.specs.declared.policies.Policy.{Policy}
use Rattle.net_model.specs.declared.policies.Document.{Document}
use Rattle.net_model.specs.declared.rows.Protocol.{Protocol}
use Rattle.net_model.specs.declared.rows.Protocol.TheVariants.{Ospf, Bgp}
use Rattle.net_model.specs.declared.rows.LinkRow.{LinkRow}
use Rattle.net_model.specs.declared.rows.Network.{Network}
use Rattle.net_model.specs.Routing.{session_at}
use Rattle.traffic_classes.specs.AllClasses.{AreAllClasses, FirstHaveMore}
use Rattle.edit_list.specs.declared.edit_kinds.Edit.{Edit}
use Rattle.edit_list.specs.declared.edit_kinds.Edit.TheVariants as edits
use Rattle.edit_list.specs.declared.edit_kinds.EditFault.{EditFault}
use Rattle.edit_list.specs.declared.edit_kinds.EditFault.TheVariants.{Limit, Memory}
use Rattle.traffic_classes.specs.declared.fault.ClassFault.{ClassFault}
use Rattle.traffic_classes.specs.declared.fault.ClassFault.TheVariants as classes
use Rattle.edit_list.specs.declared.sites.Site.{Site}
use Rattle.edit_list.specs.declared.sites.Site.TheVariants.{Bound, New}
use Rattle.edit_list.specs.Sites.{route_sites, packet_sites}
use Rattle.edit_list.specs.Writable.{is_writable}

-- whether the interface runs the protocol with a neighbour: under OSPF it is enabled, under eBGP a
-- neighbour is configured at it
abbrev pub has_session : Protocol → Network → Face → Bool
has_session Ospf net face = option_map_or (λ f. f.enabled) (slice_get net.faces face.0) false
has_session Bgp net face = is_some (session_at net face)

-- the session edit of an interface, if it has a session
abbrev pub edits_at : Network → Face → List Edit
edits_at net face = if has_session net.protocol net face then edits.Session face ∷ [] else []

-- the session edits of a link: of its end a, and then of its end b
abbrev pub link_edits : Network → LinkRow → List Edit
link_edits net link = edits_at net link.a ++ edits_at net link.b

-- the edit that adds an entry for the prefix at the site
abbrev pub route_edit : Site → Prefix → Edit
route_edit (Bound list) prefix = edits.RouteList list prefix
route_edit (New face) prefix = edits.RouteNew face prefix

-- the edit that adds an entry for the class at the site
abbrev pub packet_edit : Site → Class → Edit
packet_edit (Bound list) class = edits.PacketList list class
packet_edit (New face) class = edits.PacketNew face class

-- the classes for which one entry of a packet list can speak
abbrev pub writable_classes : List Class → List Class
writable_classes classes = filter (λ class. is_writable class.service) classes

-- all edits, where these are the destinations and the classes: sessions by link, routes by site,
-- packets by site
abbrev pub all_edits : Network → List Prefix → List Class → List Edit
all_edits net destinations classes =
    flat_map (link_edits net) net.links ++
    flat_map (λ site. map (route_edit site) destinations) (route_sites net) ++
    flat_map (λ site. map (packet_edit site) (writable_classes classes)) (packet_sites net)

-- the prefix lies in this host network
abbrev pub LiesInHost : Network → Prefix → Prefix → Type 0
LiesInHost net prefix host = Any (λ face. (face.host ≡ Some host) × IsInside prefix host) net.faces

-- whether the two prefixes are the same
abbrev pub is_same : Prefix → Prefix → Bool
is_same p q = nat_eq p.addr q.addr && nat_eq p.len q.len

-- the list with the prefix at its end, where it is not there yet
abbrev pub with_prefix : List Prefix → Prefix → List Prefix
with_prefix prefixes prefix =
    if list_any (is_same prefix) prefixes then prefixes else prefixes ++ prefix ∷ []

-- the destinations of the policies: the host networks in which their destinations lie, each once,
-- at its first occurrence
pub record AreDestinations (net : Network) (policies : List Policy)
    (destinations : List Prefix) : Type 0 where
  pub hosts : List Prefix
  pub are : AllZip (λ policy host. LiesInHost net policy.to host) policies hosts
  pub once : destinations ≡ fold with_prefix [] hosts

-- these are the edits of the network for the document
pub record AreEdits (net : Network) (doc : Document) (list : List Edit) : Type 0 where
  pub destinations : List Prefix
  pub classes : List Class
  pub destinations_are : AreDestinations net doc.policies destinations
  pub classes_are : AreAllClasses net doc.policies doc.policies classes
  pub all : list ≡ all_edits net destinations classes

-- the network has this many edits for the document
pub record HasEdits (net : Network) (doc : Document) (count : ℕ) : Type 0 where
  pub list : List Edit
  pub are : AreEdits net doc list
  pub counted : length list ≡ count

-- the document has at most CLASS_LIMIT classes in the network
abbrev pub DocumentHasFewClasses : Network → Document → Type 0
DocumentHasFewClasses net doc =
    (classes : List Class) → AreAllClasses net doc.policies doc.policies classes →
    length classes ≤ CLASS_LIMIT

-- the fault of a list of edits that comes of a fault of its classes
abbrev pub fault_of : ClassFault → EditFault
fault_of (classes.TooMany count) = Limit limits.Classes count
fault_of classes.Memory = Memory

-- the fault names the first limit that is passed: more than CLASS_LIMIT classes, or no more and
-- then more than EDIT_LIMIT edits
abbrev pub NamesLimit : Network → Document → EditFault → Type 0
NamesLimit net doc (Limit limits.Classes count) =
    FirstHaveMore net doc.policies count × (CLASS_LIMIT < count)
NamesLimit net doc (Limit limits.Edits count) =
    DocumentHasFewClasses net doc × HasEdits net doc count × (EDIT_LIMIT < count)
NamesLimit net doc (Limit other count) = ⊥
NamesLimit net doc Memory = Unit {0}
