-- What the functions that make the network after edits keep.
use Rattle.std.specs.Prelude.{◌≡◌, ℕ, ◌<◌, ◌^◌, Bool, Option, Some, None, IsSomeAnd, IsTrue}
use Rattle.std.specs.Prelude.{AllPairs, Contains, ◌↔◌, ◌⊎◌, [], slice_index_or, option_map, not}
use Rattle.std.specs.Prelude.{◌||◌, if◌then◌else◌, List, ◌++◌, map, slice_get, slice_index, length}
use Rattle.std.specs.List.{filter_map}
use Rattle.std.specs.Option.{option_and_then}
use Rattle.std.specs.Cmp.Lexicographic.{slice_cmp}
use Rattle.std.specs.Ordering.{nat_cmp, ordering_then}
use Rattle.std.specs.declared.cmp.Ordering.{Ordering}
use Rattle.arc_base.specs.declared.place.Face.{Face}
use Rattle.arc_base.specs.declared.place.ListId.{ListId}
use Rattle.net_model.specs.declared.lists.PacketList.{PacketList}
use Rattle.net_model.specs.declared.lists.RouteList.{RouteList}
use Rattle.net_model.specs.declared.lists.PacketEntry.{PacketEntry}
use Rattle.net_model.specs.declared.lists.RouteEntry.{RouteEntry}
use Rattle.net_model.specs.declared.rows.Protocol.{Protocol}
use Rattle.net_model.specs.declared.rows.FaceRow.{FaceRow}
use Rattle.net_model.specs.declared.rows.SessionRow.{SessionRow}
use Rattle.net_model.specs.declared.rows.Network.{Network}
use Rattle.edit_list.specs.declared.edit_kinds.Edit.{Edit}
use Rattle.edit_space.specs.declared.changes.Changes.{Changes}
use Rattle.edit_list.specs.declared.list_kinds.NewList.{NewList}
use Rattle.edit_list.specs.declared.list_kinds.NewList.TheVariants.{Route, Packet}
use Rattle.edit_space.specs.declared.new_lists.Named.{Named}
use Rattle.edit_space.specs.declared.order.Keyed.{Keyed}
use Rattle.edit_space.specs.declared.order.Places.{Places}
use Rattle.edit_list.specs.declared.sites.Site.{Site}
use Rattle.edit_list.specs.declared.sites.Site.TheVariants.{Bound, New}
use Rattle.arc_base.specs.Numbered.{placed, of_number, is_empty, IsTableOf, EachRow}
use Rattle.edit_list.specs.Changes.{turns_session, list_prefixes, new_prefixes, list_classes}
use Rattle.edit_list.specs.Changes.{new_classes}
use Rattle.edit_list.specs.NewLists.{free_names, names_of, new_lists}
use Rattle.edit_list.specs.After.{with_prefixes, with_classes, new_route_entries}
use Rattle.edit_list.specs.After.{new_packet_entries, turned_if, passive_after}
use Rattle.edit_list.specs.Ordered.{Key, IsKeyBefore}

-- the tables say what the edits change in the network
pub record AreChanges (net : Network) (changes : Changes) : Type 0 where
  pub turned : IsTableOf (length net.faces) (turns_session changes.edits.items) changes.turned.items
  pub route_lists :
      IsTableOf (length net.route_lists) (list_prefixes changes.edits.items)
      changes.route_lists.items
  pub new_routes :
      IsTableOf (length net.faces) (new_prefixes changes.edits.items) changes.new_routes.items
  pub packet_lists :
      IsTableOf (length net.packet_lists) (list_classes changes.edits.items)
      changes.packet_lists.items
  pub new_packets :
      IsTableOf (length net.faces) (new_classes changes.edits.items) changes.new_packets.items

-- the names of the one list, or of the other
abbrev pub AreJoined : List (List ℕ) → List (List ℕ) → List (List ℕ) → Type 0
AreJoined names more joined =
    (name : List ℕ) → Contains joined name ↔ (Contains names name ⊎ Contains more name)

-- this many of the names of each router are used, and the router has one more
pub record HasNext (names : List (List (List ℕ))) (used : List ℕ) (router : ℕ) : Type 0 where
  pub within : router < length used
  pub named : router < length names
  pub left : slice_index used router < length (slice_index_or names router [])

-- the router and the name of a list
abbrev pub key_of : Keyed → Key
key_of list = (list.router, list.name)

-- which of the two comes first, by the router and then by the bytes of the name
abbrev pub compare_keys : Key → Key → Ordering
compare_keys x y = ordering_then (nat_cmp x.0 y.0) (slice_cmp nat_cmp x.1 y.1)

-- the names of the new lists of each router, one for each of its new lists, and whose own names are
-- less than 2^32
pub record AreNewNames (net : Network) (lists : List (ℕ × NewList))
    (names : List (List (List ℕ))) : Type 0 where
  pub told : IsTableOf (length net.routers)
      (λ router. free_names (names_of net router) (length (of_number router lists))) names
  pub counted : (router : ℕ) → router < length net.routers →
      length (slice_index_or names router []) ≡ length (of_number router lists)
  pub few : (router : ℕ) → router < length net.routers → length (names_of net router) < 2 ^ 32

-- this is a new list with its router and name: both are at one place among those of the router
pub record IsNamed (lists : List (ℕ × NewList)) (names : List (List (List ℕ))) (list : ℕ × NewList)
    (named : Named) : Type 0 where
  pub same_router : named.router ≡ list.0
  pub same_list : named.list ≡ list.1
  pub place : ℕ
  pub list_is : slice_get (of_number list.0 lists) place ≡ Some list.1
  pub name_is : slice_get (slice_index_or names list.0 []) place ≡ Some named.name

-- the new lists with their names, in the same order
abbrev pub AreNamed : List (ℕ × NewList) → List (List (List ℕ)) → List Named → Type 0
AreNamed lists names named = EachRow (λ place. IsNamed lists names) lists named

-- the new lists of these edits with their names, and for each router the names of its new lists
pub record AreMade (net : Network) (chosen : List Edit) (names : List (List (List ℕ)))
    (named : List Named) : Type 0 where
  pub new_names : AreNewNames net (new_lists net chosen) names
  pub are_named : AreNamed (new_lists net chosen) names named
  pub few : length (new_lists net chosen) < 2 ^ 33

-- the list that was at this place, with its router and name, as its key in the order
abbrev pub old_key : ℕ → ℕ → List ℕ → Keyed
old_key place router name =
    record { router = router; name = name; site = Bound (record { 0 = place }) }

-- the interface of a new packet list
abbrev pub packet_face : NewList → Option Face
packet_face (Packet face) = Some face
packet_face (Route face) = None

-- the interface of a new route list
abbrev pub route_face : NewList → Option Face
route_face (Packet face) = None
route_face (Route face) = Some face

-- the new list of this interface, as its key in the order
abbrev pub new_key : Named → Face → Keyed
new_key named face = record { router = named.router; name = named.name; site = New face }

-- the new list, as its key in the order, if it is of the kind with this interface
abbrev pub new_key_by : (NewList → Option Face) → Named → Option Keyed
new_key_by face named = option_map (new_key named) (face named.list)

-- all lists of a kind after the edits, before they are sorted: those that there were, and the new
-- ones
abbrev pub list_keys : {L : Type 0} → List L → (L → Key) → (NewList → Option Face) → List Named →
    List Keyed
list_keys lists key face named =
    map (λ list. old_key list.0 (key list.1).0 (key list.1).1) (placed lists) ++
    filter_map (new_key_by face) named

abbrev pub packet_keys : Network → List Named → List Keyed
packet_keys net = list_keys net.packet_lists (λ list. (list.router.0, list.name)) packet_face

abbrev pub route_keys : Network → List Named → List Keyed
route_keys net = list_keys net.route_lists (λ list. (list.router.0, list.name)) route_face

-- the site is one of the old lists, or one of the interfaces
abbrev pub IsWithin : ℕ → ℕ → Site → Type 0
IsWithin lists faces (Bound id) = id.0 < lists
IsWithin lists faces (New face) = face.0 < faces

-- the tables say that the list of this site is at this place
abbrev pub PlacesTell : Places → Site → ℕ → Type 0
PlacesTell places (Bound id) place = slice_get places.bound.items id.0 ≡ Some place
PlacesTell places (New face) place = slice_get places.new.items face.0 ≡ Some place

-- the tables say where each of the lists is
abbrev pub ArePlaces : List Keyed → Places → Type 0
ArePlaces lists places =
    (place : ℕ) (list : Keyed) → slice_get lists place ≡ Some list →
    PlacesTell places list.site place

-- the lists in the order of their keys, and where each of them is
pub record AreInPlace (lists sorted : List Keyed) (places : Places) : Type 0 where
  pub order : AllPairs (λ x y. IsKeyBefore (key_of x) (key_of y)) sorted
  pub same : (x : Keyed) → Contains sorted x ↔ Contains lists x
  pub are : ArePlaces sorted places

-- what the route list of this site has: the entries of the one that there was with the new ones, or
-- those of a new one
abbrev pub HasRouteEntries : Network → List Edit → Site → List RouteEntry → Type 0
HasRouteEntries net chosen (Bound id) entries =
    IsSomeAnd (slice_get net.route_lists id.0) (λ was.
    entries ≡ with_prefixes was.entries (list_prefixes chosen id.0))
HasRouteEntries net chosen (New face) entries =
    entries ≡ new_route_entries (new_prefixes chosen face.0)

-- what the packet list of this site has: the kind and the entries of the one that there was with
-- the new ones, or those of a new one
abbrev pub HasPacketEntries : Network → List Edit → Site → Bool → List PacketEntry → Type 0
HasPacketEntries net chosen (Bound id) extended entries =
    IsSomeAnd (slice_get net.packet_lists id.0) (λ was.
    (extended ≡ was.extended) × (entries ≡ with_classes was.entries (list_classes chosen id.0)))
HasPacketEntries net chosen (New face) extended entries =
    IsTrue extended × (entries ≡ new_packet_entries (new_classes chosen face.0))

-- the route list after the edits for this key
pub record IsRouteListFor (net : Network) (chosen : List Edit) (keyed : Keyed)
    (list : RouteList) : Type 0 where
  pub router : list.router.0 ≡ keyed.router
  pub name : list.name ≡ keyed.name
  pub entries : HasRouteEntries net chosen keyed.site list.entries

-- the packet list after the edits for this key
pub record IsPacketListFor (net : Network) (chosen : List Edit) (keyed : Keyed)
    (list : PacketList) : Type 0 where
  pub router : list.router.0 ≡ keyed.router
  pub name : list.name ≡ keyed.name
  pub entries : HasPacketEntries net chosen keyed.site list.extended list.entries

-- the list at this place
abbrev pub list_at : ℕ → ListId
list_at place = record { 0 = place }

-- where the list is now that was bound
abbrev pub moved : Places → Option ListId → Option ListId
moved places list =
    option_and_then (λ id. option_map list_at (slice_get places.bound.items id.0)) list

-- where the list is that is bound at the interface: a new one, or the one that was bound
abbrev pub bound_at : Places → Bool → ℕ → Option ListId → Option ListId
bound_at places new face list =
    if new then option_map list_at (slice_get places.new.items face) else moved places list

-- the row of the interface at this place after the edits, with the packet lists at these places
abbrev pub face_after : Protocol → List Edit → Places → ℕ × FaceRow → FaceRow
face_after protocol chosen places face = record face.1 {
  passive = passive_after protocol chosen face.0 face.1.passive;
  bound_in = face.1.bound_in || not (is_empty (new_classes chosen face.0));
  list_in = bound_at places (not (is_empty (new_classes chosen face.0))) face.0 face.1.list_in;
  list_out = moved places face.1.list_out;
}

-- the row of a session after the edits, with the route lists at these places
abbrev pub session_after : List Edit → Places → SessionRow → SessionRow
session_after chosen places session = record session {
  down = turned_if (turns_session chosen session.face.0) session.down;
  bound = session.bound || not (is_empty (new_prefixes chosen session.face.0));
  filter =
      bound_at places (not (is_empty (new_prefixes chosen session.face.0)))
      session.face.0 session.filter;
}
