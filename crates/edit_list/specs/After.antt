-- The network after edits.
use Rattle.std.specs.Prelude.{◌≡◌, ℕ, ◌⊎◌, ◌↔◌, Bool, true, false, IsTrue, not, ◌||◌, MatchBool}
use Rattle.std.specs.Prelude.{Option, Some, None, IsSomeAnd, List, [], ◌∷◌, ◌++◌, map, slice_get}
use Rattle.std.specs.Prelude.{Contains, AllPairs, if◌then◌else◌}
use Rattle.std.proofs.Common.{lit<, lit≤, refl}
use Rattle.arc_base.specs.declared.place.Face.{Face}
use Rattle.arc_base.specs.declared.place.ListId.{ListId}
use Rattle.arc_base.specs.declared.prefix.Prefix.{Prefix}
use Rattle.net_model.specs.declared.lists.PacketEntry.{PacketEntry}
use Rattle.net_model.specs.declared.lists.PacketList.{PacketList}
use Rattle.net_model.specs.declared.lists.RouteEntry.{RouteEntry}
use Rattle.net_model.specs.declared.lists.RouteList.{RouteList}
use Rattle.net_model.specs.declared.policies.Class.{Class}
use Rattle.net_model.specs.declared.rows.Protocol.{Protocol}
use Rattle.net_model.specs.declared.rows.Protocol.TheVariants.{Ospf, Bgp}
use Rattle.net_model.specs.declared.rows.FaceRow.{FaceRow}
use Rattle.net_model.specs.declared.rows.RouterRow.{RouterRow}
use Rattle.net_model.specs.declared.rows.SessionRow.{SessionRow}
use Rattle.net_model.specs.declared.rows.Network.{Network}
use Rattle.net_model.specs.Lists.{permits, route_permits}
use Rattle.net_model.specs.Packets.{first_packet}
use Rattle.net_model.specs.Services.{whole_service}
use Rattle.edit_list.specs.declared.edit_kinds.Edit.{Edit}
use Rattle.edit_list.specs.declared.list_kinds.NewList.TheVariants.{Route, Packet}
use Rattle.arc_base.specs.Numbered.{is_empty, EachRow}
use Rattle.edit_list.specs.Changes.{turns_session, list_prefixes, new_prefixes, list_classes}
use Rattle.edit_list.specs.Changes.{new_classes}
use Rattle.edit_list.specs.NewLists.{new_names_of, IsNewList}
use Rattle.edit_list.specs.Ordered.{IsKeyBefore}
use Rattle.arc_base.specs.NameForms.{IsNameBefore}

-- the prefix of all addresses
abbrev pub any : Prefix
any = record { addr = 0; len = 0; in_range = lit< tt; length = lit≤ tt; clear = refl }

-- the entry of a route list for exactly this prefix
abbrev pub exact_entry : Bool → Prefix → RouteEntry
exact_entry permit prefix =
    record { permit = permit; prefix = prefix; low = prefix.len; high = prefix.len }

-- the entry of a packet list for the class
abbrev pub class_entry : Bool → Class → PacketEntry
class_entry permit class =
    record { permit = permit; from = class.from; to = class.to; service = class.service }

-- the entry for exactly this prefix, with the answer opposite to the one that the route list gives
abbrev pub opposite_route_entry : List RouteEntry → Prefix → RouteEntry
opposite_route_entry entries prefix = exact_entry (not (route_permits entries prefix)) prefix

-- the entry for the class, with the answer opposite to the one that the packet list gives to its
-- first packet
abbrev pub opposite_packet_entry : List PacketEntry → Class → PacketEntry
opposite_packet_entry entries class = class_entry (not (permits entries (first_packet class))) class

-- the entries of a route list with entries for these prefixes at its front, each with the answer
-- opposite to the present one
abbrev pub with_prefixes : List RouteEntry → List Prefix → List RouteEntry
with_prefixes entries prefixes = map (opposite_route_entry entries) prefixes ++ entries

-- the entries of a packet list with entries for these classes at its front, each with the answer
-- opposite to the present one
abbrev pub with_classes : List PacketEntry → List Class → List PacketEntry
with_classes entries classes = map (opposite_packet_entry entries) classes ++ entries

-- the entries of a new route list: it denies these prefixes and permits all others
abbrev pub new_route_entries : List Prefix → List RouteEntry
new_route_entries prefixes =
    map (exact_entry false) prefixes ++
    record { permit = true; prefix = any; low = 0; high = 32 } ∷ []

-- the entry that permits every packet
abbrev pub every_packet : PacketEntry
every_packet = record { permit = true; from = any; to = any; service = whole_service }

-- the entries of a new packet list: it denies these classes and permits all other packets
abbrev pub new_packet_entries : List Class → List PacketEntry
new_packet_entries classes = map (class_entry false) classes ++ every_packet ∷ []

-- the route list that was at this place, with the entries of the edits at its front
abbrev pub edited_route_list : List Edit → ℕ → RouteList → RouteList
edited_route_list chosen place list =
    record list { entries = with_prefixes list.entries (list_prefixes chosen place) }

-- the packet list that was at this place, with the entries of the edits at its front
abbrev pub edited_packet_list : List Edit → ℕ → PacketList → PacketList
edited_packet_list chosen place list =
    record list { entries = with_classes list.entries (list_classes chosen place) }

-- the list is the new route list for the session of this interface
pub record IsNewRouteList (net : Network) (chosen : List Edit) (face : Face)
    (list : RouteList) : Type 0 where
  pub named : IsNewList net chosen list.router.0 (Route face) list.name
  pub entries : list.entries ≡ new_route_entries (new_prefixes chosen face.0)

-- the list is the new inbound packet list of this interface, an extended one
pub record IsNewPacketList (net : Network) (chosen : List Edit) (face : Face)
    (list : PacketList) : Type 0 where
  pub named : IsNewList net chosen list.router.0 (Packet face) list.name
  pub extended : IsTrue list.extended
  pub entries : list.entries ≡ new_packet_entries (new_classes chosen face.0)

-- the list is a route list after the edits: one that there was, edited, or a new one
abbrev pub IsRouteListAfter : Network → List Edit → RouteList → Type 0
IsRouteListAfter net chosen list =
    ((place : ℕ) × (was : RouteList) × (slice_get net.route_lists place ≡ Some was) ×
    (list ≡ edited_route_list chosen place was)) ⊎
    ((face : Face) × IsNewRouteList net chosen face list)

-- the list is a packet list after the edits: one that there was, edited, or a new one
abbrev pub IsPacketListAfter : Network → List Edit → PacketList → Type 0
IsPacketListAfter net chosen list =
    ((place : ℕ) × (was : PacketList) × (slice_get net.packet_lists place ≡ Some was) ×
    (list ≡ edited_packet_list chosen place was)) ⊎
    ((face : Face) × IsNewPacketList net chosen face list)

-- where the edited list is after the edits, if it was at this place before them
abbrev pub RouteListMoves : Network → List Edit → Network → ListId → ListId → Type 0
RouteListMoves net chosen after was now =
    IsSomeAnd (slice_get net.route_lists was.0) (λ list.
    slice_get after.route_lists now.0 ≡ Some (edited_route_list chosen was.0 list))

abbrev pub PacketListMoves : Network → List Edit → Network → ListId → ListId → Type 0
PacketListMoves net chosen after was now =
    IsSomeAnd (slice_get net.packet_lists was.0) (λ list.
    slice_get after.packet_lists now.0 ≡ Some (edited_packet_list chosen was.0 list))

-- what was bound stays bound: no list, or the one that was bound, at its new place
abbrev pub StaysBound : (ListId → ListId → Type 0) → Option ListId → Option ListId → Type 0
StaysBound Moves None now = now ≡ None
StaysBound Moves (Some was) now = IsSomeAnd now (Moves was)

-- the inbound packet list of an interface after the edits: the new one, where the edits make one,
-- or the one that was bound
abbrev pub IsInboundAfter : Network → List Edit → Network → ℕ → Option ListId →
    Option ListId → Type 0
IsInboundAfter net chosen after face was now =
    MatchBool (is_empty (new_classes chosen face))
    (StaysBound (PacketListMoves net chosen after) was now)
    (IsSomeAnd now (λ id. IsSomeAnd (slice_get after.packet_lists id.0)
    (IsNewPacketList net chosen (record { 0 = face }))))

-- the route list of a session after the edits: the new one, where the edits make one, or the one
-- that was bound
abbrev pub IsFilterAfter : Network → List Edit → Network → Face → Option ListId →
    Option ListId → Type 0
IsFilterAfter net chosen after face was now =
    MatchBool (is_empty (new_prefixes chosen face.0))
    (StaysBound (RouteListMoves net chosen after) was now)
    (IsSomeAnd now (λ id.
    IsSomeAnd (slice_get after.route_lists id.0) (IsNewRouteList net chosen face)))

-- the flag, or its opposite where it is turned
abbrev pub turned_if : Bool → Bool → Bool
turned_if turns flag = if turns then not flag else flag

-- whether the interface at this place is passive after the edits: a session edit turns that under
-- OSPF
abbrev pub passive_after : Protocol → List Edit → ℕ → Bool → Bool
passive_after Ospf chosen face was = turned_if (turns_session chosen face) was
passive_after Bgp chosen face was = was

-- the interface at this place before and after the edits: all else stays as it is
pub record IsFaceAfter (net : Network) (chosen : List Edit) (after : Network) (place : ℕ)
    (was now : FaceRow) : Type 0 where
  pub same : now ≡ record was {
    passive = now.passive;
    bound_in = now.bound_in;
    list_in = now.list_in;
    list_out = now.list_out;
  }
  pub passive : now.passive ≡ passive_after net.protocol chosen place was.passive
  pub bound_in : now.bound_in ≡ (was.bound_in || not (is_empty (new_classes chosen place)))
  pub list_in : IsInboundAfter net chosen after place was.list_in now.list_in
  pub list_out : StaysBound (PacketListMoves net chosen after) was.list_out now.list_out

-- a session before and after the edits: all else stays as it is
pub record IsSessionAfter (net : Network) (chosen : List Edit) (after : Network) (place : ℕ)
    (was now : SessionRow) : Type 0 where
  pub same : now ≡ record was { down = now.down; bound = now.bound; filter = now.filter }
  pub down : now.down ≡ turned_if (turns_session chosen was.face.0) was.down
  pub bound : now.bound ≡ (was.bound || not (is_empty (new_prefixes chosen was.face.0)))
  pub filter : IsFilterAfter net chosen after was.face was.filter now.filter

-- the router at this place before and after the edits: it lists the names of its new lists too, in
-- byte order
pub record IsRouterAfter (net : Network) (chosen : List Edit) (place : ℕ)
    (was now : RouterRow) : Type 0 where
  pub name : now.name ≡ was.name
  pub asn : now.asn ≡ was.asn
  pub order : AllPairs IsNameBefore now.names
  pub names : (name : List ℕ) → Contains now.names name ↔
      (Contains was.names name ⊎ Contains (new_names_of net chosen place) name)

-- the network after the edits: the same routers, interfaces, sessions and links, with what the
-- edits turn and bind, and just the lists that there were and the new ones, by router and then in
-- byte order of names
pub record IsAfter (net : Network) (chosen : List Edit) (after : Network) : Type 0 where
  pub protocol : after.protocol ≡ net.protocol
  pub links : after.links ≡ net.links
  pub routers : EachRow (IsRouterAfter net chosen) net.routers after.routers
  pub faces : EachRow (IsFaceAfter net chosen after) net.faces after.faces
  pub sessions : EachRow (IsSessionAfter net chosen after) net.sessions after.sessions
  pub packet_order :
      AllPairs (λ l m. IsKeyBefore (l.router.0, l.name) (m.router.0, m.name)) after.packet_lists
  pub packet_lists : (list : PacketList) →
      Contains after.packet_lists list ↔ IsPacketListAfter net chosen list
  pub route_order :
      AllPairs (λ l m. IsKeyBefore (l.router.0, l.name) (m.router.0, m.name)) after.route_lists
  pub route_lists : (list : RouteList) →
      Contains after.route_lists list ↔ IsRouteListAfter net chosen list
