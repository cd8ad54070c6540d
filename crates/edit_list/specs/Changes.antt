-- What a list of edits changes at one interface or in one list.
use Rattle.std.specs.Prelude.{ℕ, ◌==◌, Bool, Option, Some, None, List}
use Rattle.std.specs.List.{filter_map, list_any}
use Rattle.arc_base.specs.declared.prefix.Prefix.{Prefix}
use Rattle.net_model.specs.declared.policies.Class.{Class}
use Rattle.edit_list.specs.declared.edit_kinds.Edit.{Edit}
use Rattle.edit_list.specs.declared.edit_kinds.Edit.TheVariants as edits
use Rattle.arc_base.specs.Numbered.{of_number}

-- the interface whose session the edit turns
abbrev pub session_change : Edit → Option ℕ
session_change (edits.Session face) = Some face.0
session_change other = None

-- the prefix of an entry for a route list, with the place of the list
abbrev pub route_list_change : Edit → Option (ℕ × Prefix)
route_list_change (edits.RouteList list prefix) = Some (list.0, prefix)
route_list_change other = None

-- the prefix of an entry for a new route list, with the place of the interface
abbrev pub new_route_change : Edit → Option (ℕ × Prefix)
new_route_change (edits.RouteNew face prefix) = Some (face.0, prefix)
new_route_change other = None

-- the class of an entry for a packet list, with the place of the list
abbrev pub packet_list_change : Edit → Option (ℕ × Class)
packet_list_change (edits.PacketList list class) = Some (list.0, class)
packet_list_change other = None

-- the class of an entry for a new packet list, with the place of the interface
abbrev pub new_packet_change : Edit → Option (ℕ × Class)
new_packet_change (edits.PacketNew face class) = Some (face.0, class)
new_packet_change other = None

-- whether the edits turn the session of the interface at this place
abbrev pub turns_session : List Edit → ℕ → Bool
turns_session chosen face = list_any (λ place. place == face) (filter_map session_change chosen)

-- the prefixes of the entries that the edits add at the front of the route list at this place
abbrev pub list_prefixes : List Edit → ℕ → List Prefix
list_prefixes chosen list = of_number list (filter_map route_list_change chosen)

-- the prefixes of the entries in the new route list of the session of the interface at this place
abbrev pub new_prefixes : List Edit → ℕ → List Prefix
new_prefixes chosen face = of_number face (filter_map new_route_change chosen)

-- the classes of the entries that the edits add at the front of the packet list at this place
abbrev pub list_classes : List Edit → ℕ → List Class
list_classes chosen list = of_number list (filter_map packet_list_change chosen)

-- the classes of the entries in the new inbound packet list of the interface at this place
abbrev pub new_classes : List Edit → ℕ → List Class
new_classes chosen face = of_number face (filter_map new_packet_change chosen)
