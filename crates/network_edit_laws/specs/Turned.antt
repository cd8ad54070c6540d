-- Laws of single edits: which answers a new list gives, and which edits turn a session or an entry
-- of a list.
use Rattle.std.specs.Prelude.{◌≡◌, ◌↔◌, true, false, IsTrue, List, Contains}
use Rattle.arc_base.specs.declared.place.Face.{Face}
use Rattle.arc_base.specs.declared.place.ListId.{ListId}
use Rattle.arc_base.specs.declared.prefix.Prefix.{Prefix}
use Rattle.net_model.specs.declared.lists.Packet.{Packet}
use Rattle.net_model.specs.declared.policies.Class.{Class}
use Rattle.net_model.specs.Lists.{permits, route_permits}
use Rattle.net_model.specs.Packets.{IsOfClass}
use Rattle.edit_list.specs.declared.edit_kinds.Edit.{Edit}
use Rattle.edit_list.specs.declared.edit_kinds.Edit.TheVariants as edits
use Rattle.edit_list.specs.After.{new_packet_entries, new_route_entries}
use Rattle.edit_list.specs.Changes.{turns_session, list_prefixes, new_prefixes, list_classes}
use Rattle.edit_list.specs.Changes.{new_classes}

-- a new packet list denies the packets of its classes
abbrev pub NewClassesAreDenied : Type 0
NewClassesAreDenied =
    (classes : List Class) (class : Class) → Contains classes class →
    (p : Packet) → IsOfClass class p → permits (new_packet_entries classes) p ≡ false

-- and permits every other packet that there is
abbrev pub OtherPacketsArePermitted : Type 0
OtherPacketsArePermitted =
    (classes : List Class) (whole : Class) (p : Packet) → IsOfClass whole p →
    ((class : Class) → Contains classes class → ¬ IsOfClass class p) →
    permits (new_packet_entries classes) p ≡ true

-- a new route list denies its prefixes
abbrev pub NewPrefixesAreDenied : Type 0
NewPrefixesAreDenied =
    (prefixes : List Prefix) (prefix : Prefix) → Contains prefixes prefix →
    route_permits (new_route_entries prefixes) prefix ≡ false

-- and permits every other prefix
abbrev pub OtherPrefixesArePermitted : Type 0
OtherPrefixesArePermitted =
    (prefixes : List Prefix) (prefix : Prefix) → ¬ Contains prefixes prefix →
    route_permits (new_route_entries prefixes) prefix ≡ true

-- the session of an interface is turned exactly where its own edit is chosen
abbrev pub SessionsTurnByTheirEdit : Type 0
SessionsTurnByTheirEdit =
    (chosen : List Edit) (face : Face) →
    IsTrue (turns_session chosen face.0) ↔ Contains chosen (edits.Session face)

-- a list gets exactly the entries of its own edits that are chosen
pub record EntriesAreOfTheirEdits (chosen : List Edit) : Type 0 where
  pub route_lists : (list : ListId) (prefix : Prefix) →
      Contains (list_prefixes chosen list.0) prefix ↔ Contains chosen (edits.RouteList list prefix)
  pub new_routes : (face : Face) (prefix : Prefix) →
      Contains (new_prefixes chosen face.0) prefix ↔ Contains chosen (edits.RouteNew face prefix)
  pub packet_lists : (list : ListId) (class : Class) →
      Contains (list_classes chosen list.0) class ↔ Contains chosen (edits.PacketList list class)
  pub new_packets : (face : Face) (class : Class) →
      Contains (new_classes chosen face.0) class ↔ Contains chosen (edits.PacketNew face class)

abbrev pub ListsGetTheirEntries : Type 0
ListsGetTheirEntries = (chosen : List Edit) → EntriesAreOfTheirEdits chosen
