-- What edits add to the settings of a router beside the commands of its process: bindings, entries
-- of lists, and new lists. Entries have no numbers here.
use Rattle.std.specs.Prelude.{ℕ, ◌==◌, ◌&&◌, Option, Some, None, List, map, bytes_eq, slice_get}
use Rattle.std.specs.Prelude.{option_and_then, if◌then◌else◌}
use Rattle.std.specs.List.{filter_map}
use Rattle.arc_base.specs.declared.prefix.Prefix.{Prefix}
use Rattle.net_model.specs.declared.lists.RouteEntry.{RouteEntry}
use Rattle.net_model.specs.declared.policies.Class.{Class}
use Rattle.net_model.specs.declared.rows.Network.{Network}
use Rattle.ios_words.specs.declared.commands.Command.{Command}
use Rattle.ios_words.specs.declared.commands.Command.TheVariants as commands
use Rattle.ios_words.specs.declared.commands.RouteText.{RouteText}
use Rattle.ios_config.specs.declared.settings.ListForm.{ListForm}
use Rattle.ios_config.specs.declared.settings.ListForm.TheVariants as forms
use Rattle.ios_config.specs.declared.settings.ListKind.{ListKind}
use Rattle.ios_config.specs.declared.settings.ListKind.TheVariants.{Extended, Standard}
use Rattle.ios_config.specs.declared.settings.ListKind.TheVariants as kinds
use Rattle.ios_config.specs.declared.settings.ListText.{ListText}
use Rattle.net_rules.specs.Lists.{packet_entries, route_entries}
use Rattle.edit_list.specs.declared.edit_kinds.Edit.{Edit}
use Rattle.edit_list.specs.declared.edit_kinds.Edit.TheVariants as edits
use Rattle.edit_list.specs.declared.list_kinds.NewList.{NewList}
use Rattle.edit_list.specs.declared.list_kinds.NewList.TheVariants as lists
use Rattle.edit_list.specs.Changes.{new_prefixes, new_classes}
use Rattle.edit_list.specs.NewLists.{named_lists}
use Rattle.edit_list.specs.After.{opposite_route_entry, opposite_packet_entry, new_route_entries}
use Rattle.edit_list.specs.After.{new_packet_entries}
use Rattle.line_patcher.specs.EntryLines.{packet_command}

-- the name of the new list, if it is the packet list of the router's interface of this name
abbrev pub list_for : Network → List ℕ → List ℕ → NewList → Option (List ℕ)
list_for net face name (lists.Route other) = None
list_for net face name (lists.Packet place) =
    option_and_then (λ row. if bytes_eq row.name face then Some name else None)
    (slice_get net.faces place.0)

-- the name of the new packet list of the router's interface of this name, if it has one
abbrev pub new_inbound : Network → List Edit → ℕ → List ℕ → Option (List ℕ)
new_inbound net chosen router face =
    slice_get (filter_map (λ l. list_for net face l.1 l.0) (named_lists net chosen router)) 0

-- the item, if this is its router and its name
abbrev pub if_own_list : {X : Type 0} → ℕ → List ℕ → ℕ → List ℕ → X → Option X
if_own_list router name other named x =
    if (other == router) && bytes_eq named name then Some x else None

-- the prefix for which the edit adds an entry at the front of the router's route list of this name
abbrev pub prefix_for : Network → ℕ → List ℕ → Edit → Option Prefix
prefix_for net router name (edits.RouteList list prefix) =
    option_and_then (λ l. if_own_list router name l.router.0 l.name prefix)
    (slice_get net.route_lists list.0)
prefix_for net router name other = None

-- the class for which the edit adds an entry at the front of the router's packet list of this name
abbrev pub class_for : Network → ℕ → List ℕ → Edit → Option Class
class_for net router name (edits.PacketList list class) =
    option_and_then (λ l. if_own_list router name l.router.0 l.name class)
    (slice_get net.packet_lists list.0)
class_for net router name other = None

-- what the line of an entry says
abbrev pub route_text : RouteEntry → RouteText
route_text e = record { permit = e.permit; prefix = e.prefix; low = e.low; high = e.high }

-- the line of an entry of the route list of this name
abbrev pub route_line : List ℕ → RouteEntry → Command
route_line name e = commands.PrefixLine name None (route_text e)

-- the entries that edits add before the entries of the router's list, which is of this kind
abbrev pub front_lines : Network → List Edit → ℕ → ListText → ListKind → List Command
front_lines net chosen router list kinds.Prefix =
    map (λ p. route_line list.name (opposite_route_entry (route_entries list) p))
    (filter_map (prefix_for net router list.name) chosen)
front_lines net chosen router list Extended =
    map (λ c. packet_command list.form list.name None
    (opposite_packet_entry (packet_entries list) c))
    (filter_map (class_for net router list.name) chosen)
front_lines net chosen router list Standard =
    map (λ c. packet_command list.form list.name None
    (opposite_packet_entry (packet_entries list) c))
    (filter_map (class_for net router list.name) chosen)

-- the lines of the entries of a new list of this name
abbrev pub new_list_lines : List Edit → List ℕ → NewList → List Command
new_list_lines chosen name (lists.Route face) =
    map (route_line name) (new_route_entries (new_prefixes chosen face.0))
new_list_lines chosen name (lists.Packet face) =
    map (packet_command forms.Block name None) (new_packet_entries (new_classes chosen face.0))

-- of which kind a new list is, and in which form it is written
abbrev pub new_list_kind : NewList → ListKind
new_list_kind (lists.Route face) = kinds.Prefix
new_list_kind (lists.Packet face) = Extended

abbrev pub new_list_form : NewList → ListForm
new_list_form (lists.Route face) = forms.PrefixLines
new_list_form (lists.Packet face) = forms.Block
