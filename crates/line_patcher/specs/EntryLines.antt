-- The entries that edits add at the front of lists, and the new numbers of the old entries.
use Rattle.std.specs.Prelude.{ℕ, ◌+◌, ◌*◌, ◌&&◌, not, Bool, true, false, Option, Some, None, List}
use Rattle.std.specs.Prelude.{[], map, find, length, bytes_eq, slice_get, slice_index}
use Rattle.std.specs.Prelude.{if◌then◌else◌}
use Rattle.std.specs.List.{filter_map, enumerate_from}
use Rattle.std.specs.Option.{option_map_or}
use Rattle.arc_base.specs.declared.prefix.Prefix.{Prefix}
use Rattle.net_model.specs.declared.lists.PacketEntry.{PacketEntry}
use Rattle.net_model.specs.declared.lists.PacketList.{PacketList}
use Rattle.net_model.specs.declared.lists.RouteList.{RouteList}
use Rattle.net_model.specs.declared.policies.Class.{Class}
use Rattle.net_model.specs.declared.rows.Network.{Network}
use Rattle.ios_words.specs.declared.commands.Command.{Command}
use Rattle.ios_words.specs.declared.commands.Command.TheVariants as commands
use Rattle.ios_words.specs.Printed.{route_text}
use Rattle.ios_config.specs.declared.settings.ListForm.{ListForm}
use Rattle.ios_config.specs.declared.settings.ListForm.TheVariants.{Block, Lines, PrefixLines}
use Rattle.net_build.specs.declared.built.Places.{Places}
use Rattle.net_build.specs.declared.built.ListPlace.{ListPlace}
use Rattle.net_rules.specs.Lists.{packet_text}
use Rattle.edit_list.specs.declared.edit_kinds.Edit.{Edit}
use Rattle.edit_list.specs.After.{opposite_packet_entry, opposite_route_entry}
use Rattle.edit_list.specs.Changes.{packet_list_change, route_list_change}
use Rattle.arc_base.specs.Numbered.{of_number, placed, is_empty}
use Rattle.line_patcher.specs.declared.additions.NewNumber.{NewNumber}

-- the number of the entry at a place of its list, counted from 1, where the list has numbers that
-- rise by this step
abbrev pub order_at : ListPlace → ℕ → ℕ → Option ℕ
order_at place step at = if place.numbered then Some (step * at) else None

-- an entry of a packet list that is written in this form
abbrev pub packet_command : ListForm → List ℕ → Option ℕ → PacketEntry → Command
packet_command Lines name order entry = commands.ListLine name (packet_text entry)
packet_command _ name order entry = commands.Entry order (packet_text entry)

-- the new entry at this place of a packet list, which turns its answer for a class
abbrev pub class_command : ListPlace → PacketList → ℕ × Class → Command
class_command place list entry =
    packet_command place.form list.name (order_at place 10 entry.0)
    (opposite_packet_entry list.entries entry.1)

-- the new entry at this place of a route list, which turns its answer for a prefix
abbrev pub prefix_command : ListPlace → RouteList → ℕ × Prefix → Command
prefix_command place list entry =
    commands.PrefixLine list.name (order_at place 5 entry.0)
    (route_text (opposite_route_entry list.entries entry.1).permit entry.1)

-- the new entries of a packet list
abbrev pub class_commands : ListPlace → PacketList → List Class → List Command
class_commands place list classes = map (class_command place list) (enumerate_from 1 classes)

-- the new entries of a route list
abbrev pub prefix_commands : ListPlace → RouteList → List Prefix → List Command
prefix_commands place list prefixes = map (prefix_command place list) (enumerate_from 1 prefixes)

-- whether a list in this form is a packet list
abbrev pub is_packet_form : ListForm → Bool
is_packet_form Block = true
is_packet_form Lines = true
is_packet_form PrefixLines = false

-- where a file has its packet list of this name
abbrev pub packet_place : Places → List ℕ → Option ListPlace
packet_place own name =
    find (λ place. bytes_eq place.name name && is_packet_form place.form) own.lists

-- where a file has its route list of this name
abbrev pub route_place : Places → List ℕ → Option ListPlace
route_place own name =
    find (λ place. bytes_eq place.name name && not (is_packet_form place.form)) own.lists

-- the line of the first entry of a list
abbrev pub first_line : ListPlace → ℕ
first_line place = slice_index place.entries 0

-- each of the commands, to be added before the first entry of a list
abbrev pub at_front : ListPlace → List Command → List (ℕ × Command)
at_front place entries = map (λ entry. (first_line place, entry)) entries

-- the new number of the entry at this line and this place of its list, after this many new entries:
-- the word of its line, and the number
abbrev pub new_number : ℕ → ℕ → ℕ → ℕ × ℕ → ℕ × NewNumber
new_number word step count entry =
    (entry.1, record { word = word; number = step * (count + entry.0) })

-- the new numbers of the entries of a list that has numbers
abbrev pub new_numbers : ListPlace → ℕ → ℕ → ℕ → List (ℕ × NewNumber)
new_numbers place word step count =
    if place.numbered then map (new_number word step count) (enumerate_from 1 place.entries) else []

-- the list at this place, with its router, if edits add entries to it
abbrev pub edited_by : {L X : Type 0} → (L → ℕ) → (Edit → Option (ℕ × X)) → List Edit → ℕ × L →
    Option (ℕ × ℕ)
edited_by router change chosen list =
    if is_empty (of_number list.0 (filter_map change chosen)) then None
    else Some (router list.1, list.0)

-- the places of those of these lists that are of this router and to which edits add entries
abbrev pub edited_lists : {L X : Type 0} → List (ℕ × L) → (L → ℕ) → (Edit → Option (ℕ × X)) →
    List Edit → ℕ → List ℕ
edited_lists lists router change chosen number =
    of_number number (filter_map (edited_by router change chosen) lists)

abbrev pub edited_packet_lists : Network → List Edit → ℕ → List ℕ
edited_packet_lists net =
    edited_lists (placed net.packet_lists) (λ list. list.router.0) packet_list_change

abbrev pub edited_route_lists : Network → List Edit → ℕ → List ℕ
edited_route_lists net =
    edited_lists (placed net.route_lists) (λ list. list.router.0) route_list_change

-- the new entries of a list at this place, each before its first one
abbrev pub entries_at : {L X : Type 0} → (ListPlace → L → ℕ × X → Command) → L → ListPlace →
    List X → List (ℕ × Command)
entries_at command list place things =
    at_front place (map (command place list) (enumerate_from 1 things))

-- the new numbers of its old entries, which are this word of their lines and rise by this step
abbrev pub numbers_of : {X : Type 0} → ℕ × ℕ → ListPlace → List X → List (ℕ × NewNumber)
numbers_of numbering place things = new_numbers place numbering.0 numbering.1 (length things)

-- what a file has for the list at this place of the network, where it has that list at a place of
-- its own, and else nothing
abbrev pub for_list : {L X : Type 0} → List L → (L → Option ListPlace) →
    (L → ListPlace → List X) → ℕ → List X
for_list lists place things id =
    option_map_or (λ list. option_map_or (things list) (place list) []) (slice_get lists id) []

-- the new entries of the list at this place of the network, and the new numbers of its old ones
abbrev pub list_entries : {L X : Type 0} → List L → (L → Option ListPlace) →
    (ListPlace → L → ℕ × X → Command) → (Edit → Option (ℕ × X)) → List Edit → ℕ →
    List (ℕ × Command)
list_entries lists place command change chosen id =
    for_list lists place
    (λ list there. entries_at command list there (of_number id (filter_map change chosen))) id

abbrev pub list_numbers : {L X : Type 0} → List L → (L → Option ListPlace) → ℕ × ℕ →
    (Edit → Option (ℕ × X)) → List Edit → ℕ → List (ℕ × NewNumber)
list_numbers lists place numbering change chosen id =
    for_list lists place
    (λ list there. numbers_of numbering there (of_number id (filter_map change chosen))) id

-- the new entries of the packet list at this place, and those of the route list
abbrev pub packet_list_entries : Network → Places → List Edit → ℕ → List (ℕ × Command)
packet_list_entries net own =
    list_entries net.packet_lists (λ list. packet_place own list.name) class_command
    packet_list_change

abbrev pub route_list_entries : Network → Places → List Edit → ℕ → List (ℕ × Command)
route_list_entries net own =
    list_entries net.route_lists (λ list. route_place own list.name) prefix_command
    route_list_change

-- the new numbers of the packet list's old entries, which are the first words of their lines and
-- rise by 10, and those of the route list's, which follow seq and rise by 5
abbrev pub packet_list_numbers : Network → Places → List Edit → ℕ → List (ℕ × NewNumber)
packet_list_numbers net own =
    list_numbers net.packet_lists (λ list. packet_place own list.name) (0, 10) packet_list_change

abbrev pub route_list_numbers : Network → Places → List Edit → ℕ → List (ℕ × NewNumber)
route_list_numbers net own =
    list_numbers net.route_lists (λ list. route_place own list.name) (4, 5) route_list_change
