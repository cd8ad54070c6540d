-- What edits write of new lists, and what binds them.
use Rattle.std.specs.Prelude.{ℕ, ◌+◌, ◌*◌, true, false, Option, Some, None, List, [], ◌∷◌, ◌++◌}
use Rattle.std.specs.Prelude.{map, flat_map, length, option_map, slice_get}
use Rattle.std.specs.List.{filter_map, enumerate_from}
use Rattle.arc_base.specs.declared.prefix.Prefix.{Prefix}
use Rattle.net_model.specs.declared.lists.PacketEntry.{PacketEntry}
use Rattle.net_model.specs.declared.policies.Class.{Class}
use Rattle.net_model.specs.declared.rows.Network.{Network}
use Rattle.net_model.specs.Routing.{session_at}
use Rattle.net_rules.specs.Lists.{packet_text}
use Rattle.edit_list.specs.After.{class_entry, every_packet}
use Rattle.ios_words.specs.declared.commands.Command.{Command}
use Rattle.ios_words.specs.declared.commands.Command.TheVariants as commands
use Rattle.ios_words.specs.Printed.{route_text, all_routes}
use Rattle.net_build.specs.declared.built.Places.{Places}
use Rattle.net_build.specs.declared.built.FacePlace.{FacePlace}
use Rattle.edit_list.specs.declared.edit_kinds.Edit.{Edit}
use Rattle.edit_list.specs.declared.list_kinds.NewList.{NewList}
use Rattle.edit_list.specs.declared.list_kinds.NewList.TheVariants.{Route, Packet}
use Rattle.edit_list.specs.Changes.{new_prefixes, new_classes}
use Rattle.edit_list.specs.NewLists.{named_lists}

-- the entry of a new route list that denies a prefix, at a place of the list that is counted from 1
abbrev pub deny_prefix : List ℕ → ℕ × Prefix → Command
deny_prefix name entry =
    commands.PrefixLine name (Some (5 * entry.0)) (route_text false entry.1)

-- the entry of a new route list that permits all prefixes
abbrev pub permit_all : List ℕ → ℕ → Command
permit_all name number = commands.PrefixLine name (Some number) all_routes

-- a new route list: it denies these prefixes and permits all others
abbrev pub new_route_commands : List ℕ → List Prefix → List Command
new_route_commands name prefixes =
    map (deny_prefix name) (enumerate_from 1 prefixes) ++
    permit_all name (5 * (length prefixes + 1)) ∷ []

-- an entry of a new packet list, and the one that denies a class
abbrev pub new_entry : PacketEntry → Command
new_entry entry = commands.Entry None (packet_text entry)

abbrev pub deny_class : Class → Command
deny_class class = new_entry (class_entry false class)

-- the entries of a new packet list: it denies these classes and permits all other packets
abbrev pub new_entries : List Class → List Command
new_entries classes = map deny_class classes ++ new_entry every_packet ∷ []

-- a new packet list: its head, its entries, and a line that closes its block
abbrev pub new_packet_commands : List ℕ → List Class → List Command
new_packet_commands name classes =
    commands.ListBlock true name ∷ new_entries classes ++ commands.Inert ∷ []

-- the new list of this name
abbrev pub new_list_commands : List Edit → NewList → List ℕ → List Command
new_list_commands chosen (Route face) name = new_route_commands name (new_prefixes chosen face.0)
new_list_commands chosen (Packet face) name = new_packet_commands name (new_classes chosen face.0)

-- all new lists of a router
abbrev pub commands_of_new_lists : Network → List Edit → ℕ → List Command
commands_of_new_lists net chosen router =
    flat_map (λ named. new_list_commands chosen named.0 named.1) (named_lists net chosen router)

-- the command that binds a new route list at the neighbour of its interface
abbrev pub filter_command : Network → NewList → List ℕ → Option Command
filter_command net (Route face) name =
    option_map (λ s. commands.NeighborList s.peer name) (session_at net face)
filter_command net (Packet face) name = None

-- the commands that bind the new route lists of a router
abbrev pub filter_commands : Network → List Edit → ℕ → List Command
filter_commands net chosen router =
    filter_map (λ named. filter_command net named.0 named.1) (named_lists net chosen router)

-- where the interfaces of all routers have their blocks
abbrev pub face_places : List Places → List FacePlace
face_places places = flat_map (λ own. own.faces) places

-- the command that binds a new packet list at its interface, with the last command line of that
-- interface, which has its block at its place among these
abbrev pub group_command : List FacePlace → NewList → List ℕ → Option (ℕ × Command)
group_command faces (Route face) name = None
group_command faces (Packet face) name =
    option_map (λ place. (place.last, commands.Group name true)) (slice_get faces face.0)

-- the commands that bind the new packet lists of a router, each with the line that it follows
abbrev pub group_commands : Network → List Places → List Edit → ℕ → List (ℕ × Command)
group_commands net places chosen router =
    filter_map (λ named. group_command (face_places places) named.0 named.1)
    (named_lists net chosen router)
