-- The lists of a router file: the names that it gives or binds, and the rows of those that are
-- bound and defined.
use Rattle.std.specs.Prelude.{◌≡◌, ℕ, ◌⊎◌, Bool, true, false, Option, Some, None, IsSomeAnd, IfSome}
use Rattle.std.specs.Prelude.{List, [], ◌∷◌, map, Any, Contains, slice_get, find, bytes_eq, ◌&&◌}
use Rattle.std.specs.Prelude.{not, option_map, option_and_then, if◌then◌else◌}
use Rattle.std.specs.List.{filter_map}
use denote.Ref.{Bor}
use Rattle.arc_base.specs.declared.place.ListId.{ListId}
use Rattle.net_model.specs.declared.lists.PacketEntry.{PacketEntry}
use Rattle.net_model.specs.declared.lists.PacketList.{PacketList}
use Rattle.net_model.specs.declared.lists.RouteEntry.{RouteEntry}
use Rattle.net_model.specs.declared.lists.RouteList.{RouteList}
use Rattle.ios_words.specs.declared.commands.Command.{Command}
use Rattle.ios_words.specs.declared.commands.Command.TheVariants as commands
use Rattle.ios_words.specs.declared.commands.PacketText.{PacketText}
use Rattle.ios_config.specs.declared.settings.Given.{Given}
use Rattle.ios_config.specs.declared.settings.Config.{Config}
use Rattle.ios_config.specs.declared.settings.FaceText.{FaceText}
use Rattle.ios_config.specs.declared.settings.ListText.{ListText}
use Rattle.ios_config.specs.declared.settings.ListKind.{ListKind}
use Rattle.ios_config.specs.declared.settings.ListKind.TheVariants.{Extended, Standard, Prefix}
use Rattle.net_rules.specs.Settings.{value, lines_of}
use Rattle.net_rules.specs.Neighbors.{filter_of}
use Rattle.net_rules.specs.Ordered.{AreInOrder, IsPairBefore}
use Rattle.arc_base.specs.NameForms.{IsNameBefore}

-- whether a list of this kind is a packet list
abbrev pub is_packet_kind : ListKind → Bool
is_packet_kind Extended = true
is_packet_kind Standard = true
is_packet_kind Prefix = false

-- whether a packet list of this kind is about destinations too
abbrev pub is_extended_kind : ListKind → Bool
is_extended_kind Extended = true
is_extended_kind Standard = false
is_extended_kind Prefix = false

-- the entry that the words of a line give, and the words of an entry
abbrev pub entry_of : PacketText → PacketEntry
entry_of text = record {
  permit = text.permit;
  from = text.from;
  to = text.to;
  service =
      record { low = text.low; high = text.high; ordered = text.ordered; in_range = text.in_range };
}

abbrev pub packet_text : PacketEntry → PacketText
packet_text entry = record {
  permit = entry.permit;
  from = entry.from;
  to = entry.to;
  low = entry.service.low;
  high = entry.service.high;
  ordered = entry.service.ordered;
  in_range = entry.service.in_range;
}

-- the entry of a packet list that the command is
abbrev pub packet_entry : Command → Option PacketEntry
packet_entry (commands.Entry number text) = Some (entry_of text)
packet_entry (commands.ListLine name text) = Some (entry_of text)
packet_entry other = None

-- the entry of a route list that the command is
abbrev pub route_entry : Command → Option RouteEntry
route_entry (commands.PrefixLine name number text) =
    Some (record { permit = text.permit; prefix = text.prefix; low = text.low; high = text.high })
route_entry other = None

-- the entries of a packet list, in file order
abbrev pub packet_entries : ListText → List PacketEntry
packet_entries list = filter_map (λ g. packet_entry g.value) list.entries

-- the entries of a route list, in file order
abbrev pub route_entries : ListText → List RouteEntry
route_entries list = filter_map (λ g. route_entry g.value) list.entries

-- the interface binds the packet list of this name, in one of the two directions
abbrev pub BindsPacketList : List ℕ → FaceText → Type 0
BindsPacketList name face = (value face.list_in ≡ Some name) ⊎ (value face.list_out ≡ Some name)

-- some interface of the file does
abbrev pub IsBoundPacketList : Config → List ℕ → Type 0
IsBoundPacketList config name = Any (BindsPacketList name) config.faces

-- some neighbour has the route list of this name bound
abbrev pub IsBoundRouteList : Config → List ℕ → Type 0
IsBoundRouteList config name = (peer : ℕ) × (filter_of (lines_of config) peer ≡ Some name)

-- the file gives the name to a list, with or without entries, or binds it
abbrev pub IsListName : Config → List ℕ → Type 0
IsListName config name =
    Any (λ l. l.name ≡ name) config.lists ⊎
    (IsBoundPacketList config name ⊎ IsBoundRouteList config name)

-- these are all such names of the file, in byte order
abbrev pub AreListNames : Config → List (List ℕ) → Type 0
AreListNames config names = AreInOrder IsNameBefore (IsListName config) names

-- whether the list is a packet list, or whether it is a route list
abbrev pub is_of_kind : Bool → ListText → Bool
is_of_kind true list = is_packet_kind list.kind
is_of_kind false list = not (is_packet_kind list.kind)

-- the file's list of this kind and name
abbrev pub list_named : Bool → Config → List ℕ → Option ListText
list_named packet config name =
    find (λ list. bytes_eq list.name name && is_of_kind packet list) config.lists

-- the file's packet list of this name
abbrev pub packet_list_named : Config → List ℕ → Option ListText
packet_list_named config name = list_named true config name

-- the file's route list of this name
abbrev pub route_list_named : Config → List ℕ → Option ListText
route_list_named config name = list_named false config name

-- whether there are entries
abbrev pub has_entries : List (Given Command) → Bool
has_entries [] = false
has_entries (entry ∷ entries) = true

-- the list that was found, if it has an entry
abbrev pub if_defined : Option ListText → Option ListText
if_defined found =
    option_and_then (λ list. if has_entries list.entries then Some list else None) found

-- the row of a packet list
abbrev pub packet_row : ℕ → List ℕ → ListText → PacketList
packet_row router name list = record {
  router = record { 0 = router };
  name = name;
  extended = is_extended_kind list.kind;
  entries = packet_entries list;
}

-- the row of a route list
abbrev pub route_row : ℕ → List ℕ → ListText → RouteList
route_row router name list =
    record { router = record { 0 = router }; name = name; entries = route_entries list }

-- the row of the file's packet list of this name, if it is defined
abbrev pub packet_row_at : ℕ → Config → List ℕ → Option PacketList
packet_row_at router config name =
    option_map (packet_row router name) (if_defined (packet_list_named config name))

-- the row of the file's route list of this name, if it is defined
abbrev pub route_row_at : ℕ → Config → List ℕ → Option RouteList
route_row_at router config name =
    option_map (route_row router name) (if_defined (route_list_named config name))

-- some file binds and defines the packet list that has this row
pub record IsPacketListRow (configs : List Config) (row : PacketList) : Type 0 where
  pub config : Config
  pub at_router : slice_get configs row.router.0 ≡ Some config
  pub bound : IsBoundPacketList config row.name
  pub defined : packet_row_at row.router.0 config row.name ≡ Some row

-- some file binds and defines the route list that has this row
pub record IsRouteListRow (configs : List Config) (row : RouteList) : Type 0 where
  pub config : Config
  pub at_router : slice_get configs row.router.0 ≡ Some config
  pub bound : IsBoundRouteList config row.name
  pub defined : route_row_at row.router.0 config row.name ≡ Some row

-- these are the rows of all packet lists, by router and then in byte order of names
abbrev pub ArePacketLists : List Config → List PacketList → Type 0
ArePacketLists configs rows =
    AreInOrder (λ l m. IsPairBefore IsNameBefore (l.router.0, l.name) (m.router.0, m.name))
    (IsPacketListRow configs) rows

-- these are the rows of all route lists, in the same order
abbrev pub AreRouteLists : List Config → List RouteList → Type 0
AreRouteLists configs rows =
    AreInOrder (λ l m. IsPairBefore IsNameBefore (l.router.0, l.name) (m.router.0, m.name))
    (IsRouteListRow configs) rows

-- where the list that a router binds under a name is among these: nowhere, if it binds none or the
-- list is not among them
abbrev pub IsPlaceAmong : List (ℕ × List ℕ) → ℕ → Option (List ℕ) → Option ListId → Type 0
IsPlaceAmong keys router bound (Some id) =
    IsSomeAnd bound (λ name. slice_get keys id.0 ≡ Some (router, name))
IsPlaceAmong keys router bound None = IfSome bound (λ name. ¬ Contains keys (router, name))

-- the keys that an index holds by reference
abbrev pub keys_at : List (ℕ × Bor (List ℕ)) → List (ℕ × List ℕ)
keys_at keys = map (λ key. (key.0, key.1.now)) keys

-- the router and the name by which a list is found
abbrev pub packet_list_key : PacketList → ℕ × List ℕ
packet_list_key list = (list.router.0, list.name)

abbrev pub route_list_key : RouteList → ℕ × List ℕ
route_list_key list = (list.router.0, list.name)
