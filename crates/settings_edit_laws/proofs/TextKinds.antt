-- How the lists of a kind stand in the files of routers: packet lists, and route lists.
use Rattle.std.proofs.Common.{◌≡◌, ℕ, inl, inr, Bool, true, false, Option, Some, None, List, [], ◌∷◌, ◌++◌, map, refl, sym}
use Rattle.std.specs.Prelude.{slice_get, option_map, option_and_then}
use Rattle.std.specs.List.{filter_map}
use Rattle.std.proofs.lemmas.Bool.{false≢true}
use Rattle.arc_base.specs.declared.place.Face.{Face}
use Rattle.arc_base.specs.declared.prefix.Prefix.{Prefix}
use Rattle.net_model.specs.declared.lists.PacketEntry.{PacketEntry}
use Rattle.net_model.specs.declared.lists.RouteEntry.{RouteEntry}
use Rattle.net_model.specs.declared.policies.Class.{Class}
use Rattle.net_model.specs.declared.rows.Network.{Network}
use Rattle.net_model.specs.Validity.{IsValid}
use Rattle.ios_config.specs.declared.settings.Config.{Config}
use Rattle.ios_config.specs.declared.settings.Given.{Given}
use Rattle.ios_config.specs.declared.settings.ListKind.{ListKind}
use Rattle.ios_config.specs.declared.settings.ListKind.TheVariants as kinds
use Rattle.ios_config.specs.declared.settings.ListForm.TheVariants as forms
use Rattle.ios_config.specs.declared.settings.ListText.{ListText}
use Rattle.ios_words.specs.declared.commands.Command.{Command}
use Rattle.net_rules.specs.Lists.{is_packet_kind, is_extended_kind, list_named, if_defined, packet_entry, packet_entries}
use Rattle.net_rules.specs.Lists.{route_entry, route_entries, IsBoundPacketList, IsBoundRouteList, IsListName, IsPacketListRow, IsRouteListRow}
use Rattle.edit_list.specs.declared.edit_kinds.Edit.{Edit}
use Rattle.edit_list.specs.declared.edit_kinds.Edit.TheVariants as edits
use Rattle.edit_list.specs.Changes.{packet_list_change, route_list_change, new_classes, new_prefixes}
use Rattle.arc_base.specs.Numbered.{of_number}
use Rattle.edit_list.specs.NewLists.{IsNewList}
use Rattle.edit_list.specs.After.{opposite_packet_entry, opposite_route_entry, class_entry, exact_entry, every_packet, any}
use Rattle.edit_space.proofs.ListKinds.{ListsOfKind, packets, routes}
use Rattle.settings_edit_laws.specs.Plain.{without_number}
use Rattle.line_patcher.specs.EntryLines.{packet_command}
use Rattle.settings_edit_laws.specs.Additions.{if_own_list, class_for, prefix_for, route_line, front_lines, new_list_lines, new_list_kind}
use Rattle.settings_edit_laws.proofs.Tables.{packet_without, route_without, packet_line_is, route_line_is}

-- the texts of the lists of a kind, and what edits put into them
pub record TextsOfKind (net : Network) (chosen : List Edit) (K : ListsOfKind net chosen) : Type 1 where
  pub packet : Bool
  pub Entry : Type 0
  pub entry : Command → Option Entry
  pub entry_plain : (c : Command) → entry (without_number c) ≡ entry c
  -- the row of a list with this router, name, kind and these entries
  pub made : ℕ → List ℕ → ListKind → List Entry → K.Row
  pub router_is : (router : ℕ) (name : List ℕ) (kind : ListKind) (entries : List Entry) → K.router (made router name kind entries) ≡ router
  pub name_is : (router : ℕ) (name : List ℕ) (kind : ListKind) (entries : List Entry) → K.name (made router name kind entries) ≡ name
  -- what edits put in front of the entries of a list
  pub Thing : Type 0
  pub change : Edit → Option (ℕ × Thing)
  pub thing_for : ℕ → List ℕ → Edit → Option Thing
  pub for_is : (router : ℕ) (name : List ℕ) (e : Edit) →
      thing_for router name e ≡ option_and_then (λ (c : ℕ × Thing). option_and_then (λ (l : K.Row). if_own_list router name (K.router l) (K.name l) c.1) (slice_get K.lists c.0)) (change e)
  pub opposite : List Entry → Thing → Entry
  pub edited_is : (place router : ℕ) (name : List ℕ) (kind : ListKind) (entries : List Entry) →
      K.edited place (made router name kind entries) ≡ made router name kind (map (opposite entries) (of_number place (filter_map change chosen)) ++ entries)
  pub line : ListText → Entry → Command
  pub line_is : (l : ListText) (e : Entry) → entry (line l e) ≡ Some e
  pub front_is : (router : ℕ) (l : ListText) → is_packet_kind l.kind ≡ packet →
      front_lines net chosen router l l.kind ≡ map (λ (x : Thing). line l (opposite (filter_map (λ (g : Given Command). entry g.value) l.entries) x)) (filter_map (thing_for router l.name) chosen)
  -- the entries of a new list, and its row
  pub new_line : List ℕ → Entry → Command
  pub new_line_is : (name : List ℕ) (e : Entry) → entry (new_line name e) ≡ Some e
  pub first : Face → List Entry
  pub last : Entry
  pub new_lines_are : (name : List ℕ) (f : Face) → new_list_lines chosen name (K.new f) ≡ map (new_line name) (first f ++ last ∷ [])
  pub new_kind_is : (f : Face) → is_packet_kind (new_list_kind (K.new f)) ≡ packet
  pub new_row : (router : ℕ) (name : List ℕ) (f : Face) → IsNewList net chosen router (K.new f) name → K.IsNew f (made router name (new_list_kind (K.new f)) (first f ++ last ∷ []))
  pub new_row_is : (f : Face) (row : K.Row) → K.IsNew f row → made (K.router row) (K.name row) (new_list_kind (K.new f)) (first f ++ last ∷ []) ≡ row
  -- which lists have rows: those that are bound and defined
  pub IsBound : Config → List ℕ → Type 0
  pub bound_name : (c : Config) (name : List ℕ) → IsBound c name → IsListName c name
  pub IsRow : List Config → K.Row → Type 0
  pub to_row : (configs : List Config) (row : K.Row) (c : Config) → slice_get configs (K.router row) ≡ Some c → IsBound c (K.name row) →
      option_map (λ (l : ListText). made (K.router row) (K.name row) l.kind (filter_map (λ (g : Given Command). entry g.value) l.entries))
      (if_defined (list_named packet c (K.name row))) ≡ Some row → IsRow configs row
  pub from_row : (configs : List Config) (row : K.Row) → IsRow configs row → (c : Config) × (slice_get configs (K.router row) ≡ Some c) × IsBound c (K.name row) ×
      (option_map (λ (l : ListText). made (K.router row) (K.name row) l.kind (filter_map (λ (g : Given Command). entry g.value) l.entries)) (if_defined (list_named packet c (K.name row))) ≡ Some row)

module _ (net : Network) (chosen : List Edit) where
  pub class_for_is : (router : ℕ) (name : List ℕ) (e : Edit) →
      class_for net router name e ≡ option_and_then (λ (c : ℕ × Class). option_and_then (λ l. if_own_list router name l.router.0 l.name c.1) (slice_get net.packet_lists c.0)) (packet_list_change e)
  class_for_is router name (edits.PacketList list class) = refl
  class_for_is router name other = refl

  pub packet_front : (router : ℕ) (l : ListText) (k : ListKind) → is_packet_kind k ≡ true →
      front_lines net chosen router l k ≡ map (λ (c : Class). packet_command l.form l.name None (opposite_packet_entry (packet_entries l) c)) (filter_map (class_for net router l.name) chosen)
  packet_front router l kinds.Prefix p = absurd (false≢true p)
  packet_front router l other p = refl

  abbrev pub packet_texts : (valid : IsValid net) → TextsOfKind net chosen (packets net chosen valid)
  packet_texts valid = record {
    packet = true;
    Entry = PacketEntry;
    entry = packet_entry;
    entry_plain = packet_without;
    made = λ router name kind entries. record { router = record { 0 = router }; name = name; extended = is_extended_kind kind; entries = entries };
    router_is = λ router name kind entries. refl;
    name_is = λ router name kind entries. refl;
    Thing = Class;
    change = packet_list_change;
    thing_for = class_for net;
    for_is = class_for_is;
    opposite = opposite_packet_entry;
    edited_is = λ place router name kind entries. refl;
    line = λ l. packet_command l.form l.name None;
    line_is = λ l. packet_line_is l.form l.name;
    front_is = λ router l. packet_front router l l.kind;
    new_line = λ name. packet_command forms.Block name None;
    new_line_is = packet_line_is forms.Block;
    first = λ f. map (class_entry false) (new_classes chosen f.0);
    last = every_packet;
    new_lines_are = λ name f. refl;
    new_kind_is = λ f. refl;
    new_row = λ router name f new. record { named = new; extended = refl; entries = refl };
    new_row_is = λ f row new. λ i. record { router = row.router; name = row.name; extended = sym new.extended i; entries = sym new.entries i };
    IsBound = IsBoundPacketList;
    bound_name = λ c name bound. inr (inl bound);
    IsRow = IsPacketListRow;
    to_row = λ configs row c at bound defined. record { config = c; at_router = at; bound = bound; defined = defined };
    from_row = λ configs row r. (r.config, r.at_router, r.bound, r.defined);
  }

  pub prefix_for_is : (router : ℕ) (name : List ℕ) (e : Edit) →
      prefix_for net router name e ≡ option_and_then (λ (c : ℕ × Prefix). option_and_then (λ l. if_own_list router name l.router.0 l.name c.1) (slice_get net.route_lists c.0)) (route_list_change e)
  prefix_for_is router name (edits.RouteList list prefix) = refl
  prefix_for_is router name other = refl

  pub route_front : (router : ℕ) (l : ListText) (k : ListKind) → is_packet_kind k ≡ false →
      front_lines net chosen router l k ≡ map (λ (p : Prefix). route_line l.name (opposite_route_entry (route_entries l) p)) (filter_map (prefix_for net router l.name) chosen)
  route_front router l kinds.Prefix p = refl
  route_front router l other p = absurd (false≢true (sym p))

  abbrev pub route_texts : (valid : IsValid net) → TextsOfKind net chosen (routes net chosen valid)
  route_texts valid = record {
    packet = false;
    Entry = RouteEntry;
    entry = route_entry;
    entry_plain = route_without;
    made = λ router name kind entries. record { router = record { 0 = router }; name = name; entries = entries };
    router_is = λ router name kind entries. refl;
    name_is = λ router name kind entries. refl;
    Thing = Prefix;
    change = route_list_change;
    thing_for = prefix_for net;
    for_is = prefix_for_is;
    opposite = opposite_route_entry;
    edited_is = λ place router name kind entries. refl;
    line = λ l. route_line l.name;
    line_is = λ l. route_line_is l.name;
    front_is = λ router l. route_front router l l.kind;
    new_line = route_line;
    new_line_is = route_line_is;
    first = λ f. map (exact_entry false) (new_prefixes chosen f.0);
    last = record { permit = true; prefix = any; low = 0; high = 32 };
    new_lines_are = λ name f. refl;
    new_kind_is = λ f. refl;
    new_row = λ router name f new. record { named = new; entries = refl };
    new_row_is = λ f row new. λ i. record { router = row.router; name = row.name; entries = sym new.entries i };
    IsBound = IsBoundRouteList;
    bound_name = λ c name bound. inr (inr bound);
    IsRow = IsRouteListRow;
    to_row = λ configs row c at bound defined. record { config = c; at_router = at; bound = bound; defined = defined };
    from_row = λ configs row r. (r.config, r.at_router, r.bound, r.defined);
  }
