-- The commands of a list that a file sets, and the tables of what edits put at lines.
use Rattle.std.proofs.Common.{◌≡◌, ◌≢◌, ℕ, Bool, true, false, if◌then◌else◌, Option, Some, None, List, [], ◌∷◌, ◌++◌, map, refl, sym, ap, subst, ◌∙◌, ⊎_elim, Contains, append-nil}
use Rattle.std.specs.Prelude.{slice_get, slice_index}
use Rattle.std.specs.List.{filter_map}
use Rattle.std.specs.Option.{option_map_or}
use Rattle.std.proofs.lemmas.Option.{none-some, same_Some}
use Rattle.std.proofs.lemmas.List.Elements.{filter_map-append}
use Rattle.arc_base.proofs.Items.{Contains-cases, Contains-none, Contains-head, from_map, from_piece, from_filter}
use Rattle.net_model.specs.declared.lists.PacketList.{PacketList}
use Rattle.net_model.specs.declared.lists.RouteList.{RouteList}
use Rattle.net_model.specs.declared.rows.Network.{Network}
use Rattle.ios_words.specs.declared.commands.Command.{Command}
use Rattle.ios_config.specs.declared.commands.FileCommand.{FileCommand}
use Rattle.ios_config.specs.declared.settings.Given.{Given}
use Rattle.ios_config.specs.declared.settings.ListForm.{ListForm}
use Rattle.ios_config.specs.declared.settings.ListKind.{ListKind}
use Rattle.ios_config.specs.declared.settings.ListText.{ListText}
use Rattle.ios_config.specs.Groups.{Part, is_same, part_of, members, distinct, groups}
use Rattle.ios_config.specs.Texts.{config_of, entries, given, is_entry, is_numbered, list_of, list_text}
use Rattle.ios_config.proofs.PartLists.{is_same-Decides}
use Rattle.net_build.specs.declared.built.ListPlace.{ListPlace}
use Rattle.net_build.specs.Places.{list_place, places_of}
use Rattle.edit_list.specs.declared.edit_kinds.Edit.{Edit}
use Rattle.edit_list.specs.Changes.{packet_list_change, route_list_change}
use Rattle.arc_base.specs.Numbered.{of_number, if_number, is_empty, placed}
use Rattle.edit_list.proofs.Apart.{number_told}
use Rattle.edit_list.proofs.NewListFacts.{picked_from, placed_is}
use Rattle.line_patcher.specs.EntryLines.{first_line, for_list, edited_by, edited_packet_lists, edited_route_lists, packet_place, route_place}
use Rattle.patch_laws.specs.EditFiles.{HasPacketList, HasRouteList}
use Rattle.patch_laws.specs.ListsGrow.{list_begun}
use Rattle.patch_laws.proofs.ListsGrow.{made, by-head}

-- the group of commands that sets a list
pub record ListGroup (cs : List FileCommand) (list : ListText) : Type 0 where
  pub part : Part
  pub known : Contains (distinct (map part_of cs)) part
  pub first : FileCommand
  pub rest : List FileCommand
  pub is : members cs part ≡ first ∷ rest
  pub begun : list_begun first.command ≡ Some (list.name, list.kind, list.form)
  pub entries_are : list.entries ≡ entries (first ∷ rest)
  pub numbered_is : list.numbered ≡ is_numbered (entries (first ∷ rest))

made-is : (o : Option (List ℕ × ListKind × ListForm)) (group : List FileCommand) (list : ListText) → Contains (made o group) list →
    (o ≡ Some (list.name, list.kind, list.form)) × (list.entries ≡ entries group) × (list.numbered ≡ is_numbered (entries group))
made-is None group list there = absurd (Contains-none list there)
made-is (Some h) group list there = ⊎_elim
    (λ same. ((λ i. Some ((same i).name, (same i).kind, (same i).form)), ap (λ (l : ListText). l.entries) (sym same), ap (λ (l : ListText). l.numbered) (sym same)))
    (λ none. absurd (Contains-none list none))
    (Contains-cases (list_text h.0 h.1 h.2 group) list [] there)

-- a list has the entries of its commands
pub list-entries-are : (group : List FileCommand) (list : ListText) → Contains (list_of group) list → list.entries ≡ entries group
list-entries-are [] list there = absurd (Contains-none list there)
list-entries-are (h ∷ t) list there = (made-is (list_begun h.command) (h ∷ t) list (subst (λ (ls : List ListText). Contains ls list) (by-head h.command (h ∷ t)) there)).1

pub list-group : (cs : List FileCommand) (list : ListText) → Contains (config_of cs).lists list → ListGroup cs list
list-group cs list there =
    let (group, in_groups, in_list) = from_piece list_of (groups cs) list there in
    let (part, in_parts, is) = from_map (members cs) (distinct (map part_of cs)) group in_groups in
    by group part in_parts is in_list
  where
    by : (group : List FileCommand) (part : Part) → Contains (distinct (map part_of cs)) part → members cs part ≡ group → Contains (list_of group) list → ListGroup cs list
    by [] part known is in_list = absurd (Contains-none list in_list)
    by (h ∷ t) part known is in_list =
        let b = made-is (list_begun h.command) (h ∷ t) list (subst (λ (ls : List ListText). Contains ls list) (by-head h.command (h ∷ t)) in_list) in
        record { part = part; known = known; first = h; rest = t; is = is; begun = b.0; entries_are = b.1; numbered_is = b.2 }

-- the command that an entry of a list is
pub record EntryCommand (cs : List FileCommand) (part : Part) (g : Given Command) : Type 0 where
  pub command : FileCommand
  pub among : Contains cs command
  pub own : part_of command ≡ part
  pub says : command.command ≡ g.value
  pub line : command.line ≡ g.line
  pub entry : is_entry command.command ≡ true

entry-picked : (c : FileCommand) (g : Given Command) (b : Bool) → (if b then Some (given c) else None) ≡ Some g → (b ≡ true) × (given c ≡ g)
entry-picked c g true e = (refl, same_Some (given c) g e)
entry-picked c g false e = absurd (none-some g e)

pub entry-command : (cs : List FileCommand) (list : ListText) (h : ListGroup cs list) (g : Given Command) → Contains list.entries g → EntryCommand cs h.part g
entry-command cs list h g there =
    let (c, in_group, picked) = picked_from (λ (c : FileCommand). if is_entry c.command then Some (given c) else None) (h.first ∷ h.rest) g
    (subst (λ (es : List (Given Command)). Contains es g) h.entries_are there) in
    let (entry, is) = entry-picked c g (is_entry c.command) picked in
    let (among, same) = from_filter (λ (d : FileCommand). is_same h.part (part_of d)) cs c (subst (λ (ds : List FileCommand). Contains ds c) (sym h.is) in_group) in
    record {
      command = c;
      among = among;
      own = sym ((is_same-Decides h.part (part_of c)).0 same);
      says = ap (λ (x : Given Command). x.value) is;
      line = ap (λ (x : Given Command). x.line) is;
      entry = entry;
    }

-- what is at a number
pub of-append : {X : Type 0} (n : ℕ) (xs ys : List (ℕ × X)) → of_number n (xs ++ ys) ≡ of_number n xs ++ of_number n ys
of-append n xs ys = filter_map-append (if_number n) xs ys

-- of two tables one has nothing at the number
pub only-first : {X : Type 0} (n : ℕ) (xs ys : List (ℕ × X)) → of_number n ys ≡ [] → of_number n (xs ++ ys) ≡ of_number n xs
only-first {X} n xs ys none = of-append n xs ys ∙ ap (λ (l : List X). of_number n xs ++ l) none ∙ append-nil (of_number n xs)

pub only-second : {X : Type 0} (n : ℕ) (xs ys : List (ℕ × X)) → of_number n xs ≡ [] → of_number n (xs ++ ys) ≡ of_number n ys
only-second {X} n xs ys none = of-append n xs ys ∙ ap (λ (l : List X). l ++ of_number n ys) none

pub from-number : {X : Type 0} (n : ℕ) (xs : List (ℕ × X)) (x : X) → Contains (of_number n xs) x → Contains xs (n, x)
from-number {X} n xs x there =
    let (item, among, picked) = picked_from (if_number n) xs x there in
    let told = number_told n item x picked in
    subst (λ (y : ℕ × X). Contains xs y) (λ i. (told.0 i, told.1 i)) among

-- a list that nothing is in
pub none-in : {X : Type 0} (xs : List X) → ((x : X) → Contains xs x → ⊥) → xs ≡ []
none-in [] none = refl
none-in (x ∷ xs) none = absurd (none x (Contains-head x xs))

pub none-at : {X : Type 0} (n : ℕ) (xs : List (ℕ × X)) → ((item : ℕ × X) → Contains xs item → item.0 ≢ n) → of_number n xs ≡ []
none-at n xs other = none-in (of_number n xs) (λ y there. other (n, y) (from-number n xs y there) refl)

-- the router's lists that are edited
pub record EditedRow {L X : Type 0} (router_of : L → ℕ) (change : Edit → Option (ℕ × X)) (lists : List L) (chosen : List Edit) (router id : ℕ) : Type 0 where
  pub row : L
  pub at : slice_get lists id ≡ Some row
  pub own : router_of row ≡ router
  pub some : of_number id (filter_map change chosen) ≢ []

if-some : {X Y : Type 0} (xs : List X) (x y : Y) → (if is_empty xs then None else Some x) ≡ Some y → (xs ≢ []) × (x ≡ y)
if-some [] x y e = absurd (none-some y e)
if-some {X} {Y} (a ∷ xs) x y e = (λ none. absurd cc, same_Some x y e)

pub edited-list : {L X : Type 0} (router_of : L → ℕ) (change : Edit → Option (ℕ × X)) (lists : List L) (chosen : List Edit) (router id : ℕ) →
    Contains (of_number router (filter_map (edited_by router_of change chosen) (placed lists))) id →
    EditedRow router_of change lists chosen router id
edited-list router_of change lists chosen router id there =
    let picked = from-number router (filter_map (edited_by router_of change chosen) (placed lists)) id there in
    let (item, among, is) = picked_from (edited_by router_of change chosen) (placed lists) (router, id) picked in
    let (some, same) = if-some (of_number item.0 (filter_map change chosen)) (router_of item.1, item.0) (router, id) is in
    let place : item.0 ≡ id = ap (λ (p : ℕ × ℕ). p.1) same in
    record {
      row = item.1;
      at = subst (λ (k : ℕ). slice_get lists k ≡ Some item.1) place (placed_is lists item among);
      own = ap (λ (p : ℕ × ℕ). p.0) same;
      some = subst (λ (k : ℕ). of_number k (filter_map change chosen) ≢ []) place some;
    }

pub edited-packets : (net : Network) (chosen : List Edit) (router id : ℕ) → Contains (edited_packet_lists net chosen router) id →
    EditedRow (λ (l : PacketList). l.router.0) packet_list_change net.packet_lists chosen router id
edited-packets net = edited-list (λ (l : PacketList). l.router.0) packet_list_change net.packet_lists

pub edited-routes : (net : Network) (chosen : List Edit) (router id : ℕ) → Contains (edited_route_lists net chosen router) id →
    EditedRow (λ (l : RouteList). l.router.0) route_list_change net.route_lists chosen router id
edited-routes net = edited-list (λ (l : RouteList). l.router.0) route_list_change net.route_lists

-- what a file has for a list that it has
pub lists-have : {L X : Type 0} (lists : List L) (of_list : L → Option ListPlace) (things : L → ListPlace → List X) (id : ℕ) (row : L) (place : ListPlace) → slice_get lists id ≡ Some row →
    of_list row ≡ Some place → for_list lists of_list things id ≡ things row place
lists-have {L} {X} lists of_list things id row place at there =
    ap (λ (o : Option L). option_map_or (λ (list : L). option_map_or (things list) (of_list list) []) o []) at ∙ ap (λ (o : Option ListPlace). option_map_or (things row) o []) there

pub packets-have : {X : Type 0} (net : Network) (cs : List FileCommand) (things : PacketList → ListPlace → List X) (id : ℕ) (row : PacketList) (h : HasPacketList cs row) →
    slice_get net.packet_lists id ≡ Some row →
    for_list net.packet_lists (λ (l : PacketList). packet_place (places_of (config_of cs)) l.name) things id ≡ things row (list_place h.list)
packets-have net cs things id row h at = lists-have net.packet_lists (λ (l : PacketList). packet_place (places_of (config_of cs)) l.name) things id row (list_place h.list) at h.place

pub routes-have : {X : Type 0} (net : Network) (cs : List FileCommand) (things : RouteList → ListPlace → List X) (id : ℕ) (row : RouteList) (h : HasRouteList cs row) →
    slice_get net.route_lists id ≡ Some row →
    for_list net.route_lists (λ (l : RouteList). route_place (places_of (config_of cs)) l.name) things id ≡ things row (list_place h.list)
routes-have net cs things id row h at = lists-have net.route_lists (λ (l : RouteList). route_place (places_of (config_of cs)) l.name) things id row (list_place h.list) at h.place

-- the first entry of a list, whose line is that of its place
pub record FirstEntry (list : ListText) : Type 0 where
  pub first : Given Command
  pub more : List (Given Command)
  pub is : list.entries ≡ first ∷ more
  pub line : first_line (list_place list) ≡ first.line

pub first-entry : (list : ListText) → list.entries ≢ [] → FirstEntry list
first-entry list some = by list.entries refl
  where
    by : (es : List (Given Command)) → list.entries ≡ es → FirstEntry list
    by [] e = absurd (some e)
    by (g ∷ gs) e = record { first = g; more = gs; is = e; line = ap (λ (xs : List (Given Command)). slice_index (map (λ (x : Given Command). x.line) xs) 0) e }
