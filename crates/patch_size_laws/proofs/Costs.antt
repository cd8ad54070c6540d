-- What edits put into one router's file costs at most 512 bytes for each of its edits, and the new numbers are small.
use Rattle.std.proofs.Common.{◌≡◌, ℕ, zero, suc, ◌+◌, ◌*◌, ◌^◌, ◌<◌, ◌≤◌, ◌==◌, not, Bool, true, false, if◌then◌else◌, List, [], ◌∷◌, ◌++◌, length, map, refl, ap, subst, arith}
use Rattle.std.specs.Prelude.{Option, Some, None, slice_get, option_map, option_and_then, bytes_eq, ◌&&◌}
use Rattle.std.specs.Option.{option_map_or}
use Rattle.std.specs.List.{cons_option, enumerate_from, filter_map, flat_map, find, zip, AllByRecursion}
use Rattle.std.proofs.lemmas.Bool.{leb-true, and_parts}
use Rattle.std.proofs.lemmas.List.Elements.{All-contains}
use Rattle.std.proofs.lemmas.Option.{none-some, same_Some}
use Rattle.arc_base.specs.declared.prefix.Prefix.{Prefix}
use Rattle.arc_base.proofs.Zips.{AllByRecursion-append}
use Rattle.net_model.specs.declared.lists.PacketList.{PacketList}
use Rattle.net_model.specs.declared.lists.RouteList.{RouteList}
use Rattle.net_model.specs.declared.policies.Class.{Class}
use Rattle.net_model.specs.declared.rows.FaceRow.{FaceRow}
use Rattle.net_model.specs.declared.rows.Network.{Network}
use Rattle.net_model.specs.declared.rows.Protocol.{Protocol}
use Rattle.net_model.specs.declared.rows.Protocol.TheVariants.{Ospf, Bgp}
use Rattle.net_model.specs.declared.rows.SessionRow.{SessionRow}
use Rattle.net_model.specs.Routing.{session_at}
use Rattle.net_model.specs.Validity.{IsValid, IsValidPacketList, IsValidRouteList}
use Rattle.net_model.proofs.Readings.{item_at_place}
use Rattle.net_rules.specs.Lists.{packet_text}
use Rattle.ios_words.specs.declared.commands.Command.{Command}
use Rattle.ios_words.specs.declared.commands.Command.TheVariants as commands
use Rattle.ios_words.specs.Printed.{all_routes, route_text}
use Rattle.ios_config.specs.declared.settings.ListForm.{ListForm}
use Rattle.ios_config.specs.declared.settings.ListForm.TheVariants.{Block, Lines, PrefixLines}
use Rattle.net_build.specs.declared.built.ListPlace.{ListPlace}
use Rattle.net_build.specs.declared.built.FacePlace.{FacePlace}
use Rattle.net_build.specs.declared.built.Places.{Places}
use Rattle.edit_list.specs.declared.edit_kinds.Edit.{Edit}
use Rattle.edit_list.specs.declared.list_kinds.NewList.{NewList}
use Rattle.edit_list.specs.declared.list_kinds.NewList.TheVariants.{Route, Packet}
use Rattle.edit_list.specs.After.{class_entry, every_packet, opposite_packet_entry, opposite_route_entry}
use Rattle.edit_list.specs.Changes.{list_classes, list_prefixes, new_classes, new_prefixes, new_route_change, packet_list_change, route_list_change}
use Rattle.edit_list.specs.NewLists.{named_lists, new_lists_of, new_names_of}
use Rattle.arc_base.specs.Numbered.{of_number}
use Rattle.line_patcher.specs.declared.additions.NewNumber.{NewNumber}
use Rattle.line_patcher.specs.Additions.{commands_after, commands_before, lines_after, lines_before, numbers_at}
use Rattle.line_patcher.specs.EntryLines.{at_front, class_command, edited_packet_lists, edited_route_lists, first_line, is_packet_form, list_entries, list_numbers, new_number, new_numbers}
use Rattle.line_patcher.specs.EntryLines.{order_at, packet_command, packet_list_entries, packet_list_numbers, packet_place, prefix_command, route_list_entries, route_list_numbers}
use Rattle.line_patcher.specs.EntryLines.{route_place}
use Rattle.line_patcher.specs.NewListLines.{deny_class, deny_prefix, face_places, filter_command, group_command, new_entries, new_entry, new_list_commands, new_packet_commands}
use Rattle.line_patcher.specs.NewListLines.{new_route_commands, permit_all}
use Rattle.line_patcher.specs.SessionLines.{session_command, turned_faces, turning_command}
use Rattle.line_patcher.specs.Written.{line_of}
use Rattle.line_patcher.proofs.Tables.{few_put}
use Rattle.settings_edit_laws.specs.Premises.{IsWritable}
use Rattle.patch_laws.specs.NewListSites.{IsNewName}
use Rattle.settings_edit_laws.proofs.SessionFacts.{find_in}
use Rattle.patch_size_laws.proofs.Keyed.{total, total-append, total-flat, total-map, total-le, total-times, total-ones, picked-few, zip-few, flat-all}
use Rattle.patch_size_laws.proofs.LineSizes.{IsSmallOrder, entry-line-few, list-line-few, prefix-line-few, list-head-few, group-few, neighbor-list-few, passive-few, neighbor-few}
use Rattle.patch_size_laws.proofs.RowSizes.{cost_of, put, IsSmall}

-- ---- counted things

counted-few : {X : Type 0} (h : ℕ × X → ℕ) (c n most : ℕ) (xs : List X) → ((e : ℕ × X) → e.0 ≤ most → h e ≤ c) → n + length xs ≤ most + 1 → total h (enumerate_from n xs) ≤ c * length xs
counted-few h c n most [] each room = omega arith
counted-few h c n most (x ∷ xs) each room = omega (arith, each (n, x) (omega (arith, room)), counted-few h c (n + 1) most xs each (omega (arith, room)))

counted-all : {X Y : Type 0} (P : Y → Type 0) (f : ℕ × X → Y) (n most : ℕ) (xs : List X) → ((e : ℕ × X) → e.0 ≤ most → P (f e)) → n + length xs ≤ most + 1 →
    AllByRecursion P (map f (enumerate_from n xs))
counted-all P f n most [] each room = tt
counted-all P f n most (x ∷ xs) each room = (each (n, x) (omega (arith, room)), counted-all P f (n + 1) most xs each (omega (arith, room)))

found-all : {X : Type 0} (P : X → Type 0) (p : X → Bool) (xs : List X) (x : X) → AllByRecursion P xs → find p xs ≡ Some x → P x
found-all P p [] x all e = absurd (none-some x e)
found-all {X} P p (y ∷ xs) x all e = by (p y) e (found-all P p xs x all.1)
  where
    by : (b : Bool) → (if b then Some y else find p xs) ≡ Some x → (find p xs ≡ Some x → P x) → P x
    by true e rest = subst P (same_Some y x e) all.0
    by false e rest = rest e

opt-total : {X : Type 0} (h : X → ℕ) (o : Option X) (xs : List X) → total h (cons_option o xs) ≡ total h (cons_option o []) + total h xs
opt-total h None xs = omega arith
opt-total h (Some x) xs = omega arith

zip-all : {X Y : Type 0} (P : X → Type 0) (xs : List X) (ys : List Y) → AllByRecursion P xs → AllByRecursion (λ (p : X × Y). P p.0) (zip xs ys)
zip-all P [] ys all = tt
zip-all P (x ∷ xs) [] all = tt
zip-all P (x ∷ xs) (y ∷ ys) all = (all.0, zip-all P xs ys all.1)

times-le : (s a : ℕ) → s ≤ 10 → s * a ≤ 10 * a
times-le s zero low = omega arith
times-le s (suc a) low = omega (arith, times-le s a low, low)

order-small : (b : Bool) (step at : ℕ) → step ≤ 10 → at ≤ 8192 → IsSmallOrder (if b then Some (step * at) else None)
order-small false step at low few = tt
order-small true step at low few = let least : step * at ≤ 10 * at = times-le step at low in omega (arith, least, few)

-- what the lines of commands cost
abbrev price : Command → ℕ
price command = cost_of (line_of command)

abbrev prices : List Command → ℕ
prices commands = total price commands

abbrev placed : List (ℕ × Command) → ℕ
placed commands = total (λ (x : ℕ × Command). price x.1) commands

all-placed : (number : ℕ) (commands : List Command) → placed (map (λ (command : Command). (number, command)) commands) ≡ prices commands
all-placed number commands = total-map (λ (x : ℕ × Command). price x.1) (λ (command : Command). (number, command)) commands

-- how many edits make a new list
abbrev pub new_size : List Edit → NewList → ℕ
new_size chosen (Route face) = length (new_prefixes chosen face.0)
new_size chosen (Packet face) = length (new_classes chosen face.0)

-- how many edits are put into the file of a router
abbrev pub weight : Network → List Edit → ℕ → ℕ
weight net chosen router =
    length (turned_faces net chosen router) +
    (total (λ id. length (list_classes chosen id)) (edited_packet_lists net chosen router) +
    (total (λ id. length (list_prefixes chosen id)) (edited_route_lists net chosen router) + total (new_size chosen) (new_lists_of net chosen router)))

module _ (net : Network) (valid : IsValid net) (writable : IsWritable net) (chosen : List Edit) (few : length chosen ≤ 8192) where
  packet-name : (id : ℕ) (list : PacketList) → slice_get net.packet_lists id ≡ Some list → length list.name ≤ 64
  packet-name id list at = (All-contains (IsValidPacketList net) net.packet_lists list valid.packet_lists (item_at_place net.packet_lists id list at)).name.few

  route-name : (id : ℕ) (list : RouteList) → slice_get net.route_lists id ≡ Some list → length list.name ≤ 64
  route-name id list at = (All-contains (IsValidRouteList net) net.route_lists list valid.route_lists (item_at_place net.route_lists id list at)).name.few

  -- ---- sessions

  session-few : (face : ℕ) (command : Command) → session_command net face ≡ Some command → price command ≤ 512
  session-few face command is = of-row (slice_get net.faces face) refl is
    where
      of-session : (o : Option SessionRow) → ((s : SessionRow) → o ≡ Some s → s.peer < 2 ^ 32) →
          option_map (λ (s : SessionRow). commands.NeighborDown s.peer (not s.down)) o ≡ Some command → price command ≤ 512
      of-session None small e = absurd (none-some command e)
      of-session (Some s) small e = omega (arith, ap price (same_Some (commands.NeighborDown s.peer (not s.down)) command e), neighbor-few s.peer (not s.down) (small s refl))

      of-protocol : (p : Protocol) (row : FaceRow) → length row.name ≤ 64 → turning_command p row (session_at net (record { 0 = face })) ≡ Some command → price command ≤ 512
      of-protocol Ospf row short e = omega (arith, ap price (same_Some (commands.Passive (not row.passive) (Some row.name)) command e), passive-few (not row.passive) row.name short)
      of-protocol Bgp row short e = of-session (session_at net (record { 0 = face })) (λ s at. writable.peers s (find_in (λ (t : SessionRow). t.face.0 == face) net.sessions s at).0) e

      of-row : (o : Option FaceRow) → slice_get net.faces face ≡ o →
          option_and_then (λ (row : FaceRow). turning_command net.protocol row (session_at net (record { 0 = face }))) o ≡ Some command → price command ≤ 512
      of-row None at e = absurd (none-some command e)
      of-row (Some row) at e = of-protocol net.protocol row (leb-true (length row.name) 64 (and_parts _ _ (writable.faces face row at)).0) e

  sessions-few : (router : ℕ) → prices (filter_map (session_command net) (turned_faces net chosen router)) ≤ 512 * length (turned_faces net chosen router)
  sessions-few router =
      let faces : List ℕ = turned_faces net chosen router in
      omega (arith, picked-few (session_command net) price (λ (face : ℕ). 512) faces session-few, consts faces)
    where
      consts : (xs : List ℕ) → total (λ (x : ℕ). 512) xs ≡ 512 * length xs
      consts [] = refl
      consts (x ∷ xs) = omega (arith, consts xs)

  -- ---- entries

  class-line-few : (place : ListPlace) (list : PacketList) (e : ℕ × Class) → length list.name ≤ 64 → e.0 ≤ 8192 → price (class_command place list e) ≤ 512
  class-line-few place list e short low = by place.form
    where
      order : Option ℕ
      order = order_at place 10 e.0

      by : (form : ListForm) → price (packet_command form list.name (order_at place 10 e.0) (opposite_packet_entry list.entries e.1)) ≤ 512
      by Block = omega (arith, entry-line-few (order_at place 10 e.0) (packet_text (opposite_packet_entry list.entries e.1)) (order-small place.numbered 10 e.0 (omega arith) low))
      by Lines = omega (arith, list-line-few list.name (packet_text (opposite_packet_entry list.entries e.1)) short)
      by PrefixLines = omega (arith, entry-line-few (order_at place 10 e.0) (packet_text (opposite_packet_entry list.entries e.1)) (order-small place.numbered 10 e.0 (omega arith) low))

  prefix-line-cost : (place : ListPlace) (list : RouteList) (e : ℕ × Prefix) → length list.name ≤ 64 → e.0 ≤ 8192 → price (prefix_command place list e) ≤ 512
  prefix-line-cost place list e short low =
      omega (
        arith,
        prefix-line-few list.name (order_at place 5 e.0) (route_text (opposite_route_entry list.entries e.1).permit e.1) short
            (order-small place.numbered 5 e.0 (omega arith) low) e.1.length e.1.length,
      )

  entries-few : {L X : Type 0} (lists : List L) (place_of : L → Option ListPlace) (command : ListPlace → L → ℕ × X → Command) (change : Edit → Option (ℕ × X)) →
      ((id : ℕ) (list : L) (place : ListPlace) (e : ℕ × X) → slice_get lists id ≡ Some list → e.0 ≤ 8192 → price (command place list e) ≤ 512) →
      (id : ℕ) → placed (list_entries lists place_of command change chosen id) ≤ 512 * length (of_number id (filter_map change chosen))
  entries-few {L} {X} lists place_of command change each id = of-list (of_number id (filter_map change chosen)) (slice_get lists id) (omega (arith, few_put change chosen id, few)) refl
    where
      of-place : (things : List X) (list : L) (o : Option ListPlace) → length things ≤ 8192 → slice_get lists id ≡ Some list →
          placed (option_map_or (λ place. at_front place (map (command place list) (enumerate_from 1 things))) o []) ≤ 512 * length things
      of-place things list None low at = omega arith
      of-place things list (Some place) low at =
          omega (
            arith,
            all-placed (first_line place) (map (command place list) (enumerate_from 1 things)),
            total-map price (command place list) (enumerate_from 1 things),
            counted-few (λ e. price (command place list e)) 512 1 8192 things (λ e within. each id list place e at within) (omega (arith, low)),
          )

      of-list : (things : List X) (o : Option L) → length things ≤ 8192 → slice_get lists id ≡ o →
          placed (option_map_or (λ list. option_map_or (λ place. at_front place (map (command place list) (enumerate_from 1 things))) (place_of list) []) o []) ≤ 512 * length things
      of-list things None low at = omega arith
      of-list things (Some list) low at = of-place things list (place_of list) low at

  packet-entries-few : (own : Places) (id : ℕ) → placed (packet_list_entries net own chosen id) ≤ 512 * length (list_classes chosen id)
  packet-entries-few own = entries-few net.packet_lists (λ (list : PacketList). packet_place own list.name) class_command packet_list_change
      (λ id list place e at low. class-line-few place list e (packet-name id list at) low)

  route-entries-few : (own : Places) (id : ℕ) → placed (route_list_entries net own chosen id) ≤ 512 * length (list_prefixes chosen id)
  route-entries-few own = entries-few net.route_lists (λ (list : RouteList). route_place own list.name) prefix_command route_list_change
      (λ id list place e at low. prefix-line-cost place list e (route-name id list at) low)

  -- ---- new lists

  route-lines-few : (name : List ℕ) (prefixes : List Prefix) → length name ≤ 64 → length prefixes ≤ 8192 → prices (new_route_commands name prefixes) ≤ 130 * length prefixes + 130
  route-lines-few name prefixes short low =
      let last : Command = permit_all name (5 * (length prefixes + 1)) in
      omega (
        arith,
        total-append price (map (deny_prefix name) (enumerate_from 1 prefixes)) (last ∷ []),
        total-map price (deny_prefix name) (enumerate_from 1 prefixes),
        counted-few (λ e. price (deny_prefix name e)) 130 1 8192 prefixes
            (λ e within. omega (arith, prefix-line-few name (Some (5 * e.0)) (route_text false e.1) short (omega (arith, within)) e.1.length e.1.length)) (omega (arith, low)),
        prefix-line-few name (Some (5 * (length prefixes + 1))) all_routes short (omega (arith, low)) (omega arith) (omega arith),
      )

  packet-lines-few : (name : List ℕ) (classes : List Class) → length name ≤ 64 → prices (new_packet_commands name classes) ≤ 103 * length classes + 198
  packet-lines-few name classes short =
      let every : Command = new_entry every_packet in
      omega (
        arith,
        list-head-few name short,
        total-append price (new_entries classes) (commands.Inert ∷ []),
        total-append price (map deny_class classes) (every ∷ []),
        total-map price deny_class classes,
        total-le (λ class. price (deny_class class)) (λ class. 103 * 1) classes (λ class. omega (arith, entry-line-few None (packet_text (class_entry false class)) tt)),
        total-times 103 (λ (class : Class). 1) classes,
        total-ones classes,
        entry-line-few None (packet_text every_packet) tt,
      )

  abbrev filters : NewList × List ℕ → Option Command
  filters n = filter_command net n.0 n.1

  abbrev groups : List FacePlace → NewList × List ℕ → Option (ℕ × Command)
  groups faces n = group_command faces n.0 n.1

  one-named : (faces : List FacePlace) (list : NewList) (name : List ℕ) → length name ≤ 64 → 1 ≤ new_size chosen list →
      prices (new_list_commands chosen list name) + (prices (cons_option (filter_command net list name) []) + placed (cons_option (group_command faces list name) [])) ≤ 512 * new_size chosen list
  one-named faces (Route face) name short some = by (session_at net face) refl
    where
      by : (o : Option SessionRow) → session_at net face ≡ o →
          prices (new_route_commands name (new_prefixes chosen face.0)) + (prices
          (cons_option (option_map (λ (s : SessionRow). commands.NeighborList s.peer name) o) []) + 0) ≤ 512 * length (new_prefixes chosen face.0)
      by None at = omega (arith, some, route-lines-few name (new_prefixes chosen face.0) short (omega (arith, few_put new_route_change chosen face.0, few)))
      by (Some s) at =
          omega (
            arith,
            some,
            route-lines-few name (new_prefixes chosen face.0) short (omega (arith, few_put new_route_change chosen face.0, few)),
            neighbor-list-few s.peer name (writable.peers s (find_in (λ (t : SessionRow). t.face.0 == face.0) net.sessions s at).0) short,
          )
  one-named faces (Packet face) name short some = by (slice_get faces face.0)
    where
      by : (o : Option FacePlace) →
          prices (new_packet_commands name (new_classes chosen face.0)) + (0 + placed
          (cons_option (option_map (λ (place : FacePlace). (place.last, commands.Group name true)) o) [])) ≤ 512 * length (new_classes chosen face.0)
      by None = omega (arith, some, packet-lines-few name (new_classes chosen face.0) short)
      by (Some place) = omega (arith, some, packet-lines-few name (new_classes chosen face.0) short, group-few name short)

  abbrev is_filled : NewList × List ℕ → Type 0
  is_filled n = 1 ≤ new_size chosen n.0

  named-few : (faces : List FacePlace) (ns : List (NewList × List ℕ)) → AllByRecursion (IsNewName chosen) ns → AllByRecursion is_filled ns →
      prices (flat_map (λ (n : NewList × List ℕ). new_list_commands chosen n.0 n.1) ns) + (prices (filter_map filters ns) + placed (filter_map (groups faces) ns)) ≤ 512 * total
      (λ (n : NewList × List ℕ). new_size chosen n.0) ns
  named-few faces [] names filled = omega arith
  named-few faces (n ∷ ns) names filled =
      let h : ℕ × Command → ℕ = λ x. price x.1 in
      omega (
        arith,
        total-append price (new_list_commands chosen n.0 n.1) (flat_map (λ (m : NewList × List ℕ). new_list_commands chosen m.0 m.1) ns),
        opt-total price (filters n) (filter_map filters ns),
        opt-total h (groups faces n) (filter_map (groups faces) ns),
        one-named faces n.0 n.1 (leb-true (length n.1) 64 (and_parts _ _ (and_parts _ _ names.0.name).0).1) filled.0,
        named-few faces ns names.1 filled.1,
      )

  -- ---- all

  pub router-few : (places : List Places) (own : Places) (router : ℕ) → AllByRecursion (IsNewName chosen) (named_lists net chosen router) →
      AllByRecursion (λ (list : NewList). 1 ≤ new_size chosen list) (new_lists_of net chosen router) →
      put (lines_before net own chosen router) + put (lines_after net places own chosen router) ≤ 512 * weight net chosen router
  router-few places own router names filled =
      let cost_at : ℕ × List ℕ → ℕ = λ x. cost_of x.1 in
      let line_at : ℕ × Command → ℕ × List ℕ = λ c. (c.0, line_of c.1) in
      let h : ℕ × Command → ℕ = λ x. price x.1 in
      let named : List (NewList × List ℕ) = named_lists net chosen router in
      let faces : List FacePlace = face_places places in
      let news : List Command = flat_map (λ (n : NewList × List ℕ). new_list_commands chosen n.0 n.1) named in
      let packets : List (ℕ × Command) = flat_map (packet_list_entries net own chosen) (edited_packet_lists net chosen router) in
      let routes : List (ℕ × Command) = flat_map (route_list_entries net own chosen) (edited_route_lists net chosen router) in
      let sessions : List Command = filter_map (session_command net) (turned_faces net chosen router) in
      let binds : List Command = filter_map filters named in
      omega (
        arith,
        total-map cost_at line_at (commands_before net own chosen router),
        total-map cost_at line_at (commands_after net places own chosen router),
        total-append h (map (λ (command : Command). (own.process, command)) news) (packets ++ routes),
        total-append h packets routes,
        all-placed own.process news,
        total-flat h (packet_list_entries net own chosen) (edited_packet_lists net chosen router),
        total-le (λ id. placed (packet_list_entries net own chosen id)) (λ id. 512 * length (list_classes chosen id)) (edited_packet_lists net chosen router) (packet-entries-few own),
        total-times 512 (λ id. length (list_classes chosen id)) (edited_packet_lists net chosen router),
        total-flat h (route_list_entries net own chosen) (edited_route_lists net chosen router),
        total-le (λ id. placed (route_list_entries net own chosen id)) (λ id. 512 * length (list_prefixes chosen id)) (edited_route_lists net chosen router) (route-entries-few own),
        total-times 512 (λ id. length (list_prefixes chosen id)) (edited_route_lists net chosen router),
        total-append h (map (λ (command : Command). (own.process_last, command)) (sessions ++ binds)) (filter_map (groups faces) named),
        all-placed own.process_last (sessions ++ binds),
        total-append price sessions binds,
        sessions-few router,
        named-few faces named names (zip-all (λ (list : NewList). 1 ≤ new_size chosen list) (new_lists_of net chosen router) (new_names_of net chosen router) filled),
        zip-few (new_size chosen) (new_lists_of net chosen router) (new_names_of net chosen router),
      )

  -- ---- new numbers

  abbrev pub HasRoomAt : ListPlace → Type 0
  HasRoomAt place = length place.entries + length chosen ≤ 16384

  abbrev IsSmallAt : ℕ × NewNumber → Type 0
  IsSmallAt x = IsSmall x.1

  of-numbers : (place : ListPlace) (word step count : ℕ) → step ≤ 10 → count ≤ length chosen → HasRoomAt place → AllByRecursion IsSmallAt (new_numbers place word step count)
  of-numbers place word step count low counted room = by place.numbered
    where
      by : (b : Bool) → AllByRecursion IsSmallAt (if b then map (new_number word step count) (enumerate_from 1 place.entries) else [])
      by false = tt
      by true = counted-all IsSmallAt (new_number word step count) 1 (length place.entries) place.entries
          (λ e within. omega (arith, within, counted, room, times-le step (count + e.0) low)) (omega arith)

  list-numbers-small : {L X : Type 0} (lists : List L) (place_of : L → Option ListPlace) (numbering : ℕ × ℕ) (change : Edit → Option (ℕ × X)) → numbering.1 ≤ 10 →
      ((list : L) (place : ListPlace) → place_of list ≡ Some place → HasRoomAt place) →
      (id : ℕ) → AllByRecursion IsSmallAt (list_numbers lists place_of numbering change chosen id)
  list-numbers-small {L} lists place_of numbering change low room id = of-list (slice_get lists id)
    where
      of-place : (list : L) (o : Option ListPlace) → place_of list ≡ o →
          AllByRecursion IsSmallAt (option_map_or (λ place. new_numbers place numbering.0 numbering.1 (length (of_number id (filter_map change chosen)))) o [])
      of-place list None at = tt
      of-place list (Some place) at = of-numbers place numbering.0 numbering.1 (length (of_number id (filter_map change chosen))) low (few_put change chosen id) (room list place at)

      of-list : (o : Option L) →
          AllByRecursion IsSmallAt
          (option_map_or (λ list. option_map_or (λ place. new_numbers place numbering.0 numbering.1 (length (of_number id (filter_map change chosen)))) (place_of list) []) o [])
      of-list None = tt
      of-list (Some list) = of-place list (place_of list) refl

  pub numbers-small : (own : Places) (router : ℕ) → AllByRecursion HasRoomAt own.lists → AllByRecursion IsSmallAt (numbers_at net own chosen router)
  numbers-small own router rooms =
      AllByRecursion-append IsSmallAt (flat_map (packet_list_numbers net own chosen) (edited_packet_lists net chosen router))
      (flat_map (route_list_numbers net own chosen) (edited_route_lists net chosen router))
      (flat-all IsSmallAt (packet_list_numbers net own chosen) (edited_packet_lists net chosen router)
      (list-numbers-small net.packet_lists (λ (list : PacketList). packet_place own list.name) (0, 10) packet_list_change (omega arith)
      (λ list place e. found-all HasRoomAt (λ place. bytes_eq place.name list.name && is_packet_form place.form) own.lists place rooms e)))
      (flat-all IsSmallAt (route_list_numbers net own chosen) (edited_route_lists net chosen router)
      (list-numbers-small net.route_lists (λ (list : RouteList). route_place own list.name) (4, 5) route_list_change (omega arith)
      (λ list place e. found-all HasRoomAt (λ place. bytes_eq place.name list.name && not (is_packet_form place.form)) own.lists place rooms e)))
