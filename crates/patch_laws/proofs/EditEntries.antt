-- The lines of entries and of new lists that edits put into a file.
use Rattle.std.proofs.Common.{◌≡◌, ◌≢◌, ℕ, ◌+◌, ◌*◌, ◌≤◌, ◌⊎◌, inl, inr, Bool, true, false, if◌then◌else◌, Option, Some, None, List, [], ◌∷◌, ◌++◌, length, map, refl, sym, ap, subst, ◌∙◌}
use Rattle.std.proofs.Common.{arith, ⊎_elim, Contains, codes, IsTrue}
use Rattle.std.specs.List.{AllByRecursion, enumerate_from, flat_map}
use Rattle.std.proofs.lemmas.Option.{slice_get_within}
use Rattle.std.proofs.lemmas.List.Elements.{All-contains, All-from_recursion, Contains-append_cases}
use Rattle.arc_base.specs.declared.prefix.Prefix.{Prefix}
use Rattle.arc_base.specs.PrefixText.{number_of}
use Rattle.arc_base.proofs.Items.{Contains-head, Contains-tail, from_map, from_piece}
use Rattle.net_model.proofs.Readings.{item_at_place}
use Rattle.net_model.specs.declared.lists.PacketEntry.{PacketEntry}
use Rattle.net_model.specs.declared.lists.PacketList.{PacketList}
use Rattle.net_model.specs.declared.lists.RouteList.{RouteList}
use Rattle.net_model.specs.declared.policies.Class.{Class}
use Rattle.net_model.specs.declared.rows.Network.{Network}
use Rattle.ios_lines.specs.declared.line.Lines.{Lines}
use Rattle.ios_words.specs.declared.kinds.BlockKind.TheVariants as kinds
use Rattle.ios_words.specs.Forms.{IsOrder}
use Rattle.arc_base.specs.NameForms.{is_name}
use Rattle.ios_words.specs.Numbers.{list_kind}
use Rattle.ios_words.specs.declared.commands.Command.{Command}
use Rattle.ios_words.specs.declared.commands.Command.TheVariants as commands
use Rattle.ios_words.specs.Printed.{all_routes, route_text}
use Rattle.ios_words.proofs.PlainLines.{all-routes-line, closing-line, read-plain, route-line}
use Rattle.ios_config.specs.declared.commands.FileCommand.{FileCommand}
use Rattle.ios_config.specs.declared.settings.ListForm.{ListForm}
use Rattle.ios_config.specs.declared.settings.ListForm.TheVariants as forms
use Rattle.ios_config.specs.declared.settings.ListKind.TheVariants.{Extended}
use Rattle.ios_config.specs.declared.settings.ListText.{ListText}
use Rattle.ios_config.specs.Groups.{Part, part_in}
use Rattle.ios_config.specs.Groups as groups
use Rattle.ios_config.specs.Texts.{config_of, entry_number, is_entry}
use Rattle.net_build.specs.declared.built.ListPlace.{ListPlace}
use Rattle.net_build.specs.declared.built.Places.{Places}
use Rattle.net_rules.specs.Lists.{packet_text}
use Rattle.net_build.specs.Places.{list_place}
use Rattle.edit_list.specs.declared.edit_kinds.Edit.{Edit}
use Rattle.edit_list.specs.declared.list_kinds.NewList.{NewList}
use Rattle.edit_list.specs.declared.list_kinds.NewList.TheVariants.{Route, Packet}
use Rattle.edit_list.specs.After.{class_entry, every_packet, opposite_packet_entry}
use Rattle.edit_list.specs.Writable.{is_writable}
use Rattle.edit_list.specs.Changes.{list_prefixes, list_classes, new_prefixes, new_classes, packet_list_change, route_list_change}
use Rattle.line_patcher.specs.Additions.{all_at, commands_before, entries_before}
use Rattle.line_patcher.specs.EntryLines.{at_front, class_command, class_commands, first_line, order_at, edited_packet_lists, edited_route_lists, packet_command, packet_list_entries}
use Rattle.line_patcher.specs.EntryLines.{prefix_command, prefix_commands, route_list_entries}
use Rattle.line_patcher.specs.NewListLines.{commands_of_new_lists, deny_prefix, new_entries, new_entry, new_list_commands, permit_all}
use Rattle.line_patcher.specs.Written.{line_of}
use Rattle.line_patcher.proofs.Tables.{few_put}
use Rattle.line_edit_laws.specs.Sites.{IsBlockLine, IsSingleLine}
use Rattle.patch_laws.specs.EditFiles.{HasPacketList, HasRouteList, IsEditedFile}
use Rattle.patch_laws.specs.EditSiteLaws.{own_places}
use Rattle.patch_laws.specs.Fits.{IsFit}
use Rattle.patch_laws.specs.NewListSites.{IsNewName}
use Rattle.patch_laws.specs.Written.{written_of}
use Rattle.patch_laws.proofs.EditBusy.{AtCommand, at-enumerated, at-one, first-command, packets-of, process-here, process-line, routes-of}
use Rattle.patch_laws.proofs.EditLists.{packets-have, routes-have}
use Rattle.patch_laws.proofs.EntrySites.{block-entries, list-entries, prefix-entries}
use Rattle.patch_laws.proofs.PlainWritten.{plain-fit}

-- what all of some items have
pub all-from : {X : Type 0} (P : X → Type 0) (xs : List X) → ((x : X) → Contains xs x → P x) → AllByRecursion P xs
all-from P [] each = tt
all-from P (x ∷ xs) each = (each x (Contains-head x xs), all-from P xs (λ y there. each y (Contains-tail x y xs there)))

pub all-in : {X : Type 0} (P : X → Type 0) (xs : List X) (x : X) → AllByRecursion P xs → Contains xs x → P x
all-in P xs x all there = All-contains P xs x (All-from_recursion P xs all) there

-- the number of an entry
pub order-fits : (place : ListPlace) (step at high : ℕ) → 1 ≤ step * at → step * at ≤ high → IsOrder high (order_at place step at)
order-fits place step at high low few = by place.numbered
  where
    by : (b : Bool) → IsOrder high (if b then Some (step * at) else None)
    by true = (low, few)
    by false = tt

-- the part of a command that begins a list of this form, or is in it
abbrev pub form_part : ListForm → ℕ → List ℕ → Part
form_part forms.Block block name = groups.Block block
form_part forms.Lines block name = groups.Lines name
form_part forms.PrefixLines block name = groups.PrefixLines name

packet-part : (block : ℕ) (f : ListForm) (name : List ℕ) (order : Option ℕ) (entry : PacketEntry) → (f ≡ forms.Block) ⊎ (f ≡ forms.Lines) →
    part_in block (packet_command f name order entry) ≡ form_part f block name
packet-part block forms.Block name order entry packet = refl
packet-part block forms.Lines name order entry packet = refl
packet-part block forms.PrefixLines name order entry (inl e) = absurd cc
packet-part block forms.PrefixLines name order entry (inr e) = absurd cc

packet-entry-is : (f : ListForm) (name : List ℕ) (order : Option ℕ) (entry : PacketEntry) → is_entry (packet_command f name order entry) ≡ true
packet-entry-is forms.Block name order entry = refl
packet-entry-is forms.Lines name order entry = refl
packet-entry-is forms.PrefixLines name order entry = refl

-- an entry that is put before the first of a list: as a line of its block, or as a line of it
pub record TableEntry (cs : List FileCommand) (item : ℕ × Command) : Type 0 where
  pub list : ListText
  pub among : Contains (config_of cs).lists list
  pub some : list.entries ≢ []
  pub number : item.0 ≡ first_line (list_place list)
  pub stands : ((list.kind ≡ Extended) × (list.form ≡ forms.Block) × IsBlockLine kinds.Extended
      (written_of item.1)) ⊎ (((list.form ≡ forms.Lines) ⊎ (list.form ≡ forms.PrefixLines)) × IsSingleLine (written_of item.1))
  pub fit : IsFit (line_of item.1)
  pub order : list.numbered ≡ false → entry_number item.1 ≡ None
  pub part : (block : ℕ) → part_in block item.1 ≡ form_part list.form block list.name
  pub is : is_entry item.1 ≡ true

module _ (net : Network) (places : List Places) (chosen : List Edit) (router : ℕ) (text : List ℕ) (lines : Lines) (cs : List FileCommand)
    (file : IsEditedFile net places chosen router text lines cs) where
  abbrev own : Places
  own = own_places cs

  packet-item : (id : ℕ) (row : PacketList) (h : HasPacketList cs row) (entry : ℕ × Class) → IsTrue (is_writable entry.1.service) → 1 ≤ entry.0 → entry.0 ≤ 16384 →
      TableEntry cs (first_line (list_place h.list), class_command (list_place h.list) row entry)
  packet-item id row h entry writable low few = by h.form
    where
      order : Option ℕ
      order = order_at (list_place h.list) 10 entry.0

      new : PacketEntry
      new = opposite_packet_entry row.entries entry.1

      part : (h.list.form ≡ forms.Block) ⊎ (h.list.form ≡ forms.Lines) → (block : ℕ) → part_in block (packet_command h.list.form row.name order new) ≡ form_part h.list.form block h.list.name
      part packet block = packet-part block h.list.form row.name order new packet ∙ ap (form_part h.list.form block) (sym h.name)

      by : (h.list.form ≡ forms.Block) ⊎ ((h.list.form ≡ forms.Lines) × (list_kind (number_of h.list.name) ≡ Some true)) →
          TableEntry cs (first_line (list_place h.list), packet_command h.list.form row.name order new)
      by (inl form) =
          let b = block-entries row.name order new writable (order-fits (list_place h.list) 10 entry.0 2147483647 (omega arith) (omega arith)) in
          record {
            list = h.list;
            among = h.among;
            some = h.some;
            number = refl;
            stands = inl (h.kind, form, subst (λ (f : ListForm). IsBlockLine kinds.Extended (written_of (packet_command f row.name order new))) (sym form) b.0);
            fit = subst (λ (f : ListForm). IsFit (line_of (packet_command f row.name order new))) (sym form) b.1;
            order = λ none. subst (λ (f : ListForm). entry_number (packet_command f row.name order new) ≡ None) (sym form) (ap (λ (b : Bool). if b then Some (10 * entry.0) else None) none);
            part = part (inl form);
            is = packet-entry-is h.list.form row.name order new;
          }
      by (inr form) =
          let b = list-entries row.name order new writable (ap (λ (n : List ℕ). list_kind (number_of n)) (sym h.name) ∙ form.1) in
          record {
            list = h.list;
            among = h.among;
            some = h.some;
            number = refl;
            stands = inr (inl form.0, subst (λ (f : ListForm). IsSingleLine (written_of (packet_command f row.name order new))) (sym form.0) b.0);
            fit = subst (λ (f : ListForm). IsFit (line_of (packet_command f row.name order new))) (sym form.0) b.1;
            order = λ none. subst (λ (f : ListForm). entry_number (packet_command f row.name order new) ≡ None) (sym form.0) refl;
            part = part (inr form.0);
            is = packet-entry-is h.list.form row.name order new;
          }

  route-item : (id : ℕ) (row : RouteList) (h : HasRouteList cs row) (entry : ℕ × Prefix) → 1 ≤ entry.0 → entry.0 ≤ 16384 →
      TableEntry cs (first_line (list_place h.list), prefix_command (list_place h.list) row entry)
  route-item id row h entry low few =
      let b = prefix-entries (list_place h.list) row entry (subst (λ (n : List ℕ). IsTrue (is_name n)) h.name h.is_name) (λ same. h.other (h.name ∙ same))
      (order-fits (list_place h.list) 5 entry.0 4294967294 (omega arith) (omega arith)) in
      record {
        list = h.list;
        among = h.among;
        some = h.some;
        number = refl;
        stands = inr (inr h.form, b.0);
        fit = b.1;
        order = λ none. ap (λ (b : Bool). if b then Some (5 * entry.0) else None) none;
        part = λ block. λ i. form_part (sym h.form i) block (sym h.name i);
        is = refl;
      }

  -- each item of the table is one
  pub table-entry : (item : ℕ × Command) → Contains (entries_before net own chosen router) item → TableEntry cs item
  table-entry item there = ⊎_elim
      (λ packets.
      let (id, in_ids, has) = from_piece (packet_list_entries net own chosen) (edited_packet_lists net chosen router) item packets in
      let (row, at, h) = packets-of net places chosen router text lines cs file id in_ids in
      let here = subst (λ (l : List (ℕ × Command)). Contains l item)
      (packets-have net cs (λ (list : PacketList) (place : ListPlace). at_front place (class_commands place list (list_classes chosen id))) id row h at) has in
      let (w, in_commands, is) = from_map (λ (w : Command). (first_line (list_place h.list), w)) (class_commands (list_place h.list) row (list_classes chosen id)) item here in
      let (entry, in_classes, same) = from_map (class_command (list_place h.list) row) (enumerate_from 1 (list_classes chosen id)) w in_commands in
      let (k, number, get) = at-enumerated 1 (list_classes chosen id) entry in_classes in
      let low = slice_get_within (list_classes chosen id) k entry.1 get in
      let few : length (list_classes chosen id) ≤ length chosen = few_put packet_list_change chosen id in
      let all = file.few in
      subst (TableEntry cs) (ap (λ (x : Command). (first_line (list_place h.list), x)) same ∙ is)
      (packet-item id row h entry (file.classes id entry.1 (item_at_place (list_classes chosen id) k entry.1 get)) (omega arith) (omega arith)))
      (λ routes.
      let (id, in_ids, has) = from_piece (route_list_entries net own chosen) (edited_route_lists net chosen router) item routes in
      let (row, at, h) = routes-of net places chosen router text lines cs file id in_ids in
      let here = subst (λ (l : List (ℕ × Command)). Contains l item)
      (routes-have net cs (λ (list : RouteList) (place : ListPlace). at_front place (prefix_commands place list (list_prefixes chosen id))) id row h at) has in
      let (w, in_commands, is) = from_map (λ (w : Command). (first_line (list_place h.list), w)) (prefix_commands (list_place h.list) row (list_prefixes chosen id)) item here in
      let (entry, in_prefixes, same) = from_map (prefix_command (list_place h.list) row) (enumerate_from 1 (list_prefixes chosen id)) w in_commands in
      let (k, number, get) = at-enumerated 1 (list_prefixes chosen id) entry in_prefixes in
      let low = slice_get_within (list_prefixes chosen id) k entry.1 get in
      let few : length (list_prefixes chosen id) ≤ length chosen = few_put route_list_change chosen id in
      let all = file.few in
      subst (TableEntry cs) (ap (λ (x : Command). (first_line (list_place h.list), x)) same ∙ is) (route-item id row h entry (omega arith) (omega arith)))
      (Contains-append_cases (flat_map (packet_list_entries net own chosen) (edited_packet_lists net chosen router))
      (flat_map (route_list_entries net own chosen) (edited_route_lists net chosen router)) item there)

  -- all that comes before lines comes before those of commands
  pub before-command : (item : ℕ × Command) → Contains (commands_before net own chosen router) item → AtCommand cs item.0
  before-command item there = ⊎_elim
      (λ new.
      let here = process-here net places chosen router text lines cs file in
      record {
        command = here.head;
        among = here.block.among;
        line =
            at-one own.process (λ (k : Command). k) (commands_of_new_lists net chosen router) item new ∙ process-line net places chosen router text lines cs file;
      })
      (λ entry.
      let t = table-entry item entry in
      let c = first-command cs t.list t.among t.some in
      record { command = c.command; among = c.among; line = t.number ∙ c.line })
      (Contains-append_cases (all_at own.process (commands_of_new_lists net chosen router)) (entries_before net own chosen router) item there)

-- the lines of new lists may be put in
deny-fit : (name : List ℕ) → IsTrue (is_name name) → name ≢ codes "sequence-number" → (entry : ℕ × Prefix) → 1 ≤ entry.0 → entry.0 ≤ 16384 → IsFit (line_of (deny_prefix name entry))
deny-fit name is other entry low high =
    plain-fit kinds.Top (commands.PrefixLine name (Some (5 * entry.0)) (route_text false entry.1))
    (route-line name (Some (5 * entry.0)) false entry.1 is other ((omega arith), (omega arith))) (omega arith)

permit-fit : (name : List ℕ) → IsTrue (is_name name) → name ≢ codes "sequence-number" → (number : ℕ) → 1 ≤ number → number ≤ 100000 → IsFit (line_of (permit_all name number))
permit-fit name is other number low high =
    plain-fit kinds.Top (commands.PrefixLine name (Some number) all_routes) (all-routes-line name (Some number) is other ((omega arith), (omega arith))) (omega arith)

route-fit : (name : List ℕ) → IsTrue (is_name name) → name ≢ codes "sequence-number" → (k : ℕ) (prefixes : List Prefix) (last : ℕ) → 1 ≤ k → k + length prefixes ≤ 16385 → 1 ≤ last → last ≤ 100000 →
    AllByRecursion (λ (c : Command). IsFit (line_of c)) (map (deny_prefix name) (enumerate_from k prefixes) ++ permit_all name last ∷ [])
route-fit name is other k [] last low high some few = (permit-fit name is other last some few, tt)
route-fit name is other k (p ∷ prefixes) last low high some few = (deny-fit name is other (k, p) low (omega arith), route-fit name is other (k + 1) prefixes last (omega arith) (omega arith) some few)

entry-fit : (entry : PacketEntry) → IsTrue (is_writable entry.service) → IsFit (line_of (new_entry entry))
entry-fit entry writable =
    plain-fit kinds.Extended (commands.Entry None (packet_text entry)) (read-plain kinds.Extended (commands.Entry None (packet_text entry)) writable tt tt) (omega arith)

mark-fit : IsFit (line_of commands.Inert)
mark-fit = record { free = closing-line.written.free; no_return = closing-line.written.no_return; some = omega arith }

packet-fit : (classes : List Class) → ((class : Class) → Contains classes class → IsTrue (is_writable class.service)) →
    AllByRecursion (λ (c : Command). IsFit (line_of c)) (new_entries classes ++ commands.Inert ∷ [])
packet-fit [] writable = (entry-fit every_packet refl, (mark-fit, tt))
packet-fit (class ∷ classes) writable =
    (entry-fit (class_entry false class) (writable class (Contains-head class classes)), packet-fit classes (λ c there. writable c (Contains-tail class c classes there)))

pub new-lines-fit : (chosen : List Edit) (list : NewList) (name : List ℕ) → IsNewName chosen (list, name) → AllByRecursion (λ (c : Command). IsFit (line_of c)) (new_list_commands chosen list name)
new-lines-fit chosen (Route face) name is =
    let few = is.few face.0 in
    route-fit name is.name is.other 1 (new_prefixes chosen face.0) (5 * (length (new_prefixes chosen face.0) + 1)) (omega arith) (omega arith) (omega arith) (omega arith)
new-lines-fit chosen (Packet face) name is =
    (plain-fit kinds.Top (commands.ListBlock true name) (read-plain kinds.Top (commands.ListBlock true name) tt is.name tt) (omega arith), packet-fit (new_classes chosen face.0) (is.writable face.0))
