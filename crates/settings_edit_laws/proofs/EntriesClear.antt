-- No list of the files has too many entries after the edits.
use Rattle.std.proofs.Common.{◌≡◌, ℕ, ◌+◌, ◌<◌, ◌≤◌, inl, inr, true, false, List, [], ◌∷◌, ◌++◌, length, map, sym, ◌∙◌, ap, subst, arith, nat_lt, length-append, None}
use Rattle.std.specs.Prelude.{Contains}
use Rattle.std.specs.List.{filter_map}
use Rattle.std.proofs.lemmas.Bool.{ltb-true}
use Rattle.std.proofs.lemmas.List.{length-map}
use Rattle.std.proofs.lemmas.List.Elements.{Contains-append_cases, Contains-append_left, Contains-append_right}
use Rattle.arc_base.specs.declared.prefix.Prefix.{Prefix}
use Rattle.arc_base.proofs.Items.{Contains-map, from_map}
use Rattle.net_model.specs.declared.policies.Class.{Class}
use Rattle.net_model.specs.declared.policies.Document.{Document}
use Rattle.net_model.specs.declared.rows.Network.{Network}
use Rattle.net_model.proofs.Readings.{item_at_place}
use Rattle.ios_words.specs.declared.commands.Command.{Command}
use Rattle.ios_config.specs.declared.settings.Config.{Config}
use Rattle.ios_config.specs.declared.settings.ListKind.{ListKind}
use Rattle.ios_config.specs.declared.settings.ListKind.TheVariants as kinds
use Rattle.ios_config.specs.declared.settings.ListForm.TheVariants as forms
use Rattle.ios_config.specs.declared.settings.ListText.{ListText}
use Rattle.net_rules.specs.Limits.{RefusesEntries}
use Rattle.net_rules.specs.Lists.{packet_entries, route_entries}
use Rattle.net_rules.specs.Reasons.{NoRefusal}
use Rattle.edit_list.specs.declared.edit_kinds.Edit.{Edit}
use Rattle.edit_list.specs.declared.list_kinds.NewList.{NewList}
use Rattle.edit_list.specs.declared.list_kinds.NewList.TheVariants as lists
use Rattle.edit_list.specs.Changes.{new_route_change, new_packet_change, new_prefixes, new_classes}
use Rattle.arc_base.specs.Numbered.{if_number}
use Rattle.edit_list.specs.After.{exact_entry, class_entry, opposite_route_entry, opposite_packet_entry, new_route_entries, new_packet_entries, any, every_packet}
use Rattle.edit_list.proofs.Counts.{few_picked}
use Rattle.line_patcher.specs.EntryLines.{packet_command}
use Rattle.settings_edit_laws.specs.Additions.{prefix_for, class_for, route_line, front_lines}
use Rattle.edit_list.specs.NewLists.{named_lists}
use Rattle.settings_edit_laws.specs.Plain.{said, plain_entry, plain_list}
use Rattle.settings_edit_laws.specs.Premises.{HasRoom}
use Rattle.settings_edit_laws.specs.SettingsAfter.{list_with, new_list_text, new_list_texts, AreSettingsAfter}
use Rattle.settings_edit_laws.proofs.Edited.{AreEdited, file_was}
use Rattle.settings_edit_laws.proofs.SessionFacts.{find_in}

module _ (net : Network) (chosen : List Edit) (router : ℕ) where
  few_front : (list : ListText) (kind : ListKind) → length (front_lines net chosen router list kind) ≤ length chosen
  few_front list kinds.Prefix =
      omega (
        arith,
        length-map (filter_map (prefix_for net router list.name) chosen)
            (λ (p : Prefix). route_line list.name (opposite_route_entry (route_entries list) p)),
        few_picked (prefix_for net router list.name) chosen,
      )
  few_front list other =
      omega (
        arith,
        length-map (filter_map (class_for net router list.name) chosen)
            (λ (c : Class). packet_command list.form list.name None (opposite_packet_entry (packet_entries list) c)),
        few_picked (class_for net router list.name) chosen,
      )

  few_with : (list : ListText) → length (list_with net chosen router list).entries ≤ length chosen + length list.entries
  few_with list =
      omega (
        arith,
        length-append (map said (front_lines net chosen router list list.kind)) list.entries,
        length-map
            (front_lines net chosen router list list.kind) (λ (c : Command). said c),
        few_front list list.kind,
      )

  few_new_prefixes : (place : ℕ) → length (new_prefixes chosen place) ≤ length chosen
  few_new_prefixes place = omega (arith, few_picked (if_number place) (filter_map new_route_change chosen), few_picked new_route_change chosen)

  few_new_classes : (place : ℕ) → length (new_classes chosen place) ≤ length chosen
  few_new_classes place = omega (arith, few_picked (if_number place) (filter_map new_packet_change chosen), few_picked new_packet_change chosen)

  few_new : (name : List ℕ) (list : NewList) → length (new_list_text chosen name list).entries ≤ length chosen + 1
  few_new name (lists.Route face) =
      omega (
        arith,
        length-map (map (route_line name) (new_route_entries (new_prefixes chosen face.0))) (λ (c : Command). said c),
        length-map (new_route_entries (new_prefixes chosen face.0)) (route_line name),
        length-append (map (exact_entry false) (new_prefixes chosen face.0)) (record { permit = true; prefix = any; low = 0; high = 32 } ∷ []),
        length-map (new_prefixes chosen face.0) (exact_entry false),
        few_new_prefixes face.0,
      )
  few_new name (lists.Packet face) =
      omega (
        arith,
        length-map (map (packet_command forms.Block name None) (new_packet_entries (new_classes chosen face.0))) (λ (c : Command). said c),
        length-map (new_packet_entries (new_classes chosen face.0)) (packet_command forms.Block name None),
        length-append (map (class_entry false) (new_classes chosen face.0)) (every_packet ∷ []),
        length-map (new_classes chosen face.0) (class_entry false),
        few_new_classes face.0,
      )

  module _ (c d : Config) (after : AreSettingsAfter net chosen router c d) (room : (list : ListText) → Contains c.lists list → length list.entries + length chosen ≤ 16384)
      (new_room : length chosen < 16384) where
    old_room : (list : ListText) → Contains (after.front ++ after.back) list → length list.entries + length chosen ≤ 16384
    old_room list there =
        let r = from_map plain_list c.lists list (subst (λ (l : List ListText). Contains l list) (sym after.old_lists) there) in
        let count : length list.entries ≡ length r.0.entries = ap (λ (l : ListText). length l.entries) (sym r.2) ∙ length-map r.0.entries plain_entry in
        omega (arith, count, room r.0 r.1)

    edited_room : (ls : List ListText) → ((list : ListText) → Contains ls list → Contains (after.front ++ after.back) list) → (list : ListText) →
        Contains (map (list_with net chosen router) ls) list → length list.entries ≤ 16384
    edited_room ls within list there =
        let r = from_map (list_with net chosen router) ls list there in
        let count : length list.entries ≡ length (list_with net chosen router r.0).entries = ap (λ (l : ListText). length l.entries) (sym r.2) in
        omega (arith, count, few_with r.0, old_room r.0 (within r.0 r.1))

    new_list_room : (list : ListText) → Contains (new_list_texts net chosen router) list → length list.entries ≤ 16384
    new_list_room list there =
        let r = from_map (λ (l : NewList × List ℕ). new_list_text chosen l.1 l.0) (named_lists net chosen router) list there in
        let count : length list.entries ≡ length (new_list_text chosen r.0.1 r.0.0).entries = ap (λ (l : ListText). length l.entries) (sym r.2) in
        omega (arith, count, few_new r.0.1 r.0.0, new_room)

    pub list_room : (list : ListText) → Contains d.lists list → length list.entries ≤ 16384
    list_room list there = plain_room (plain_list list) (subst (λ (l : List ListText). Contains l (plain_list list)) after.new_lists (Contains-map plain_list d.lists list there))
        (length-map list.entries plain_entry)
      where
        plain_room : (plain : ListText) → Contains (map (list_with net chosen router) after.front ++ (new_list_texts net chosen router ++ map (list_with net chosen router) after.back))
            plain → length plain.entries ≡ length list.entries → length list.entries ≤ 16384
        plain_room plain in_all count =
            elim (Contains-append_cases (map (list_with net chosen router) after.front) (new_list_texts net chosen router ++ map (list_with net chosen router) after.back) plain in_all) [
              | inl front ↦ omega (arith, count, edited_room after.front (λ l h. Contains-append_left after.front after.back l h) plain front)
              | inr later ↦ elim (Contains-append_cases (new_list_texts net chosen router) (map (list_with net chosen router) after.back) plain later) [
                | inl made ↦ omega (arith, count, new_list_room plain made)
                | inr back ↦ omega (arith, count, edited_room after.back (λ l h. Contains-append_right after.front after.back l h) plain back)
              ]
            ]

module _ (doc : Document) (net : Network) (old new : List Config) (chosen : List Edit) (g : AreEdited doc net old new chosen) (room : HasRoom chosen old) where
  pub clear_entries : NoRefusal (RefusesEntries 16384 new)
  clear_entries r bad =
      let was = file_was doc net old new chosen g bad.place bad.config bad.at_place in
      let found = find_in (λ (list : ListText). nat_lt 16384 (length list.entries)) bad.config.lists bad.list bad.first in
      let few : length bad.list.entries ≤ 16384 = list_room net chosen bad.place was.config bad.config was.after
      (room.old was.config (item_at_place old bad.place was.config was.at)) room.new bad.list found.0 in
      let many : 16384 < length bad.list.entries = ltb-true 16384 (length bad.list.entries) found.1 in
      omega (arith, few, many)
