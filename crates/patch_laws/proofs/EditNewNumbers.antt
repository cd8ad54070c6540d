-- The new numbers of a list's commands are those of the network's list that edits put entries into.
use Rattle.std.proofs.Common.{◌≡◌, ◌≢◌, ℕ, true, false, Some, List, [], ◌∷◌, length, sym, ap, ◌∙◌, Contains}
use Rattle.std.proofs.lemmas.Bool.{false≢true}
use Rattle.std.specs.List.{filter_map, flat_map}
use Rattle.net_model.proofs.Readings.{item_at_place}
use Rattle.net_model.specs.declared.rows.Network.{Network}
use Rattle.ios_lines.specs.declared.line.Lines.{Lines}
use Rattle.ios_lines.specs.Texts.{text_lines}
use Rattle.ios_config.specs.declared.commands.FileCommand.{FileCommand}
use Rattle.ios_config.specs.declared.settings.ListForm.{ListForm}
use Rattle.ios_config.specs.declared.settings.ListKind.{ListKind}
use Rattle.ios_config.specs.declared.settings.ListText.{ListText}
use Rattle.ios_config.specs.Groups.{Part, part_of, members}
use Rattle.ios_config.specs.Texts.{config_of}
use Rattle.net_build.specs.declared.built.ListPlace.{ListPlace}
use Rattle.net_build.specs.declared.built.Places.{Places}
use Rattle.net_build.specs.Places.{list_place}
use Rattle.edit_list.specs.declared.edit_kinds.Edit.{Edit}
use Rattle.arc_base.specs.Numbered.{of_number, placed}
use Rattle.line_patcher.specs.declared.additions.NewNumber.{NewNumber}
use Rattle.line_patcher.specs.Additions.{numbers_at}
use Rattle.line_patcher.specs.EntryLines.{edited_lists, edited_packet_lists, edited_route_lists, for_list, new_numbers, packet_list_numbers, route_list_numbers}
use Rattle.settings_edit_laws.proofs.TextKinds.{TextsOfKind, packet_texts, route_texts}
use Rattle.edit_space.proofs.ListKinds.{ListsOfKind}
use Rattle.net_rules.specs.Lists.{is_packet_kind}
use Rattle.patch_laws.proofs.EditKinds.{KindInFile, packets_in, routes_in}
use Rattle.patch_laws.specs.EditFiles.{IsEditedFile}
use Rattle.patch_laws.specs.ListsGrow.{list_begun}
use Rattle.patch_laws.proofs.EditBlocks.{members-of}
use Rattle.patch_laws.proofs.EditGrow.{own}
use Rattle.patch_laws.proofs.EditLists.{entry-command, from-number, list-group, none-in, only-first, only-second}
use Rattle.patch_laws.proofs.EditListsShow.{HasThings, IsThis, none-here, none-of-kind, some-here, this}
use Rattle.patch_laws.proofs.EditBusy.{number-at}
use Rattle.patch_laws.proofs.FileParts.{one-line, rising}

module _ (net : Network) (places : List Places) (chosen : List Edit) (router : ℕ) (text : List ℕ) (lines : Lines) (cs : List FileCommand)
    (f : IsEditedFile net places chosen router text lines cs) where
  abbrev own_at : Places
  own_at = own net places chosen router text lines cs

  -- the new numbers that stand at the line of a command
  abbrev pub new_numbers_at : FileCommand → List NewNumber
  new_numbers_at d = of_number d.line (numbers_at net own_at chosen router)

  abbrev packets_here : KindInFile (packet_texts net chosen f.valid) router cs
  packets_here = packets_in net places chosen router text lines cs f

  abbrev routes_here : KindInFile (route_texts net chosen f.valid) router cs
  routes_here = routes_in net places chosen router text lines cs f

  module _ (q : Part) (first : FileCommand) (rest : List FileCommand) (is : members cs q ≡ first ∷ rest) (x : List ℕ × ListKind × ListForm) (begun : list_begun first.command ≡ Some x) where
    abbrev This : ListText → Type 0
    This list = IsThis net places chosen router text lines cs f q first rest is x begun list

    module _ (d : FileCommand) (there : Contains (members cs q) d) where
      -- a list with a new number for a command of the group is that of the group
      of-this : (list : ListText) (among : Contains (config_of cs).lists list) (word step count : ℕ) (new : NewNumber) →
          Contains (new_numbers (list_place list) word step count) (d.line, new) → This list
      of-this list among word step count new has =
          let n = number-at list word step count (d.line, new) has in
          let g = list-group cs list among in
          let e = entry-command cs list g n.entry (item_at_place list.entries n.place n.entry n.at) in
          let (in_cs, part) = members-of cs q d there in
          let same : e.command ≡ d = one-line 1 cs e.command d (rising (text_lines text) cs f.stand) e.among in_cs (e.line ∙ sym n.line) in
          this net places chosen router text lines cs f q first rest is x begun list among (sym e.own ∙ ap part_of same ∙ part)

      other-list : (list : ListText) (among : Contains (config_of cs).lists list) (word step count : ℕ) → (This list → ⊥) → of_number d.line (new_numbers (list_place list) word step count) ≡ []
      other-list list among word step count never =
          none-in (of_number d.line (new_numbers (list_place list) word step count))
          (λ n in_numbers. never (of-this list among word step count n (from-number d.line (new_numbers (list_place list) word step count) n in_numbers)))

      module _ {K : ListsOfKind net chosen} {T : TextsOfKind net chosen K} (R : KindInFile T router cs) where
        abbrev renumbered : ListPlace → K.Row → List T.Thing → List (ℕ × NewNumber)
        renumbered place row ts = new_numbers place R.word R.step (length ts)

        others : (list : ListText) → Contains (config_of cs).lists list → list.entries ≢ [] → (row : K.Row) (ts : List T.Thing) → (This list → ⊥) →
            of_number d.line (renumbered (list_place list) row ts) ≡ []
        others list among some row ts never = other-list list among R.word R.step (length ts) never

        abbrev pub all_numbers : List NewNumber
        all_numbers = of_number d.line (flat_map (λ (id : ℕ).
            for_list K.lists R.place_of (λ (row : K.Row) (place : ListPlace). renumbered place row (of_number id (filter_map T.change chosen))) id)
            (edited_lists (placed K.lists) K.router T.change chosen router))

        none-numbered : (is_packet_kind x.1 ≡ T.packet → ⊥) → all_numbers ≡ []
        none-numbered = none-of-kind net places chosen router text lines cs f q first rest is x begun R d.line renumbered others

        -- where edits put nothing into the list there is none
        pub no-numbers : filter_map (T.thing_for router x.0) chosen ≡ [] → all_numbers ≡ []
        no-numbers = none-here net places chosen router text lines cs f q first rest is x begun R d.line renumbered others

        -- and else those of the list
        pub some-numbers : (s : HasThings net places chosen router text lines cs f q first rest is x begun R) →
            all_numbers ≡ of_number d.line (new_numbers (list_place (R.list s.row s.has)) R.word R.step (length (of_number s.id (filter_map T.change chosen))))
        some-numbers = some-here net places chosen router text lines cs f q first rest is x begun R d.line renumbered others

      -- a command of a packet list has new numbers of packet lists only
      pub packets-numbered : is_packet_kind x.1 ≡ true → new_numbers_at d ≡ all_numbers packets_here
      packets-numbered kind = only-first d.line (flat_map (packet_list_numbers net own_at chosen) (edited_packet_lists net chosen router))
          (flat_map (route_list_numbers net own_at chosen) (edited_route_lists net chosen router)) (none-numbered routes_here (λ other. false≢true (sym other ∙ kind)))

      -- and one of a route list those of route lists
      pub routes-numbered : is_packet_kind x.1 ≡ false → new_numbers_at d ≡ all_numbers routes_here
      routes-numbered kind = only-second d.line (flat_map (packet_list_numbers net own_at chosen) (edited_packet_lists net chosen router))
          (flat_map (route_list_numbers net own_at chosen) (edited_route_lists net chosen router)) (none-numbered packets_here (λ other. false≢true (sym kind ∙ other)))
