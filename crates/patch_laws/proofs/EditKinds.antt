-- How the lists of a kind stand in the file of a router, and what edits put there: packet lists, and route lists.
use Rattle.std.proofs.Common.{◌≡◌, ◌≢◌, ℕ, ◌+◌, ◌*◌, ◌<◌, inl, inr, true, Option, Some, List, [], map, length, sym, ap, ◌∙◌, arith, ⊎_elim, Contains}
use Rattle.std.specs.Prelude.{slice_get}
use Rattle.std.specs.List.{enumerate_from, filter_map}
use Rattle.std.proofs.lemmas.Bool.{false≢true}
use Rattle.arc_base.specs.Numbered.{of_number}
use Rattle.net_model.specs.declared.rows.Network.{Network}
use Rattle.ios_lines.specs.declared.line.Lines.{Lines}
use Rattle.ios_lines.specs.Texts.{text_lines}
use Rattle.ios_words.specs.declared.commands.Command.{Command}
use Rattle.ios_config.specs.declared.commands.FileCommand.{FileCommand}
use Rattle.ios_config.specs.declared.settings.ListText.{ListText}
use Rattle.ios_config.specs.Texts.{config_of}
use Rattle.net_rules.specs.Lists.{is_packet_kind, packet_entries, route_entries}
use Rattle.net_build.specs.declared.built.ListPlace.{ListPlace}
use Rattle.net_build.specs.declared.built.Places.{Places}
use Rattle.net_build.specs.Places.{list_place, places_of}
use Rattle.edit_list.specs.declared.edit_kinds.Edit.{Edit}
use Rattle.edit_space.proofs.ListKinds.{ListsOfKind}
use Rattle.line_patcher.specs.EntryLines.{class_command, packet_place, prefix_command, route_place}
use Rattle.settings_edit_laws.specs.Plain.{said}
use Rattle.settings_edit_laws.proofs.ListRows.{entries_of}
use Rattle.settings_edit_laws.proofs.TextKinds.{TextsOfKind, packet_texts, route_texts}
use Rattle.line_edit_laws.specs.Sites.{in_block}
use Rattle.patch_laws.specs.EditFiles.{HasPacketList, HasRouteList, IsEditedFile}
use Rattle.patch_laws.specs.Written.{written_of}
use Rattle.patch_laws.proofs.EditCounted.{Counts, classes-count, numbers, prefixes-count}
use Rattle.patch_laws.proofs.EditFrontLines.{classes-written, routes-written}
use Rattle.patch_laws.proofs.EditListGroups.{written}
use Rattle.patch_laws.proofs.EditNumbers.{lines-unnumbered}

pub record KindInFile {net : Network} {chosen : List Edit} {K : ListsOfKind net chosen} (T : TextsOfKind net chosen K) (router : ℕ) (cs : List FileCommand) : Type 1 where
  -- where the file has the list of a row
  pub place_of : K.Row → Option ListPlace
  pub Has : K.Row → Type 0
  pub has : (id : ℕ) (row : K.Row) → slice_get K.lists id ≡ Some row → K.router row ≡ router → of_number id (filter_map T.change chosen) ≢ [] → Has row
  pub list : (row : K.Row) → Has row → ListText
  pub among : (row : K.Row) (h : Has row) → Contains (config_of cs).lists (list row h)
  pub place : (row : K.Row) (h : Has row) → place_of row ≡ Some (list_place (list row h))
  pub name : (row : K.Row) (h : Has row) → (list row h).name ≡ K.name row
  pub kind : (row : K.Row) (h : Has row) → is_packet_kind (list row h).kind ≡ T.packet
  pub some : (row : K.Row) (h : Has row) → (list row h).entries ≢ []
  -- its new entries, without their numbers
  pub command : ListPlace → K.Row → ℕ × T.Thing → Command
  pub written_is : (row : K.Row) (h : Has row) (l : ListText) (things : List T.Thing) → (list row h).name ≡ l.name → (list row h).form ≡ l.form → entries_of T (list row h) ≡ entries_of T l →
      written (map written_of (map (command (list_place (list row h)) row) (enumerate_from 1 things))) ≡ map said (map (λ (x : T.Thing). T.line l (T.opposite (entries_of T l) x)) things)
  -- its new numbers, and those of its new entries
  pub word : ℕ
  pub step : ℕ
  pub rises : (k : ℕ) → step * k < step * (k + 1)
  pub counts : (row : K.Row) (h : Has row) (b : ℕ) (things : List T.Thing) → (list row h).numbered ≡ true →
      (let counted : List (Option ℕ) = numbers (map (in_block b) (map written_of (map (command (list_place (list row h)) row) (enumerate_from 1 things)))) in
      Counts step 1 counted × (length counted ≡ length things))

module _ (net : Network) (places : List Places) (chosen : List Edit) (router : ℕ) (text : List ℕ) (lines : Lines) (cs : List FileCommand)
    (f : IsEditedFile net places chosen router text lines cs) where
  abbrev pub packets_in : KindInFile (packet_texts net chosen f.valid) router cs
  packets_in = record {
    place_of = λ row. packet_place (places_of (config_of cs)) row.name;
    Has = HasPacketList cs;
    has = f.packets;
    list = λ row h. h.list;
    among = λ row h. h.among;
    place = λ row h. h.place;
    name = λ row h. h.name;
    kind = λ row h. ap is_packet_kind h.kind;
    some = λ row h. h.some;
    command = class_command;
    written_is = λ row h l things named form same.
        classes-written (list_place h.list) row l.form l.name (packet_entries l) things (⊎_elim (λ block. inl (sym form ∙ block)) (λ rows. inr (sym form ∙ rows.0)) h.form) form
        (sym h.name ∙ named) (h.entries ∙ same);
    word = 0;
    step = 10;
    rises = λ k. omega arith;
    counts = λ row h b things numbered. classes-count b (list_place h.list) row things
        (⊎_elim (λ block. block) (λ rows. absurd (false≢true (sym (lines-unnumbered (text_lines text) cs f.stand h.list h.among rows.0) ∙ numbered))) h.form) numbered;
  }

  abbrev pub routes_in : KindInFile (route_texts net chosen f.valid) router cs
  routes_in = record {
    place_of = λ row. route_place (places_of (config_of cs)) row.name;
    Has = HasRouteList cs;
    has = f.routes;
    list = λ row h. h.list;
    among = λ row h. h.among;
    place = λ row h. h.place;
    name = λ row h. h.name;
    kind = λ row h. ap is_packet_kind h.kind;
    some = λ row h. h.some;
    command = prefix_command;
    written_is = λ row h l things named form same. routes-written l.name (route_entries l) (list_place h.list) row 1 things (sym h.name ∙ named) (h.entries ∙ same);
    word = 4;
    step = 5;
    rises = λ k. omega arith;
    counts = λ row h b things numbered. prefixes-count b 1 (list_place h.list) row things numbered;
  }
