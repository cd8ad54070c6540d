-- The rows that have new numbers: each is read as the old one with its new number.
use Rattle.std.proofs.Common.{◌≡◌, ◌≢◌, ℕ, ◌+◌, ◌*◌, ◌^◌, ◌<◌, ◌≤◌, ◌⊎◌, inl, inr, true, false, Option, Some, List, ◌∷◌, length, map, refl, sym, ap, subst, ◌∙◌, arith, ⊎_elim, Contains, decimal}
use Rattle.std.specs.Prelude.{slice_get}
use Rattle.std.specs.List.{flat_map}
use Rattle.std.proofs.lemmas.Bool.{cases_Bool, false≢true}
use Rattle.std.proofs.lemmas.Option.{slice_get_within}
use Rattle.std.proofs.lemmas.List.Elements.{Contains-append_cases}
use Rattle.arc_base.specs.declared.span.Span.{Span}
use Rattle.arc_base.proofs.Items.{Contains-head, from_piece}
use Rattle.net_model.proofs.Readings.{item_at_place}
use Rattle.net_model.specs.declared.lists.PacketList.{PacketList}
use Rattle.net_model.specs.declared.lists.RouteList.{RouteList}
use Rattle.net_model.specs.declared.rows.Network.{Network}
use Rattle.ios_lines.specs.declared.line.Line.{Line}
use Rattle.ios_lines.specs.declared.line.Lines.{Lines}
use Rattle.ios_lines.specs.Rewritten.{rewritten}
use Rattle.ios_lines.specs.Texts.{part, text_lines}
use Rattle.ios_words.specs.declared.commands.Command.{Command}
use Rattle.ios_words.specs.declared.commands.Command.TheVariants as commands
use Rattle.ios_words.specs.declared.commands.RouteText.{RouteText}
use Rattle.ios_words.specs.declared.kinds.BlockKind.TheVariants as kinds
use Rattle.ios_words.specs.Commands.{ReadBy}
use Rattle.ios_words.specs.Language.{rows}
use Rattle.ios_words.specs.Numbers.{list_kind}
use Rattle.arc_base.specs.PrefixText.{number_of}
use Rattle.ios_config.specs.declared.commands.FileCommand.{FileCommand}
use Rattle.ios_config.specs.declared.settings.ListForm.TheVariants as forms
use Rattle.ios_config.specs.Texts.{entry_number}
use Rattle.net_build.specs.declared.built.ListPlace.{ListPlace}
use Rattle.net_build.specs.declared.built.Places.{Places}
use Rattle.edit_list.specs.declared.edit_kinds.Edit.{Edit}
use Rattle.edit_list.specs.Changes.{list_prefixes, list_classes, packet_list_change, route_list_change}
use Rattle.arc_base.specs.Numbered.{of_number}
use Rattle.line_patcher.specs.declared.additions.NewNumber.{NewNumber}
use Rattle.line_patcher.specs.Additions.{numbers_at}
use Rattle.line_patcher.specs.EntryLines.{new_numbers, edited_packet_lists, edited_route_lists, packet_list_numbers, route_list_numbers}
use Rattle.line_patcher.proofs.Tables.{few_put}
use Rattle.line_edit_laws.specs.Sites.{IsOfBlock, Site}
use Rattle.patch_laws.specs.EditFiles.{HasPacketList, HasRouteList, IsEditedFile}
use Rattle.patch_laws.specs.EditSiteLaws.{own_places}
use Rattle.patch_laws.specs.EditSites.{with_number}
use Rattle.patch_laws.specs.EntrySites.{HasRow, IsRenumbered, IsSequenced}
use Rattle.patch_laws.proofs.EditBusy.{NumberAt, number-at, packets-of, routes-of}
use Rattle.patch_laws.proofs.EditLists.{entry-command, list-group, packets-have, routes-have, from-number}
use Rattle.patch_laws.proofs.EditNumbers.{block-entry-of, lines-unnumbered, number-of, prefix-entry, prefix-entry-of}
use Rattle.patch_laws.proofs.EditRows.{CommandRow, command-row, one-command}
use Rattle.patch_laws.proofs.EntrySites.{entries-renumbered}
use Rattle.patch_laws.proofs.RenumberedPrefixes.{prefixes-renumbered, numbers-are-words}

-- the row has a word for the new number, and is read with it as the command with it
pub record IsNewRow (text : List ℕ) (cs : List FileCommand) (c : FileCommand) (row : Line) (new : NewNumber) : Type 0 where
  pub span : Span
  pub at : slice_get row.words new.word ≡ Some span
  pub small : new.number < 2 ^ 64
  pub stands : (c.block ≡ 0) ⊎ IsOfBlock cs c kinds.Extended
  pub renumbered : (more : List NewNumber) (site : Site) → site.line ≡ rewritten text row span (decimal new.number) → site.command ≡ with_number c.command (new ∷ more) →
      IsRenumbered text cs c row new.word new.number site

module _ (sequences : (ws : List (List ℕ)) (list : List ℕ) (n : ℕ) (entry : RouteText) → ReadBy false ws (rows kinds.Top) (commands.PrefixLine list (Some n) entry) → IsSequenced ws)
    (net : Network) (places : List Places) (chosen : List Edit) (router : ℕ) (text : List ℕ) (lines : Lines) (cs : List FileCommand) (file : IsEditedFile net places chosen router text lines cs)
    (c : FileCommand) (among : Contains cs c) where
  abbrev own : Places
  own = own_places cs

  pub r : CommandRow text lines cs c
  r = command-row text lines cs c file.are file.stand among

  headless : c.block ≢ c.line → r.row.head ≡ false
  headless other = ⊎_elim (λ is. absurd (other (r.own is))) (λ none. none) (cases_Bool r.row.head)

  row-is : c.block ≢ c.line → HasRow text lines c r.row
  row-is other = record { are = file.are; cut = file.cut; place = r.place; at = r.at; says = r.says; number = r.number; block = r.block; head = headless other }

  -- an entry of an extended list's block
  packet-row : (id : ℕ) (row : PacketList) (h : HasPacketList cs row) (new : NewNumber) → NumberAt h.list 0 10 (length (list_classes chosen id)) (c.line, new) → IsNewRow text cs c r.row new
  packet-row id row h new n = by h.form
    where
      has : Contains h.list.entries n.entry
      has = item_at_place h.list.entries n.place n.entry n.at

      blocked : h.list.form ≡ forms.Block → IsNewRow text cs c r.row new
      blocked form =
          let b = block-entry-of (text_lines text) cs file.stand h.list h.among c n.entry among has n.line h.kind form in
          let e = entry-command cs h.list (list-group cs h.list h.among) n.entry has in
          let same : e.command ≡ c = one-command (text_lines text) cs e.command c file.stand e.among among (e.line ∙ sym n.line) in
          let (old, numbered) = number-of (text_lines text) cs file.stand h.list h.among file.rising n.numbered n.entry has in
          let order : b.order ≡ Some old = ap entry_number (sym b.says ∙ sym (ap (λ (d : FileCommand). d.command) same) ∙ e.says) ∙ numbered in
          let says : c.command ≡ commands.Entry (Some old) b.entry = b.says ∙ ap (λ (o : Option ℕ). commands.Entry o b.entry) order in
          let reads : ReadBy true (map (part text) r.row.words) (rows kinds.Extended) (commands.Entry (Some old) b.entry) =
          subst (λ (k : Command). ReadBy true (map (part text) r.row.words) (rows kinds.Extended) k) says (r.read kinds.Extended (headless b.no_head) (inr b.of)) in
          let (span, at) = (numbers-are-words text r.row).0 old b.entry reads in
          let low = slice_get_within h.list.entries n.place n.entry n.at in
          let room = file.room h.list h.among in
          let few : length (list_classes chosen id) ≤ length chosen = few_put packet_list_change chosen id in
          let count : new.number ≡ 10 * (length (list_classes chosen id) + (1 + n.place)) = ap (λ (x : NewNumber). x.number) n.new in
          let word : new.word ≡ 0 = ap (λ (x : NewNumber). x.word) n.new in
          record {
            span = span;
            at = ap (slice_get r.row.words) word ∙ at;
            small = omega arith;
            stands = inr b.of;
            renumbered = λ more site line command.
                subst (λ (w : ℕ). IsRenumbered text cs c r.row w new.number site) (sym word)
                (entries-renumbered text lines cs c r.row old new.number b.entry span site (row-is b.no_head) b.of b.no_head says at (omega arith) ((omega arith), (omega arith)) line
                (command ∙ ap (λ (k : Command). with_number k (new ∷ more)) says));
          }

      by : (h.list.form ≡ forms.Block) ⊎ ((h.list.form ≡ forms.Lines) × (list_kind (number_of h.list.name) ≡ Some true)) → IsNewRow text cs c r.row new
      by (inl form) = blocked form
      by (inr lined) = absurd (false≢true (sym (lines-unnumbered (text_lines text) cs file.stand h.list h.among lined.0) ∙ n.numbered))

  -- an entry of a route list
  route-row : (id : ℕ) (row : RouteList) (h : HasRouteList cs row) (new : NewNumber) → NumberAt h.list 4 5 (length (list_prefixes chosen id)) (c.line, new) → IsNewRow text cs c r.row new
  route-row id row h new n =
      let has = item_at_place h.list.entries n.place n.entry n.at in
      let part_is = prefix-entry-of (text_lines text) cs file.stand h.list h.among c n.entry among has n.line h.form in
      let top : c.block ≡ 0 = file.tops c among h.list.name (inr part_is) in
      let no_head : c.block ≢ c.line = (λ same. let line = r.number in omega arith) in
      let e = entry-command cs h.list (list-group cs h.list h.among) n.entry has in
      let same : e.command ≡ c = one-command (text_lines text) cs e.command c file.stand e.among among (e.line ∙ sym n.line) in
      let (order, entry, is) = prefix-entry c.block h.list.name c.command part_is in
      let (old, numbered) = number-of (text_lines text) cs file.stand h.list h.among file.rising n.numbered n.entry has in
      let ordered : order ≡ Some old = ap entry_number (sym is ∙ sym (ap (λ (d : FileCommand). d.command) same) ∙ e.says) ∙ numbered in
      let says : c.command ≡ commands.PrefixLine h.list.name (Some old) entry = is ∙ ap (λ (o : Option ℕ). commands.PrefixLine h.list.name o entry) ordered in
      let reads : ReadBy false (map (part text) r.row.words) (rows kinds.Top) (commands.PrefixLine h.list.name (Some old) entry) =
      subst (λ (k : Command). ReadBy false (map (part text) r.row.words) (rows kinds.Top) k) says (r.read kinds.Top (headless no_head) (inl (top, refl))) in
      let sequenced = sequences (map (part text) r.row.words) h.list.name old entry reads in
      let (span, at) = (numbers-are-words text r.row).1 sequenced in
      let low = slice_get_within h.list.entries n.place n.entry n.at in
      let room = file.room h.list h.among in
      let few : length (list_prefixes chosen id) ≤ length chosen = few_put route_list_change chosen id in
      let count : new.number ≡ 5 * (length (list_prefixes chosen id) + (1 + n.place)) = ap (λ (x : NewNumber). x.number) n.new in
      let word : new.word ≡ 4 = ap (λ (x : NewNumber). x.word) n.new in
      record {
        span = span;
        at = ap (slice_get r.row.words) word ∙ at;
        small = omega arith;
        stands = inl top;
        renumbered = λ more site line command.
            subst (λ (w : ℕ). IsRenumbered text cs c r.row w new.number site) (sym word)
            (prefixes-renumbered text lines cs c r.row h.list.name old new.number entry span site (row-is no_head) top says sequenced at (omega arith) ((omega arith), (omega arith)) line
            (command ∙ ap (λ (k : Command). with_number k (new ∷ more)) says));
      }

  -- the row of a command that has a new number
  pub new-row : (new : NewNumber) (more : List NewNumber) → of_number c.line (numbers_at net own chosen router) ≡ new ∷ more → IsNewRow text cs c r.row new
  new-row new more are =
      let there : Contains (numbers_at net own chosen router) (c.line, new) =
      from-number c.line (numbers_at net own chosen router) new (subst (λ (l : List NewNumber). Contains l new) (sym are) (Contains-head new more)) in
      ⊎_elim
      (λ packets.
      let (id, in_ids, has) = from_piece (packet_list_numbers net own chosen) (edited_packet_lists net chosen router) (c.line, new) packets in
      let (row, at, h) = packets-of net places chosen router text lines cs file id in_ids in
      let here = subst (λ (l : List (ℕ × NewNumber)). Contains l (c.line, new))
      (packets-have net cs (λ (list : PacketList) (place : ListPlace). new_numbers place 0 10 (length (list_classes chosen id))) id row h at) has in
      packet-row id row h new (number-at h.list 0 10 (length (list_classes chosen id)) (c.line, new) here))
      (λ routes.
      let (id, in_ids, has) = from_piece (route_list_numbers net own chosen) (edited_route_lists net chosen router) (c.line, new) routes in
      let (row, at, h) = routes-of net places chosen router text lines cs file id in_ids in
      let here = subst (λ (l : List (ℕ × NewNumber)). Contains l (c.line, new))
      (routes-have net cs (λ (list : RouteList) (place : ListPlace). new_numbers place 4 5 (length (list_prefixes chosen id))) id row h at) has in
      route-row id row h new (number-at h.list 4 5 (length (list_prefixes chosen id)) (c.line, new) here))
      (Contains-append_cases (flat_map (packet_list_numbers net own chosen) (edited_packet_lists net chosen router))
      (flat_map (route_list_numbers net own chosen) (edited_route_lists net chosen router)) (c.line, new) there)
