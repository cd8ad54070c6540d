-- A list without numbers has none with the entries of the edits.
use Rattle.std.proofs.Common.{◌≡◌, ℕ, ◌==◌, Bool, true, false, if◌then◌else◌, Option, Some, None, List, [], ◌∷◌, map, refl, sym, ap, subst, ◌∙◌, ⊎_elim, Contains}
use Rattle.std.specs.Prelude.{slice_get, is_some}
use Rattle.std.specs.List.{flat_map}
use Rattle.std.proofs.lemmas.Bool.{false≢true, true≢false}
use Rattle.std.proofs.lemmas.Option.{none-some, same_Some}
use Rattle.std.proofs.lemmas.List.Elements.{Contains-append_cases}
use Rattle.arc_base.proofs.Items.{Contains-cases, Contains-none, Contains-head, from_filter, from_map, from_piece}
use Rattle.net_model.proofs.Readings.{place_of_item}
use Rattle.net_model.specs.declared.rows.Network.{Network}
use Rattle.ios_lines.specs.declared.line.Lines.{Lines}
use Rattle.ios_lines.specs.Texts.{text_lines}
use Rattle.ios_words.specs.declared.commands.Command.{Command}
use Rattle.ios_config.specs.declared.commands.FileCommand.{FileCommand}
use Rattle.ios_config.specs.declared.settings.Given.{Given}
use Rattle.ios_config.specs.declared.settings.ListText.{ListText}
use Rattle.ios_config.specs.Groups.{Part, is_same, members, part_of}
use Rattle.ios_config.specs.Rising.{FallsAt}
use Rattle.ios_config.specs.Texts.{config_of, entries, entry_number, given, is_entry, is_numbered}
use Rattle.ios_config.proofs.PartLists.{is_same-Decides}
use Rattle.net_build.specs.declared.built.Places.{Places}
use Rattle.edit_list.specs.declared.edit_kinds.Edit.{Edit}
use Rattle.arc_base.specs.Numbered.{of_number}
use Rattle.edit_list.proofs.NewListFacts.{picked_from, picks}
use Rattle.line_patcher.specs.declared.additions.NewNumber.{NewNumber}
use Rattle.line_patcher.specs.Additions.{entries_before, numbers_at}
use Rattle.patch_laws.specs.Written.{written_of}
use Rattle.line_edit_laws.specs.Sites.{Single, Written, chunk_commands, in_block, own_commands, says_other}
use Rattle.patch_laws.specs.EditFiles.{IsEditedFile}
use Rattle.patch_laws.specs.EditSiteLaws.{own_places}
use Rattle.patch_laws.specs.EditSites.{ends_at, entries_at, grow, inner_entries, new_key, put, singles, with_number}
use Rattle.patch_laws.proofs.EditBusy.{number-item}
use Rattle.patch_laws.proofs.EditCounted.{entry-with}
use Rattle.patch_laws.proofs.EditEntries.{table-entry}
use Rattle.patch_laws.proofs.EditLists.{ListGroup, entry-command, first-entry, from-number, list-group}
use Rattle.patch_laws.proofs.EditNumbers.{numbered-alike, rise-in}
use Rattle.patch_laws.proofs.EditRows.{one-command}

-- in a list whose numbers rise, no entry has one where the first has none
none-numbered : (es : List (Given Command)) → ((line : ℕ) → ¬ FallsAt es line) → is_numbered es ≡ false → (k : ℕ) (g : Given Command) → slice_get es k ≡ Some g → entry_number g.value ≡ None
none-numbered es rise is k g at = no-number (entry_number g.value) (numbered-alike es rise k g at ∙ is)
  where
    no-number : (o : Option ℕ) → is_some o ≡ false → o ≡ None
    no-number None none = refl
    no-number (Some n) some = absurd (true≢false some)

module _ (net : Network) (places : List Places) (chosen : List Edit) (router : ℕ) (text : List ℕ) (lines : Lines) (cs : List FileCommand) (f : IsEditedFile net places chosen router text lines cs)
    (list : ListText) (listed : Contains (config_of cs).lists list) (group : ListGroup cs list) (none : list.numbered ≡ false)
    (ends : (c : FileCommand) → Contains (members cs group.part) c → ends_at net places (own_places cs) chosen router c ≡ []) where
  abbrev own : Places
  own = own_places cs

  abbrev q : Part
  q = group.part

  abbrev grown_at : FileCommand → List FileCommand
  grown_at c = grow net places own chosen router text lines (new_key lines) c

  of-part : (c : FileCommand) → Contains (members cs q) c → Contains cs c × (q ≡ part_of c)
  of-part c there = let (among, same) = from_filter (λ (d : FileCommand). is_same q (part_of d)) cs c there in (among, (is_same-Decides q (part_of c)).0 same)

  -- another list with an entry in this part is this one
  same-list : (c : FileCommand) → Contains cs c → q ≡ part_of c → (other : ListText) (there : Contains (config_of cs).lists other) (e : Given Command) → Contains other.entries e →
      c.line ≡ e.line → other.numbered ≡ false
  same-list c among part other there e has line =
      let h = list-group cs other there in
      let d = entry-command cs other h e has in
      let same : d.command ≡ c = one-command (text_lines text) cs d.command c f.stand d.among among (d.line ∙ sym line) in
      let parts : h.part ≡ q = sym d.own ∙ ap part_of same ∙ sym part in
      h.numbered_is ∙ ap (λ (g : List FileCommand). is_numbered (entries g)) (sym h.is ∙ ap (members cs) parts ∙ group.is) ∙ sym group.numbered_is ∙ none

  new-none : (c : FileCommand) → Contains cs c → q ≡ part_of c → (w : Written) → Contains (entries_at net own chosen router c) w → entry_number w.command ≡ None
  new-none c among part w there =
      let (command, at_number, made) = from_map written_of (of_number c.line (entries_before net own chosen router)) w there in
      let t = table-entry net places chosen router text lines cs f (c.line, command) (from-number c.line (entries_before net own chosen router) command at_number) in
      let e = first-entry t.list t.some in
      let has : Contains t.list.entries e.first = subst (λ (es : List (Given Command)). Contains es e.first) (sym e.is) (Contains-head e.first e.more) in
      subst (λ (x : Written). entry_number x.command ≡ None) made (t.order (same-list c among part t.list t.among e.first has (t.number ∙ e.line)))

  own-none : (c : FileCommand) → Contains (members cs q) c → is_entry c.command ≡ true → (ns : List NewNumber) → of_number c.line (numbers_at net own chosen router) ≡ ns →
      entry_number (with_number c.command ns) ≡ None
  own-none c there entry (new ∷ more) is =
      let m = of-part c there in
      let there : Contains (numbers_at net own chosen router) (c.line, new) =
      from-number c.line (numbers_at net own chosen router) new (subst (λ (l : List NewNumber). Contains l new) (sym is) (Contains-head new more)) in
      let n = number-item net places chosen router text lines cs f (c.line, new) there in
      absurd (false≢true (sym (same-list c m.0 m.1 n.list n.among n.entry n.has n.line) ∙ n.numbered))
  own-none c there entry [] is =
      let h = group in
      let has : Contains (entries (members cs q)) (given c) = picks (λ (d : FileCommand). if is_entry d.command then Some (given d) else None) (members cs q) c (given c) there
      (ap (λ (b : Bool). if b then Some (given c) else None) entry) in
      let in_list : Contains list.entries (given c) = subst (λ (es : List (Given Command)). Contains es (given c)) (ap entries h.is ∙ sym h.entries_are) has in
      let (k, at) = place_of_item list.entries (given c) in_list in
      none-numbered list.entries (rise-in (config_of cs).lists list f.rising listed) (ap is_numbered h.entries_are ∙ sym h.numbered_is ∙ none) k (given c) at

  command-none : (c : FileCommand) → Contains (members cs q) c → (v : FileCommand) → Contains (grown_at c) v → is_entry v.command ≡ true → entry_number v.command ≡ None
  command-none c there v in_grown entry = ⊎_elim
      (λ chunks.
      let (t, in_chunks, in_t) = from_piece chunk_commands (map Single (singles net own chosen router c)) v chunks in
      let (w, in_singles, is) = from_map Single (singles net own chosen router c) t in_chunks in
      single w (by-single (c.block == 0) w in_singles) (subst (λ x. Contains (chunk_commands x) v) (sym is) in_t))
      (λ owns. ⊎_elim
      (λ inner. let (w, has, is) = from_map (in_block c.block) (inner_entries net own chosen router c) v inner in ap (λ (x : FileCommand). entry_number x.command) (sym is)
      ∙ new-none c m.0 m.1 w (by-inner (c.block == 0) w has))
      (λ more. ⊎_elim
      (λ itself.
      ap (λ (x : FileCommand). entry_number x.command) (sym itself) ∙
      own-none c there (sym (entry-with c.command (of_number c.line (numbers_at net own chosen router))) ∙ ap (λ (x : FileCommand). is_entry x.command) itself ∙ entry)
      (of_number c.line (numbers_at net own chosen router)) refl)
      (λ later. absurd (Contains-none v (subst (λ (ws : List Written). Contains (map (in_block c.block) ws) v) (ends c there) later)))
      (Contains-cases (says_other c (put net places own chosen router text lines (new_key lines) c).command) v (map (in_block c.block) (ends_at net places own chosen router c)) more))
      (Contains-append_cases (map (in_block c.block) (inner_entries net own chosen router c))
      (says_other c (put net places own chosen router text lines (new_key lines) c).command ∷ map (in_block c.block) (ends_at net places own chosen router c)) v owns))
      (Contains-append_cases (flat_map chunk_commands (map Single (singles net own chosen router c))) (own_commands c (put net places own chosen router text lines (new_key lines) c)) v in_grown)
    where
      m : Contains cs c × (q ≡ part_of c)
      m = of-part c there

      by-single : (b : Bool) (w : Written) → Contains (if b then entries_at net own chosen router c else []) w → Contains (entries_at net own chosen router c) w
      by-single true w has = has
      by-single false w has = absurd (Contains-none w has)

      by-inner : (b : Bool) (w : Written) → Contains (if b then [] else entries_at net own chosen router c) w → Contains (entries_at net own chosen router c) w
      by-inner true w has = absurd (Contains-none w has)
      by-inner false w has = has

      single : (w : Written) → Contains (entries_at net own chosen router c) w → Contains (in_block 0 w ∷ []) v → entry_number v.command ≡ None
      single w has one = ⊎_elim
          (λ same. ap (λ (x : FileCommand). entry_number x.command) (sym same) ∙ new-none c m.0 m.1 w has)
          (λ no. absurd (Contains-none v no))
          (Contains-cases (in_block 0 w) v [] one)

  -- no entry of the grown list has a number
  pub all-none : (e : Given Command) → Contains (entries (flat_map grown_at (members cs q))) e → entry_number e.value ≡ None
  all-none e there =
      let (v, in_grown, picked) = picked_from (λ (d : FileCommand). if is_entry d.command then Some (given d) else None) (flat_map grown_at (members cs q)) e there in
      let (c, in_members, in_c) = from_piece grown_at (members cs q) v in_grown in
      by c v in_members in_c (is_entry v.command) refl picked
    where
      by : (c v : FileCommand) → Contains (members cs q) c → Contains (grown_at c) v → (b : Bool) → is_entry v.command ≡ b → (if b then Some (given v) else None) ≡ Some e → entry_number e.value ≡ None
      by c v in_members in_c true is picked = ap (λ (x : Given Command). entry_number x.value) (sym (same_Some (given v) e picked)) ∙ command-none c in_members v in_c is
      by c v in_members in_c false is picked = absurd (none-some e picked)
