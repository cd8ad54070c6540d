-- What edits put at the commands of a file are good sites.
use Rattle.std.proofs.Common.{◌≡◌, ◌≢◌, ℕ, suc, ◌+◌, ◌-◌, ◌<◌, ◌≤◌, ◌==◌, ◌&&◌, ◌⊎◌, inl, inr, Bool, true, false, if◌then◌else◌, Option, Some, List, [], ◌∷◌, ◌++◌, length, map, refl, sym}
use Rattle.std.proofs.Common.{ap, subst, ◌∙◌, arith, ⊎_elim, Contains, decimal, MatchBool}
use Rattle.std.specs.Prelude.{slice_get, option_map}
use Rattle.std.specs.Option.{option_map_or}
use Rattle.std.specs.List.{AllByRecursion, flat_map}
use Rattle.std.proofs.lemmas.Bool.{eqb-true, eqb-false, ne_eqb, false≢true}
use Rattle.std.proofs.lemmas.Option.{same_Some, slice_get-map, slice_get_within}
use Rattle.std.proofs.lemmas.List.Elements.{Contains-append_cases}
use Rattle.arc_base.specs.declared.span.Span.{Span}
use Rattle.arc_base.proofs.Zips.{AllByRecursion-append}
use Rattle.arc_base.proofs.Items.{Contains-cases, Contains-head, Contains-tail, from_map}
use Rattle.net_model.specs.declared.rows.Network.{Network}
use Rattle.ios_lines.specs.declared.line.Line.{Line}
use Rattle.ios_lines.specs.declared.line.Lines.{Lines}
use Rattle.ios_lines.specs.Rewritten.{rewritten}
use Rattle.ios_lines.specs.Texts.{part, text_lines}
use Rattle.ios_words.specs.declared.commands.Command.{Command}
use Rattle.ios_words.specs.declared.commands.Command.TheVariants as commands
use Rattle.ios_words.specs.declared.commands.RouteText.{RouteText}
use Rattle.ios_words.specs.declared.kinds.BlockKind.TheVariants as kinds
use Rattle.ios_words.specs.Commands.{ReadBy}
use Rattle.ios_words.specs.Language.{rows}
use Rattle.ios_config.specs.declared.commands.FileCommand.{FileCommand}
use Rattle.ios_config.specs.declared.settings.Given.{Given}
use Rattle.ios_config.specs.Commands.{opened_by}
use Rattle.ios_config.specs.Groups.{Block, is_same, part_in, part_of}
use Rattle.ios_config.specs.LineLists.{marks_in}
use Rattle.ios_config.specs.ProcessLines.{HasProcess}
use Rattle.ios_config.specs.Texts.{is_entry}
use Rattle.ios_config.proofs.HeadsFirst.{block-low}
use Rattle.ios_config.proofs.LinesBefore.{Rising, rising-from, rising-low}
use Rattle.net_build.specs.declared.built.Places.{Places}
use Rattle.edit_list.specs.declared.edit_kinds.Edit.{Edit}
use Rattle.arc_base.specs.Numbered.{of_number}
use Rattle.line_patcher.specs.declared.additions.NewNumber.{NewNumber}
use Rattle.line_patcher.specs.Additions.{entries_before, lines_after, numbers_at}
use Rattle.line_patcher.specs.Patches.{line_end, row_bytes}
use Rattle.edit_list.specs.NewLists.{named_lists}
use Rattle.patch_laws.specs.Written.{written_of}
use Rattle.line_edit_laws.specs.Sites.{AreChunks, AreGood, Chunk, IsEntryOf, IsGood, IsInnerOf, IsOfBlock, IsRewrittenFor, IsSingleLine, Single, Site, Written, chunk_commands, in_block}
use Rattle.line_edit_laws.specs.Sites.{new_commands, own_commands, says_other, site_commands}
use Rattle.patch_laws.specs.EditFiles.{IsEditedFile}
use Rattle.patch_laws.specs.EditSiteLaws.{own_places}
use Rattle.patch_laws.specs.EditSites.{entries_at, new_key, put, singles, with_number}
use Rattle.patch_laws.specs.EntrySites.{IsSequenced}
use Rattle.patch_laws.specs.Fits.{ends_with_return, hung_line, row_line, without_last}
use Rattle.patch_laws.specs.NewListSites.{AreClear, list_chunks}
use Rattle.patch_laws.proofs.EditBusy.{process-here, process-line}
use Rattle.patch_laws.proofs.EditEnds.{after-inner}
use Rattle.patch_laws.proofs.EditEntries.{TableEntry, all-from, table-entry}
use Rattle.patch_laws.proofs.EditLists.{entry-command, first-entry, from-number, list-group}
use Rattle.patch_laws.proofs.EditNumbers.{block-entry-of, line-entry-of, prefix-entry-of}
use Rattle.patch_laws.proofs.EditRenumber.{new-row, r}
use Rattle.patch_laws.proofs.EditReturns.{EndsBlock, ends-block, not-both, returned-line-good}
use Rattle.patch_laws.proofs.EditRows.{CommandRow, one-command}
use Rattle.patch_laws.proofs.NewListChunks.{chunks-append, new-chunks-good, single-chunks}
use Rattle.patch_laws.proofs.PatchedLines.{parted_by, returned-line}

-- a command of another block is not of this one's part
not-part : (j block : ℕ) (command : Command) → block ≢ j → is_same (Block j) (part_in block command) ≡ false
not-part j block (commands.ListLine name entry) other = refl
not-part j block (commands.PrefixLine name order entry) other = refl
not-part j block _ other = ne_eqb j block (λ same. other (sym same))

-- an entry heads no block
entry-opens : (command : Command) → is_entry command ≡ true → opened_by command ≡ kinds.Inert
entry-opens (commands.Entry order entry) is = refl
entry-opens (commands.ListLine name entry) is = refl
entry-opens (commands.PrefixLine name order entry) is = refl
entry-opens _ is = absurd (false≢true is)

module _ (sequences : (ws : List (List ℕ)) (list : List ℕ) (n : ℕ) (entry : RouteText) → ReadBy false ws (rows kinds.Top) (commands.PrefixLine list (Some n) entry) → IsSequenced ws)
    (net : Network) (places : List Places) (chosen : List Edit) (router : ℕ) (text : List ℕ) (lines : Lines) (cs : List FileCommand) (file : IsEditedFile net places chosen router text lines cs) where
  abbrev own : Places
  own = own_places cs

  abbrev site : FileCommand → Site
  site c = put net places own chosen router text lines (new_key lines) c

  abbrev numbers : List (ℕ × NewNumber)
  numbers = numbers_at net own chosen router

  abbrev after : List (ℕ × List ℕ)
  after = lines_after net places own chosen router

  abbrev end : List ℕ
  end = line_end text lines.rows

  -- the list that has its first entry at the command
  record FirstOf (c : FileCommand) (w : Written) : Type 0 where
    command : Command
    is : written_of command ≡ w
    table : TableEntry cs (c.line, command)
    first : Given Command
    among : Contains table.list.entries first
    line : c.line ≡ first.line
    entry : is_entry c.command ≡ true

  first-of : (c : FileCommand) → Contains cs c → (w : Written) → Contains (entries_at net own chosen router c) w → FirstOf c w
  first-of c among w there =
      let (command, at_number, is) = from_map written_of (of_number c.line (entries_before net own chosen router)) w there in
      let t = table-entry net places chosen router text lines cs file (c.line, command) (from-number c.line (entries_before net own chosen router) command at_number) in
      let f = first-entry t.list t.some in
      let has : Contains t.list.entries f.first = subst (λ (es : List (Given Command)). Contains es f.first) (sym f.is) (Contains-head f.first f.more) in
      let e = entry-command cs t.list (list-group cs t.list t.among) f.first has in
      let line : c.line ≡ f.first.line = t.number ∙ f.line in
      let same : e.command ≡ c = one-command (text_lines text) cs e.command c file.stand e.among among (e.line ∙ sym line) in
      record { command = command; is = is; table = t; first = f.first; among = has; line = line; entry = ap (λ (d : FileCommand). is_entry d.command) (sym same) ∙ e.entry }

  -- at a command of no block the entries are single lines, and else lines of its block
  single-there : (c : FileCommand) → Contains cs c → c.block ≡ 0 → (w : Written) → Contains (entries_at net own chosen router c) w → IsSingleLine w
  single-there c among top w there =
      let f = first-of c among w there in
      ⊎_elim
      (λ block. let b = block-entry-of (text_lines text) cs file.stand f.table.list f.table.among c f.first among f.among f.line block.0 block.1 in absurd (b.of.some top))
      (λ single. subst IsSingleLine f.is single.1)
      f.table.stands

  inner-there : (c : FileCommand) → Contains cs c → c.block ≢ 0 → (w : Written) → Contains (entries_at net own chosen router c) w → IsEntryOf cs c w
  inner-there c among some w there =
      let f = first-of c among w there in
      ⊎_elim
      (λ block.
      let b = block-entry-of (text_lines text) cs file.stand f.table.list f.table.among c f.first among f.among f.line block.0 block.1 in
      let entry : IsEntryOf cs c (written_of f.command) = record {
        is_inner = record {
          within = kinds.Extended;
          head = b.of.head;
          among = b.of.among;
          number = b.of.number;
          some = b.of.some;
          opens = b.of.opens;
          known = b.of.known;
          inner = block.2.inner;
          reads = block.2.reads;
          part = block.2.part c.block;
        };
        no_head = b.no_head;
      } in
      subst (IsEntryOf cs c) f.is entry)
      (λ single. absurd (some (⊎_elim
      (λ form. file.tops c among f.table.list.name (inl (line-entry-of (text_lines text) cs file.stand f.table.list f.table.among c f.first among f.among f.line form)))
      (λ form. file.tops c among f.table.list.name (inr (prefix-entry-of (text_lines text) cs file.stand f.table.list f.table.among c f.first among f.among f.line form)))
      single.0)))
      f.table.stands

  -- the entries of the site
  good-entries : (c : FileCommand) → Contains cs c → AllByRecursion (IsEntryOf cs c) (site c).entries
  good-entries c among = by (c.block == 0) refl
    where
      by : (b : Bool) → (c.block == 0) ≡ b → AllByRecursion (IsEntryOf cs c) (if b then [] else entries_at net own chosen router c)
      by true e = tt
      by false e = all-from (IsEntryOf cs c) (entries_at net own chosen router c) (inner-there c among (eqb-false c.block 0 e))

  -- the head of the process has no entries
  abbrev here : HasProcess cs file.process
  here = process-here net places chosen router text lines cs file

  none-at-process : (c : FileCommand) → Contains cs c → own.process ≡ c.line → entries_at net own chosen router c ≡ []
  none-at-process c among line = by (entries_at net own chosen router c) refl
    where
      by : (ws : List Written) → entries_at net own chosen router c ≡ ws → ws ≡ []
      by [] is = refl
      by (w ∷ ws) is =
          let f = first-of c among w (subst (λ (l : List Written). Contains l w) (sym is) (Contains-head w ws)) in
          let same : here.head ≡ c = one-command (text_lines text) cs here.head c file.stand here.block.among among (sym (process-line net places chosen router text lines cs file) ∙ line) in
          absurd (here.block.known (sym here.block.opens ∙ ap (λ (d : FileCommand). opened_by d.command) same ∙ entry-opens c.command f.entry))

  at-process : (c : FileCommand) → Contains cs c → own.process ≡ c.line → c.block ≡ c.line
  at-process c among line =
      let same : here.head ≡ c = one-command (text_lines text) cs here.head c file.stand here.block.among among (sym (process-line net places chosen router text lines cs file) ∙ line) in
      ap (λ (d : FileCommand). d.block) (sym same) ∙ here.block.own ∙ ap (λ (d : FileCommand). d.line) same

  -- blocks of commands are lower than those of new lists
  low-block : (c : FileCommand) → Contains cs c → c.block < new_key lines
  low-block c among =
      let row = r sequences net places chosen router text lines cs file c among in
      let within = slice_get_within lines.rows row.place row.row row.at in
      let low = block-low (text_lines text) cs c file.stand among in
      let number = row.number in
      omega arith

  low-line : (c : FileCommand) → Contains cs c → c.line < new_key lines
  low-line c among =
      let row = r sequences net places chosen router text lines cs file c among in
      let within = slice_get_within lines.rows row.place row.row row.at in
      let number = row.number in
      omega arith

  own-clear : (j : ℕ) (c : FileCommand) → c.block ≢ j → AllByRecursion (λ (v : FileCommand). is_same (Block j) (part_of v) ≡ false) (own_commands c (site c))
  own-clear j c other = all-from (λ (v : FileCommand). is_same (Block j) (part_of v) ≡ false) (own_commands c (site c)) (λ v there. ⊎_elim
      (λ entries. let (w, has, is) = from_map (in_block c.block) (site c).entries v entries in subst (λ (x : FileCommand). is_same (Block j) (part_of x) ≡ false) is
      (not-part j c.block w.command other))
      (λ more. ⊎_elim
      (λ itself. subst (λ (x : FileCommand). is_same (Block j) (part_of x) ≡ false) itself (not-part j c.block (site c).command other))
      (λ ends. let (w, has, is) = from_map (in_block c.block) (site c).after v ends in subst (λ (x : FileCommand). is_same (Block j) (part_of x) ≡ false) is (not-part j c.block w.command other))
      (Contains-cases (says_other c (site c).command) v (map (in_block c.block) (site c).after) more))
      (Contains-append_cases (map (in_block c.block) (site c).entries) (says_other c (site c).command ∷ map (in_block c.block) (site c).after) v there))

  single-clear : (j : ℕ) (ws : List Written) → 0 ≢ j → AllByRecursion (λ (v : FileCommand). is_same (Block j) (part_of v) ≡ false) (flat_map chunk_commands (map Single ws))
  single-clear j [] other = tt
  single-clear j (w ∷ ws) other = (not-part j 0 w.command other, single-clear j ws other)

  abbrev IsClear : ℕ → FileCommand → Type 0
  IsClear j v = is_same (Block j) (part_of v) ≡ false

  -- commands after the head of the process
  later-clear : (ds : List FileCommand) → ((d : FileCommand) → Contains ds d → Contains cs d × (own.process ≢ d.line)) → AreClear (new_key lines) (new_commands site ds)
  later-clear [] each j low = tt
  later-clear (d ∷ ds) each j low =
      let (among, other) = each d (Contains-head d ds) in
      let block = low-block d among in
      AllByRecursion-append (IsClear j) (site_commands d (site d)) (new_commands site ds)
      (AllByRecursion-append (IsClear j) (flat_map chunk_commands (site d).tops) (own_commands d (site d)) (tops-clear (own.process == d.line) (ne_eqb own.process d.line other))
      (own-clear j d (λ same. omega arith)))
      (later-clear ds (λ x there. each x (Contains-tail d x ds there)) j low)
    where
      tops-clear : (b : Bool) → b ≡ false → AllByRecursion (IsClear j)
          (flat_map chunk_commands ((if b then list_chunks chosen (new_key lines) (named_lists net chosen router) else []) ++ map Single (singles net own chosen router d)))
      tops-clear true e = absurd (false≢true (sym e))
      tops-clear false e = single-clear j (singles net own chosen router d) (λ same. omega arith)

  -- the chunks before a command
  good-tops : (c : FileCommand) (ds : List FileCommand) → Contains cs c → ((d : FileCommand) → Contains ds d → Contains cs d × (c.line < d.line)) →
      ((site c).tops ≡ []) ⊎ (((site c).entries ≡ []) × ((c.block ≡ 0) ⊎ (c.block ≡ c.line)) × AreChunks c.line (own_commands c (site c) ++ new_commands site ds) (site c).tops)
  good-tops c ds among each = by (own.process == c.line) refl (c.block == 0) refl
    where
      later : List FileCommand
      later = own_commands c (site c) ++ new_commands site ds

      new : List Chunk
      new = list_chunks chosen (new_key lines) (named_lists net chosen router)

      at : List Written
      at = entries_at net own chosen router c

      by : (p : Bool) → (own.process == c.line) ≡ p → (b : Bool) → (c.block == 0) ≡ b →
          (((if p then new else []) ++ map Single (if b then at else []) ≡ []) ⊎
          (((if b then [] else at) ≡ []) × ((c.block ≡ 0) ⊎ (c.block ≡ c.line)) × AreChunks c.line later ((if p then new else []) ++ map Single (if b then at else []))))
      by true is true top =
          let row = r sequences net places chosen router text lines cs file c among in
          let number = row.number in
          let own_block = at-process c among (eqb-true own.process c.line is) in
          let none = eqb-true c.block 0 top in
          absurd (omega arith)
      by true is false inside =
          let line = eqb-true own.process c.line is in
          inr (
            none-at-process c among line,
            inr (at-process c among line),
            chunks-append c.line later new []
                (new-chunks-good chosen c.line (new_key lines) later (named_lists net chosen router) file.names (low-line c among) (λ j low.
                let block = low-block c among in
                AllByRecursion-append (IsClear j) (own_commands c (site c)) (new_commands site ds) (own-clear j c (λ same. omega arith))
                (later-clear ds (λ d there. let (has, over) = each d there in (has, λ same. omega arith)) j low))) tt,
          )
      by false is true top = inr (refl, inl (eqb-true c.block 0 top), single-chunks c.line later at (all-from IsSingleLine at (single-there c among (eqb-true c.block 0 top))))
      by false is false inside = inl refl

  -- the line of the command itself
  good-line : (c : FileCommand) (among : Contains cs c) →
      (((site c).line ≡ part text (r sequences net places chosen router text lines cs file c among).row.span) × ((site c).command ≡ c.command)) ⊎ IsRewrittenFor cs c
      (part text (r sequences net places chosen router text lines cs file c among).row.span) (site c)
  good-line c among = by (of_number c.line numbers) refl
    where
      row : CommandRow text lines cs c
      row = r sequences net places chosen router text lines cs file c among

      line-is : (ns : List NewNumber) → of_number c.line numbers ≡ ns → (site c).line ≡ row_line text end row.row ns (of_number c.line after)
      line-is ns is =
          let place : c.line - 1 ≡ row.place = (let number = row.number in omega arith) in
          ap (λ (o : Option Line). option_map_or (λ (x : Line). row_line text end x (of_number c.line numbers) (of_number c.line after)) o []) (ap (slice_get lines.rows) place ∙ row.at) ∙
          ap (λ (l : List NewNumber). row_line text end row.row l (of_number c.line after)) is

      ends : (x : List ℕ) (xs : List (List ℕ)) → of_number c.line after ≡ x ∷ xs → EndsBlock cs c
      ends x xs is = ends-block net places chosen router text lines cs file c among x (subst (λ (l : List (List ℕ)). Contains l x) (sym is) (Contains-head x xs))

      -- a line with no new number: if it gains an end, a carriage return at its end is a part of that
      kept : (b : Bool) (ls : List (List ℕ)) → of_number c.line after ≡ ls → (site c).line ≡ (if b then hung_line end (part text row.row.span) ls else part text row.row.span) →
          (site c).command ≡ c.command →
          (((site c).line ≡ part text row.row.span) × ((site c).command ≡ c.command)) ⊎ IsRewrittenFor cs c (part text row.row.span) (site c)
      kept false ls is line_is says = inl (line_is, says)
      kept true [] is line_is says = inl (line_is, says)
      kept true (x ∷ xs) is line_is says = parted_so (ends_with_return (part text row.row.span)) (length end == 1) refl line_is
        where
          parted_so : (r one : Bool) → ends_with_return (part text row.row.span) ≡ r →
              (site c).line ≡ (parted_by (r && one) end (part text row.row.span)).line →
              (((site c).line ≡ part text row.row.span) × ((site c).command ≡ c.command)) ⊎ IsRewrittenFor cs c (part text row.row.span) (site c)
          parted_so true true e now =
              inr (returned-line-good text lines cs c among file.are file.stand row (ends x xs is) (without_last (part text row.row.span)) (returned-line (part text row.row.span) e) (site c) now says)
          parted_so true false e now = inl (now, says)
          parted_so false one e now = inl (now, says)

      -- one with a new number gains none
      whole : (line : List ℕ) → (c.block ≡ 0) ⊎ IsOfBlock cs c kinds.Extended → (b : Bool) (ls : List (List ℕ)) → of_number c.line after ≡ ls → (if b then hung_line end line ls else line) ≡ line
      whole line stands false ls is = refl
      whole line stands true [] is = refl
      whole line stands true (x ∷ xs) is = absurd (not-both (text_lines text) cs c file.stand stands (ends x xs is))

      by : (ns : List NewNumber) → of_number c.line numbers ≡ ns → (((site c).line ≡ part text row.row.span) × ((site c).command ≡ c.command)) ⊎ IsRewrittenFor cs c (part text row.row.span) (site c)
      by [] is = kept (row.row.end == 0) (of_number c.line after) refl (line-is [] is) (ap (with_number c.command) is)
      by (new ∷ more) is =
          let n = new-row sequences net places chosen router text lines cs file c among new more is in
          let bytes : row_bytes text row.row (new ∷ more) ≡ rewritten text row.row n.span (decimal new.number) =
          ap (λ (o : Option Span). option_map_or (λ (span : Span). rewritten text row.row span (decimal new.number)) o (part text row.row.span)) n.at in
          let hung : row_line text end row.row (new ∷ more) (of_number c.line after) ≡ row_bytes text row.row (new ∷ more) =
          whole (row_bytes text row.row (new ∷ more)) n.stands (row.row.end == 0) (of_number c.line after) refl in
          inr (n.renumbered more (site c) (line-is (new ∷ more) is ∙ hung ∙ bytes) (ap (with_number c.command) is)).other

  pub good-at : (c : FileCommand) (among : Contains cs c) (ds : List FileCommand) → ((d : FileCommand) → Contains ds d → Contains cs d × (c.line < d.line)) →
      IsGood cs c (part text (r sequences net places chosen router text lines cs file c among).row.span) (site c) (new_commands site ds)
  good-at c among ds each = record {
    after = all-from (IsInnerOf cs c) (site c).after (after-inner net places chosen router text lines cs file c among);
    entries = good-entries c among;
    tops = good-tops c ds among each;
    written = good-line c among;
  }

  -- the lines from a number on
  good-from : (n : ℕ) (ls : List (List ℕ)) (ds : List FileCommand) → ((k : ℕ) (l : List ℕ) → slice_get ls k ≡ Some l → slice_get (text_lines text) (n + k) ≡ Some l) →
      Rising (n + 1) ds → ((d : FileCommand) → Contains ds d → Contains cs d) →
      AreGood cs site (n + 1) ls ds
  good-from n [] ds shown up all = tt
  good-from n (l ∷ ls) [] shown up all = tt
  good-from n (l ∷ ls) (c ∷ ds) shown up all = by (c.line == n + 1) refl
      (λ es. good-from (n + 1) ls es (λ k x at. let next : n + suc k ≡ n + 1 + k = omega arith in subst (λ (j : ℕ). slice_get (text_lines text) j ≡ Some x) next (shown (suc k) x at)))
    where
      by : (b : Bool) → (c.line == n + 1) ≡ b → ((es : List FileCommand) → Rising (n + 1 + 1) es → ((d : FileCommand) → Contains es d → Contains cs d) → AreGood cs site (n + 1 + 1) ls es) →
          MatchBool b (IsGood cs c l (site c) (new_commands site ds) × AreGood cs site (n + 1 + 1) ls ds) (AreGood cs site (n + 1 + 1) ls (c ∷ ds))
      by true e deeper =
          let line : c.line ≡ n + 1 = eqb-true c.line (n + 1) e in
          let among : Contains cs c = all c (Contains-head c ds) in
          let row = r sequences net places chosen router text lines cs file c among in
          let here : slice_get (text_lines text) row.place ≡ Some (part text row.row.span) =
          ap (λ (xs : List (List ℕ)). slice_get xs row.place) (sym file.are.texts) ∙ slice_get-map (λ (x : Line). part text x.span) lines.rows row.place
          ∙ ap (option_map (λ (x : Line). part text x.span)) row.at in
          let place : n + 0 ≡ row.place = (let number = row.number in omega arith) in
          let same : part text row.row.span ≡ l = same_Some (part text row.row.span) l (sym here ∙ ap (slice_get (text_lines text)) (sym place) ∙ shown 0 l refl) in (
            subst (λ (x : List ℕ). IsGood cs c x (site c) (new_commands site ds)) same
                (good-at c among ds (λ d there. (all d (Contains-tail c d ds there), (let over = rising-low (c.line + 1) ds d up.1 there in omega arith)))),
            deeper ds (subst (λ (j : ℕ). Rising (j + 1) ds) line up.1) (λ d there. all d (Contains-tail c d ds there)),
          )
      by false e deeper =
          let other : c.line ≢ n + 1 = eqb-false c.line (n + 1) e in
          let low : n + 1 ≤ c.line = up.0 in
          deeper (c ∷ ds) ((omega arith), up.1) all

  pub sites-good : AreGood cs site 1 (text_lines text) cs
  sites-good = good-from 0 (text_lines text) cs (λ k l at. let same : k ≡ 0 + k = omega arith in subst (λ (j : ℕ). slice_get (text_lines text) j ≡ Some l) same at)
      (rising-from (marks_in (text_lines text)) 1 (marks_in (text_lines text)) cs file.stand.reads) (λ d there. there)
