-- All that edits put into a file may stand in lines, and rows with new numbers are lines.
use Rattle.std.proofs.Common.{◌≡◌, ℕ, suc, ◌+◌, ◌^◌, ◌<◌, ◌==◌, ◌⊎◌, inl, inr, true, false, Option, Some, List, [], ◌∷◌, ◌++◌, length, refl, sym, ap, subst, ◌∙◌, arith, ⊎_elim, Contains, decimal}
use Rattle.std.specs.Prelude.{slice_get, slice_range}
use Rattle.std.specs.Option.{option_map_or}
use Rattle.std.specs.List.{AllByRecursion, enumerate_from}
use Rattle.std.proofs.lemmas.Bool.{eqb-true, eqb-false}
use Rattle.std.proofs.lemmas.Fmt.{decimal_nonempty}
use Rattle.std.proofs.lemmas.Option.{same_Some}
use Rattle.std.proofs.lemmas.List.{length-append}
use Rattle.std.proofs.lemmas.List.Elements.{Contains-append_cases}
use Rattle.arc_base.specs.declared.span.Span.{Span}
use Rattle.arc_base.proofs.Items.{Contains-head, from_map, from_piece}
use Rattle.net_model.specs.declared.rows.Network.{Network}
use Rattle.ios_lines.specs.declared.line.Line.{Line}
use Rattle.ios_lines.specs.declared.line.Lines.{Lines}
use Rattle.ios_lines.specs.Ended.{IsEnded, IsUnended, IsFree, HasNoReturn, ended_row}
use Rattle.ios_lines.specs.Rewritten.{rewritten}
use Rattle.ios_lines.specs.Texts.{part}
use Rattle.ios_lines.proofs.EndedLines.{rows-make}
use Rattle.ios_lines.proofs.Slices.{length-slice_range}
use Rattle.ios_words.specs.declared.commands.Command.{Command}
use Rattle.ios_words.specs.declared.commands.Command.TheVariants as commands
use Rattle.ios_words.specs.declared.commands.RouteText.{RouteText}
use Rattle.ios_words.specs.declared.kinds.BlockKind.TheVariants as kinds
use Rattle.ios_words.specs.Commands.{ReadBy}
use Rattle.ios_words.specs.Language.{rows}
use Rattle.ios_config.specs.declared.commands.FileCommand.{FileCommand}
use Rattle.net_build.specs.declared.built.Places.{Places}
use Rattle.edit_list.specs.declared.edit_kinds.Edit.{Edit}
use Rattle.edit_list.specs.declared.list_kinds.NewList.{NewList}
use Rattle.edit_list.specs.declared.list_kinds.NewList.TheVariants.{Packet}
use Rattle.arc_base.specs.Numbered.{of_number}
use Rattle.line_patcher.specs.declared.additions.NewNumber.{NewNumber}
use Rattle.line_patcher.specs.Additions.{all_at, commands_after, commands_before, entries_before, lines_before, lines_after, numbers_at, process_commands}
use Rattle.line_patcher.specs.NewListLines.{commands_of_new_lists, new_list_commands}
use Rattle.line_patcher.specs.Patches.{end_of, line_end, row_bytes}
use Rattle.line_patcher.specs.Written.{line_of, lines_at}
use Rattle.edit_list.specs.NewLists.{named_lists}
use Rattle.line_edit_laws.specs.Sites.{Site}
use Rattle.patch_laws.specs.EditFiles.{IsEditedFile}
use Rattle.patch_laws.specs.EditSiteLaws.{own_places}
use Rattle.patch_laws.specs.EditSites.{with_number}
use Rattle.patch_laws.specs.EndLines.{IsProcessLine}
use Rattle.patch_laws.specs.EntrySites.{IsSequenced}
use Rattle.patch_laws.specs.Fits.{CanBePatched, Fits, IsFit, IsLineEnd}
use Rattle.patch_laws.specs.NewListSites.{IsNewName}
use Rattle.patch_laws.proofs.EditBusy.{AtCommand, after-item, number-command}
use Rattle.patch_laws.proofs.EditEntries.{all-from, all-in, new-lines-fit, table-entry}
use Rattle.patch_laws.proofs.EditLists.{from-number}
use Rattle.patch_laws.proofs.EditRenumber.{new-row, r}
use Rattle.patch_laws.proofs.EditRows.{CommandRow}
use Rattle.patch_laws.proofs.EditParts.{named-names}
use Rattle.patch_laws.proofs.EndLines.{group-lines-fit, process-lines-read}
use Rattle.patch_laws.proofs.PatchedLines.{hanging-ended}
use Rattle.patch_laws.proofs.RowLines.{line-end, row-facts}
use Rattle.line_patcher.specs.Working.{LiesWithin}
use Rattle.line_patcher.proofs.RowsWithin.{row-within}

some-rewritten : (text : List ℕ) (row : Line) (span : Span) (m : ℕ) → m < 2 ^ 64 → 0 < length (rewritten text row span (decimal m))
some-rewritten text row span m small =
    let some = decimal_nonempty m small in
    let front = slice_range text row.span.from span.from in
    let back = slice_range text span.to row.span.to in
    let one = length-append front (decimal m ++ back) in
    let two = length-append (decimal m) back in
    omega arith

-- what stands at a number has what all have
at-number : {X : Type 0} (P : X → Type 0) (n : ℕ) (xs : List (ℕ × X)) → ((item : ℕ × X) → Contains xs item → P item.1) → AllByRecursion P (of_number n xs)
at-number P n xs each = all-from P (of_number n xs) (λ x there. each (n, x) (from-number n xs x there))

module _ (sequences : (ws : List (List ℕ)) (list : List ℕ) (n : ℕ) (entry : RouteText) → ReadBy false ws (rows kinds.Top) (commands.PrefixLine list (Some n) entry) → IsSequenced ws)
    (net : Network) (places : List Places) (chosen : List Edit) (router : ℕ) (text : List ℕ) (lines : Lines) (cs : List FileCommand) (file : IsEditedFile net places chosen router text lines cs) where
  abbrev own : Places
  own = own_places cs

  abbrev before : List (ℕ × List ℕ)
  before = lines_before net own chosen router

  abbrev numbers : List (ℕ × NewNumber)
  numbers = numbers_at net own chosen router

  abbrev after : List (ℕ × List ℕ)
  after = lines_after net places own chosen router

  abbrev end : List ℕ
  end = line_end text lines.rows

  -- the lines of commands
  lines-fit : (commands : List (ℕ × Command)) → ((item : ℕ × Command) → Contains commands item → IsFit (line_of item.1)) → (line : ℕ × List ℕ) → Contains (lines_at commands) line → IsFit line.1
  lines-fit commands each line there =
      let (item, among, is) = from_map (λ (c : ℕ × Command). (c.0, line_of c.1)) commands line there in
      subst IsFit (ap (λ (p : ℕ × List ℕ). p.1) is) (each item among)

  -- those that are added before others
  news-fit : (item : ℕ × Command) → Contains (all_at own.process (commands_of_new_lists net chosen router)) item → IsFit (line_of item.1)
  news-fit item there =
      let (command, among, is) = from_map (λ (k : Command). (own.process, k)) (commands_of_new_lists net chosen router) item there in
      let (named, in_named, has) = from_piece (λ (n : NewList × List ℕ). new_list_commands chosen n.0 n.1) (named_lists net chosen router) command among in
      let name = all-in (IsNewName chosen) (named_lists net chosen router) named file.names in_named in
      subst (λ (p : ℕ × Command). IsFit (line_of p.1)) is
      (all-in (λ (k : Command). IsFit (line_of k)) (new_list_commands chosen named.0 named.1) command (new-lines-fit chosen named.0 named.1 name) has)

  before-fit : (item : ℕ × Command) → Contains (commands_before net own chosen router) item → IsFit (line_of item.1)
  before-fit item there = ⊎_elim (news-fit item) (λ entry. (table-entry net places chosen router text lines cs file item entry).fit)
      (Contains-append_cases (all_at own.process (commands_of_new_lists net chosen router)) (entries_before net own chosen router) item there)

  -- those that are added after others
  after-fit : (item : ℕ × Command) → Contains (commands_after net places own chosen router) item → IsFit (line_of item.1)
  after-fit item there =
      let named = named-names net places chosen router text lines cs file in
      ⊎_elim
      (λ process. (all-in (IsProcessLine net.protocol 0) (process_commands net chosen router) item.1 (process-lines-read net chosen router 0 file.writable file.fits named) process.1).fit)
      (λ a. subst (λ (k : Command). IsFit (line_of k)) (sym a.says) (group-lines-fit a.name 0 (named (Packet a.face, a.name) a.named)).1)
      (after-item net places chosen router text lines cs file item there)

  -- the bytes of a row with its numbers
  record Bytes (row : Line) (line : List ℕ) : Type 0 where
    free : IsFree (part text row.span) → IsFree line
    no_return : HasNoReturn (part text row.span) → HasNoReturn line
    some : 0 < length (part text row.span) → 0 < length line

  bytes-at : (k : ℕ) (row : Line) → slice_get lines.rows k ≡ Some row → Bytes row (row_bytes text row (of_number (1 + k) numbers))
  bytes-at k row at = by (of_number (1 + k) numbers) refl
    where
      by : (ns : List NewNumber) → of_number (1 + k) numbers ≡ ns → Bytes row (row_bytes text row ns)
      by [] is = record { free = λ x. x; no_return = λ x. x; some = λ x. x }
      by (new ∷ more) is =
          let there : Contains numbers (1 + k, new) = from-number (1 + k) numbers new (subst (λ (l : List NewNumber). Contains l new) (sym is) (Contains-head new more)) in
          let a : AtCommand cs (1 + k) = number-command net places chosen router text lines cs file (1 + k, new) there in
          let c : FileCommand = a.command in
          let here : CommandRow text lines cs c = r sequences net places chosen router text lines cs file c a.among in
          let place : here.place ≡ k = (let one = a.line in let two = here.number in omega arith) in
          let same : here.row ≡ row = same_Some here.row row (sym here.at ∙ ap (slice_get lines.rows) place ∙ at) in
          let n = new-row sequences net places chosen router text lines cs file c a.among new more (ap (λ (j : ℕ). of_number j numbers) (sym a.line) ∙ is) in
          let at_word : slice_get row.words new.word ≡ Some n.span = ap (λ (x : Line). slice_get x.words new.word) (sym same) ∙ n.at in
          let line : rewritten text here.row n.span (decimal new.number) ≡ row_bytes text row (new ∷ more) =
          ap (λ (x : Line). rewritten text x n.span (decimal new.number)) same
          ∙ sym (ap (λ (o : Option Span). option_map_or (λ (span : Span). rewritten text row span (decimal new.number)) o (part text row.span)) at_word) in
          let site : Site = record { tops = []; entries = []; line = rewritten text here.row n.span (decimal new.number); command = with_number c.command (new ∷ more); after = [] } in
          let d = n.renumbered more site refl refl in
          record {
            free = λ x. subst IsFree line d.free;
            no_return = λ x. subst HasNoReturn line (d.no_return (subst (λ (y : Line). HasNoReturn (part text y.span)) (sym same) x));
            some = λ x. subst (λ (l : List ℕ). 0 < length l) line (some-rewritten text here.row n.span new.number n.small);
          }

  -- a row may stand so
  fits-at : (is : IsLineEnd end) (k : ℕ) (row : Line) → slice_get lines.rows k ≡ Some row → IsEnded (ended_row text row) ⊎ IsUnended (ended_row text row) →
      Fits text end before numbers after (1 + k, row)
  fits-at is k row at fact =
      let within : LiesWithin text row = row-within text lines k row file.are at in
      let b : Bytes row (row_bytes text row (of_number (1 + k) numbers)) = bytes-at k row at in
      let after-lines = at-number IsFit (1 + k) after (lines-fit (commands_after net places own chosen router) after-fit) in
      record {
        before_fit = at-number IsFit (1 + k) before (lines-fit (commands_before net own chosen router) before-fit);
        after_fit = after-lines;
        ended_row = λ e. ⊎_elim
            (λ (ended : IsEnded (ended_row text row)). record { free = b.free ended.free; ends = ⊎_elim (λ one. inl (one.0, b.no_return one.1)) (λ two. inr two) ended.ends })
            (λ un.
            let size = length-slice_range text row.span.to (row.span.to + row.end) within.ends in
            let none : length (end_of text row) ≡ 0 = ap length un.none in
            absurd (eqb-false row.end 0 e (omega arith)))
            fact;
        hanging_row = λ e.
            let none = no-end row within e in
            let un = bare-row row none fact in
            (none, hanging-ended end (row_bytes text row (of_number (1 + k) numbers)) (of_number (1 + k) after) is (b.free un.free) (b.some un.some) after-lines);
      }
    where
      empty-list : (xs : List ℕ) → length xs ≡ 0 → xs ≡ []
      empty-list [] none = refl
      empty-list (x ∷ xs) none = absurd (omega arith)

      no-end : (row : Line) → LiesWithin text row → (row.end == 0) ≡ true → end_of text row ≡ []
      no-end row within e =
          let zero_end : row.end ≡ 0 = eqb-true row.end 0 e in
          let size = length-slice_range text row.span.to (row.span.to + row.end) within.ends in
          empty-list (end_of text row) (size ∙ omega arith)

      bare-row : (row : Line) → end_of text row ≡ [] → IsEnded (ended_row text row) ⊎ IsUnended (ended_row text row) → IsUnended (ended_row text row)
      bare-row row none (inr un) = un
      bare-row row none (inl ended) = absurd (⊎_elim
          (λ one. let size : 0 ≡ 1 = ap length (sym none ∙ one.0) in omega arith)
          (λ two. let size : 0 ≡ 2 = ap length (sym none ∙ two) in omega arith)
          ended.ends)

  all-fit : (is : IsLineEnd end) (k : ℕ) (rs : List Line) → ((j : ℕ) (row : Line) → slice_get rs j ≡ Some row → slice_get lines.rows (k + j) ≡ Some row) →
      AllByRecursion (λ (row : Line). IsEnded (ended_row text row) ⊎ IsUnended (ended_row text row)) rs → AllByRecursion (Fits text end before numbers after) (enumerate_from (1 + k) rs)
  all-fit is k [] shown facts = tt
  all-fit is k (row ∷ rs) shown facts = (
    fits-at is k row (let here : k + 0 ≡ k = omega arith in subst (λ (j : ℕ). slice_get lines.rows j ≡ Some row) here (shown 0 row refl)) facts.0,
    (let next : 1 + (k + 1) ≡ 1 + k + 1 = omega arith in
        subst (λ (n : ℕ). AllByRecursion (Fits text end before numbers after) (enumerate_from n rs)) next
        (all-fit is (k + 1) rs (λ j x at. let step : k + suc j ≡ k + 1 + j = omega arith in subst (λ (n : ℕ). slice_get lines.rows n ≡ Some x) step (shown (suc j) x at)) facts.1)),
  )

  pub can-be-patched : CanBePatched text lines before numbers after
  can-be-patched =
      let facts = row-facts text lines.rows (rows-make text lines file.are).ended in
      let is = line-end text lines.rows (λ k row at. row-within text lines k row file.are at) facts in
      record { ends = is; fits = all-fit is 0 lines.rows (λ j row at. let same : j ≡ 0 + j = omega arith in subst (λ (n : ℕ). slice_get lines.rows n ≡ Some row) same at) facts }
