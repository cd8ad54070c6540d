-- The rows of a file have what edits put at its commands, and nothing is put at other rows.
use Rattle.std.proofs.Common.{◌≡◌, ◌≢◌, ℕ, suc, ◌+◌, ◌-◌, ◌≤◌, ◌==◌, Bool, true, false, if◌then◌else◌, Option, Some, List, [], ◌∷◌, ◌++◌, map, refl, sym, ap, subst, ◌∙◌, arith, ⊎_elim}
use Rattle.std.proofs.Common.{Contains, append-nil, append_assoc, MatchBool}
use Rattle.std.specs.Prelude.{slice_get}
use Rattle.std.specs.Option.{option_map_or}
use Rattle.std.specs.List.{flat_map}
use Rattle.std.proofs.lemmas.Bool.{eqb-true, eqb-false}
use Rattle.std.proofs.lemmas.List.{map-append}
use Rattle.std.proofs.lemmas.List.Concat.{flat_map-append}
use Rattle.arc_base.proofs.Items.{Contains-cases, Contains-none}
use Rattle.net_model.specs.declared.rows.Network.{Network}
use Rattle.ios_lines.specs.declared.line.Line.{Line}
use Rattle.ios_lines.specs.declared.line.Lines.{Lines}
use Rattle.ios_lines.specs.Texts.{text_lines}
use Rattle.ios_config.specs.declared.commands.FileCommand.{FileCommand}
use Rattle.ios_config.specs.LineLists.{marks_in}
use Rattle.ios_config.proofs.LinesBefore.{Rising, rising-from, rising-low}
use Rattle.net_build.specs.declared.built.Places.{Places}
use Rattle.edit_list.specs.declared.edit_kinds.Edit.{Edit}
use Rattle.arc_base.specs.Numbered.{of_number}
use Rattle.line_patcher.specs.declared.additions.NewNumber.{NewNumber}
use Rattle.line_patcher.specs.Additions.{all_at, commands_after, commands_before, entries_before, lines_before, lines_after, numbers_at}
use Rattle.line_patcher.specs.NewListLines.{commands_of_new_lists}
use Rattle.line_patcher.specs.Patches.{line_end, row_bytes}
use Rattle.line_patcher.specs.Written.{line_of}
use Rattle.line_patcher.proofs.Tables.{lines-number}
use Rattle.edit_list.specs.NewLists.{named_lists}
use Rattle.line_edit_laws.specs.Sites.{Written, Single, Site, bytes_of, chunk_lines}
use Rattle.patch_laws.specs.EditFiles.{IsEditedFile}
use Rattle.patch_laws.specs.EditSiteLaws.{EditSitesAreThere, own_places}
use Rattle.patch_laws.specs.EditSites.{entries_at, inner_entries, new_key, new_tops, put, singles}
use Rattle.patch_laws.specs.Fits.{row_line}
use Rattle.patch_laws.specs.NewListSites.{list_chunks}
use Rattle.patch_laws.specs.Sites.{HasSite, HasNone, HaveSites}
use Rattle.patch_laws.specs.Written.{written_of}
use Rattle.patch_laws.proofs.EditBusy.{number-command, after-command}
use Rattle.patch_laws.proofs.EditEntries.{before-command}
use Rattle.patch_laws.proofs.EditLists.{none-at, of-append}
use Rattle.patch_laws.proofs.NewListChunks.{new-chunk-lines, written-lines}
use Rattle.patch_laws.proofs.RowLines.{of-number-here, of-number-other}

module _ (net : Network) (places : List Places) (chosen : List Edit) (router : ℕ) (text : List ℕ) (lines : Lines) (cs : List FileCommand)
    (file : IsEditedFile net places chosen router text lines cs) where
  abbrev own : Places
  own = own_places cs

  abbrev site : FileCommand → Site
  site c = put net places own chosen router text lines (new_key lines) c

  abbrev end : List ℕ
  end = line_end text lines.rows

  abbrev before : List (ℕ × List ℕ)
  before = lines_before net own chosen router

  abbrev numbers : List (ℕ × NewNumber)
  numbers = numbers_at net own chosen router

  abbrev after : List (ℕ × List ℕ)
  after = lines_after net places own chosen router

  -- the lines after a command
  after-at : (n : ℕ) → of_number n after ≡ bytes_of (map written_of (of_number n (commands_after net places own chosen router)))
  after-at n = lines-number n (commands_after net places own chosen router) ∙ sym (written-lines (of_number n (commands_after net places own chosen router)))

  single-lines : (ws : List Written) → flat_map chunk_lines (map Single ws) ≡ bytes_of ws
  single-lines [] = refl
  single-lines (w ∷ ws) = ap (λ (ls : List (List ℕ)). w.line ∷ ls) (single-lines ws)

  -- the lines before a command
  new-at : (c : FileCommand) (n : ℕ) → c.line ≡ n → map line_of (of_number n (all_at own.process (commands_of_new_lists net chosen router))) ≡ flat_map chunk_lines
      (new_tops net own chosen router (new_key lines) c)
  new-at c n line = by (own.process == c.line) refl
    where
      by : (b : Bool) → (own.process == c.line) ≡ b → map line_of (of_number n (all_at own.process (commands_of_new_lists net chosen router))) ≡ flat_map chunk_lines
          (if b then list_chunks chosen (new_key lines) (named_lists net chosen router) else [])
      by true e = ap (map line_of) (of-number-here own.process n (commands_of_new_lists net chosen router) (eqb-true own.process c.line e ∙ line))
          ∙ sym (new-chunk-lines chosen (new_key lines) (named_lists net chosen router))
      by false e = ap (map line_of) (of-number-other own.process n (commands_of_new_lists net chosen router) (λ same. eqb-false own.process c.line e (same ∙ sym line)))

  entries-split : (c : FileCommand) → flat_map chunk_lines (map Single (singles net own chosen router c)) ++ bytes_of (inner_entries net own chosen router c) ≡ bytes_of
      (entries_at net own chosen router c)
  entries-split c = by (c.block == 0)
    where
      by : (b : Bool) → flat_map chunk_lines (map Single (if b then entries_at net own chosen router c else [])) ++ bytes_of
          (if b then [] else entries_at net own chosen router c) ≡ bytes_of (entries_at net own chosen router c)
      by true = append-nil (flat_map chunk_lines (map Single (entries_at net own chosen router c))) ∙ single-lines (entries_at net own chosen router c)
      by false = refl

  before-at : (c : FileCommand) (n : ℕ) → c.line ≡ n → of_number n before ≡ flat_map chunk_lines (site c).tops ++ bytes_of (site c).entries
  before-at c n line =
      let new = all_at own.process (commands_of_new_lists net chosen router) in
      let entries = entries_before net own chosen router in
      lines-number n (new ++ entries) ∙ ap (map line_of) (of-append n new entries) ∙ map-append line_of (of_number n new) (of_number n entries) ∙
      (let one = new-at c n line in
      let two = sym (written-lines (of_number n entries)) ∙ ap (λ (k : ℕ). bytes_of (map written_of (of_number k entries))) (sym line) ∙ sym (entries-split c) in λ i. one i ++ two i) ∙
      sym (append_assoc (flat_map chunk_lines (new_tops net own chosen router (new_key lines) c)) (flat_map chunk_lines (map Single (singles net own chosen router c)))
      (bytes_of (inner_entries net own chosen router c))) ∙
      ap (λ (ls : List (List ℕ)). ls ++ bytes_of (inner_entries net own chosen router c))
      (sym (flat_map-append chunk_lines (new_tops net own chosen router (new_key lines) c) (map Single (singles net own chosen router c))))

  -- what the row of a command has
  site-at : (c : FileCommand) (n : ℕ) (row : Line) → c.line ≡ n → slice_get lines.rows (n - 1) ≡ Some row → HasSite text end before numbers after (site c) n row
  site-at c n row line at = record {
    lines_before = before-at c n line;
    line = ap (λ (k : ℕ). row_line text end row (of_number k numbers) (of_number k after)) (sym line) ∙
        sym (ap (λ (o : Option Line). option_map_or (λ (r : Line). row_line text end r (of_number c.line numbers) (of_number c.line after)) o [])
        (ap (λ (k : ℕ). slice_get lines.rows (k - 1)) line ∙ at));
    lines_after = after-at n ∙ ap (λ (k : ℕ). bytes_of (map written_of (of_number k (commands_after net places own chosen router)))) (sym line);
  }

  -- what another row has
  none-here : (n : ℕ) (row : Line) → ((c : FileCommand) → Contains cs c → c.line ≢ n) → HasNone text before numbers after n row
  none-here n row other = record {
    none_before = lines-number n (commands_before net own chosen router)
        ∙ ap (map line_of) (none-at n (commands_before net own chosen router)
        (λ item there same. let a = before-command net places chosen router text lines cs file item there in other a.command a.among (sym a.line ∙ same)));
    line = ap (row_bytes text row)
        (none-at n numbers (λ item there same. let a = number-command net places chosen router text lines cs file item there in other a.command a.among (sym a.line ∙ same)));
    none_after = lines-number n (commands_after net places own chosen router)
        ∙ ap (map line_of) (none-at n (commands_after net places own chosen router)
        (λ item there same. let a = after-command net places chosen router text lines cs file item there in other a.command a.among (sym a.line ∙ same)));
  }

  -- the rows from a number on
  have-from : (n : ℕ) (rows : List Line) (ds : List FileCommand) → ((k : ℕ) (row : Line) → slice_get rows k ≡ Some row → slice_get lines.rows (n + k) ≡ Some row) → Rising (n + 1) ds →
      ((c : FileCommand) → Contains cs c → n + 1 ≤ c.line → Contains ds c) → HaveSites text end before numbers after site (n + 1) rows ds
  have-from n [] ds shown up all = tt
  have-from n (row ∷ rows) [] shown up all = (
    none-here (n + 1) row (λ c among same. Contains-none c (all c among (omega arith))),
    have-from (n + 1) rows [] (λ k r at. let next : n + suc k ≡ n + 1 + k = omega arith in subst (λ (j : ℕ). slice_get lines.rows j ≡ Some r) next (shown (suc k) r at)) tt
        (λ c among low. all c among (omega arith)),
  )
  have-from n (row ∷ rows) (c ∷ ds) shown up all = by (c.line == n + 1) refl
      (λ es. have-from (n + 1) rows es (λ k r at. let next : n + suc k ≡ n + 1 + k = omega arith in subst (λ (j : ℕ). slice_get lines.rows j ≡ Some r) next (shown (suc k) r at)))
    where
      by : (b : Bool) → (c.line == n + 1) ≡ b →
          ((es : List FileCommand) → Rising (n + 1 + 1) es → ((d : FileCommand) → Contains cs d → n + 1 + 1 ≤ d.line → Contains es d) →
          HaveSites text end before numbers after site (n + 1 + 1) rows es) →
          MatchBool b (HasSite text end before numbers after (site c) (n + 1) row × HaveSites text end before numbers after site (n + 1 + 1) rows ds)
          (HasNone text before numbers after (n + 1) row × HaveSites text end before numbers after site (n + 1 + 1) rows (c ∷ ds))
      by true e deeper =
          let line : c.line ≡ n + 1 = eqb-true c.line (n + 1) e in
          let here : n + 0 ≡ n + 1 - 1 = omega arith in (
            site-at c (n + 1) row line (subst (λ (j : ℕ). slice_get lines.rows j ≡ Some row) here (shown 0 row refl)),
            deeper ds (subst (λ (j : ℕ). Rising (j + 1) ds) line up.1)
                (λ d among low. ⊎_elim (λ same. absurd (let l : c.line ≡ d.line = ap (λ (x : FileCommand). x.line) same in omega arith)) (λ more. more)
                (Contains-cases c d ds (all d among (omega arith)))),
          )
      by false e deeper =
          let other : c.line ≢ n + 1 = eqb-false c.line (n + 1) e in
          let low : n + 1 ≤ c.line = up.0 in (
            none-here (n + 1) row (λ d among same. ⊎_elim
                (λ here. other (ap (λ (x : FileCommand). x.line) here ∙ same))
                (λ more. let over = rising-low (c.line + 1) ds d up.1 more in absurd (omega arith))
                (Contains-cases c d ds (all d among (omega arith)))),
            deeper (c ∷ ds) ((omega arith), up.1) (λ d among over. all d among (omega arith)),
          )

  pub sites-there : HaveSites text end before numbers after site 1 lines.rows cs
  sites-there = have-from 0 lines.rows cs (λ k row at. let same : k ≡ 0 + k = omega arith in subst (λ (j : ℕ). slice_get lines.rows j ≡ Some row) same at)
      (rising-from (marks_in (text_lines text)) 1 (marks_in (text_lines text)) cs file.stand.reads) (λ c among low. among)

pub edit-sites-there : EditSitesAreThere
edit-sites-there net places chosen router text lines cs file = sites-there net places chosen router text lines cs file
