-- The lines of a patched text are those of the sites of its commands.
use Rattle.std.proofs.Common.{◌≡◌, ℕ, ◌+◌, ◌==◌, Bool, true, false, cond, List, [], ◌∷◌, ◌++◌, map, refl, sym, ap, ◌∙◌, append_assoc, MatchBool}
use Rattle.std.specs.List.{flat_map, enumerate_from}
use Rattle.ios_lines.specs.declared.line.Line.{Line}
use Rattle.ios_lines.specs.Texts.{part, text_lines}
use Rattle.ios_lines.proofs.EndedLines.{lines-of-text}
use Rattle.ios_config.specs.declared.commands.FileCommand.{FileCommand}
use Rattle.arc_base.specs.Numbered.{of_number}
use Rattle.line_patcher.specs.declared.additions.NewNumber.{NewNumber}
use Rattle.line_patcher.specs.Patches.{row_bytes, line_end}
use Rattle.line_edit_laws.specs.Sites.{Site, chunk_lines, bytes_of, site_lines, new_lines}
use Rattle.patch_laws.specs.Sites.{HasSite, HasNone, HaveSites}
use Rattle.patch_laws.proofs.PatchedLines.{lines_for, become}
use Rattle.patch_laws.specs.Fits.{IsLineEnd, row_line}
use Rattle.patch_laws.specs.Laws.{PatchedTextsHaveSites}
use Rattle.patch_laws.proofs.RowLines.{last-hangs-alone}

-- a row with nothing after it is as it was
alone-line : (text end : List ℕ) (row : Line) (numbers : List NewNumber) → row_line text end row numbers [] ≡ row_bytes text row numbers
alone-line text end row numbers = by (row.end == 0)
  where
    by : (b : Bool) → cond b (row_bytes text row numbers) (row_bytes text row numbers) ≡ row_bytes text row numbers
    by true = refl
    by false = refl

module _ (text end : List ℕ) (before : List (ℕ × List ℕ)) (numbers : List (ℕ × NewNumber)) (after : List (ℕ × List ℕ)) (is : IsLineEnd end) (put : FileCommand → Site) where
  abbrev shown : Line → List ℕ
  shown row = part text row.span

  none-new : (n : ℕ) (ls : List (List ℕ)) → new_lines put n ls [] ≡ ls
  none-new n [] = refl
  none-new n (l ∷ ls) = refl

  none-here : (n : ℕ) (row : Line) → HasNone text before numbers after n row → lines_for text end before numbers after is (n, row) ≡ shown row ∷ []
  none-here n row h =
      let b = h.none_before in
      let a = h.none_after in
      let alone : row_line text end row (of_number n numbers) (of_number n after) ≡ shown row =
      ap (row_line text end row (of_number n numbers)) a ∙ alone-line text end row (of_number n numbers) ∙ h.line in
      λ i. b i ++ (alone i ∷ a i)

  site-here : (n : ℕ) (row : Line) (s : Site) → HasSite text end before numbers after s n row → lines_for text end before numbers after is (n, row) ≡ site_lines s
  site-here n row s h =
      (let b = h.lines_before in let l = h.line in let a = h.lines_after in λ i. b i ++ (l i ∷ a i)) ∙
      append_assoc (flat_map chunk_lines s.tops) (bytes_of s.entries) (s.line ∷ bytes_of s.after)

  sites-lines : (n : ℕ) (rows : List Line) (ds : List FileCommand) → HaveSites text end before numbers after put n rows ds →
      flat_map (lines_for text end before numbers after is) (enumerate_from n rows) ≡ new_lines put n (map shown rows) ds
  sites-lines n [] ds have = refl
  sites-lines n (row ∷ rows) [] have =
      let rest = sites-lines (n + 1) rows [] have.1 ∙ none-new (n + 1) (map shown rows) in
      (let first = none-here n row have.0 in λ i. first i ++ rest i)
  sites-lines n (row ∷ rows) (c ∷ ds) have = by (c.line == n) have (sites-lines (n + 1) rows ds) (sites-lines (n + 1) rows (c ∷ ds))
    where
      by : (b : Bool) → MatchBool b (HasSite text end before numbers after (put c) n row × HaveSites text end before numbers after put (n + 1) rows ds)
          (HasNone text before numbers after n row × HaveSites text end before numbers after put (n + 1) rows (c ∷ ds)) →
          (HaveSites text end before numbers after put (n + 1) rows ds →
          flat_map (lines_for text end before numbers after is) (enumerate_from (n + 1) rows) ≡ new_lines put (n + 1) (map shown rows) ds) →
          (HaveSites text end before numbers after put (n + 1) rows (c ∷ ds) →
          flat_map (lines_for text end before numbers after is) (enumerate_from (n + 1) rows) ≡ new_lines put (n + 1) (map shown rows) (c ∷ ds)) →
          flat_map (lines_for text end before numbers after is) (enumerate_from n (row ∷ rows)) ≡ cond b (site_lines (put c) ++ new_lines put (n + 1) (map shown rows) ds)
          (shown row ∷ new_lines put (n + 1) (map shown rows) (c ∷ ds))
      by true h one two = (let first = site-here n row (put c) h.0 in let rest = one h.1 in λ i. first i ++ rest i)
      by false h one two = (let first = none-here n row h.0 in let rest = two h.1 in λ i. first i ++ rest i)

-- the lines of a patched text
pub patched-sites : PatchedTextsHaveSites
patched-sites text lines before numbers after put cs are can have =
    let b = become text (line_end text lines.rows) before numbers after can.ends 1 lines.rows can.fits (last-hangs-alone text 0 lines.rows are.join) in
    ap text_lines (sym b.text_is) ∙ lines-of-text b.lines b.are ∙ b.lines_are ∙ sites-lines text (line_end text lines.rows) before numbers after can.ends put 1 lines.rows cs have ∙
    ap (λ (ls : List (List ℕ)). new_lines put 1 ls cs) are.texts
