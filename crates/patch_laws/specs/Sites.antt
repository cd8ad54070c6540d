-- What a patch adds at the rows of a text, by the commands of these rows.
use Rattle.std.specs.Prelude.{◌≡◌, ℕ, ◌+◌, ◌==◌, List, [], ◌∷◌, ◌++◌, MatchBool}
use Rattle.std.specs.List.{flat_map}
use Rattle.ios_lines.specs.declared.line.Line.{Line}
use Rattle.ios_lines.specs.Texts.{part}
use Rattle.ios_config.specs.declared.commands.FileCommand.{FileCommand}
use Rattle.arc_base.specs.Numbered.{of_number}
use Rattle.line_patcher.specs.declared.additions.NewNumber.{NewNumber}
use Rattle.line_patcher.specs.Patches.{row_bytes}
use Rattle.line_edit_laws.specs.Sites.{Site, chunk_lines, bytes_of}
use Rattle.patch_laws.specs.Fits.{row_line}

-- the row of this number has the lines and bytes of a site
pub record HasSite (text end : List ℕ) (before : List (ℕ × List ℕ)) (numbers : List (ℕ × NewNumber))
    (after : List (ℕ × List ℕ)) (site : Site) (n : ℕ) (row : Line) : Type 0 where
  pub lines_before : of_number n before ≡ flat_map chunk_lines site.tops ++ bytes_of site.entries
  pub line : row_line text end row (of_number n numbers) (of_number n after) ≡ site.line
  pub lines_after : of_number n after ≡ bytes_of site.after

-- nothing is added at the row of this number
pub record HasNone (text : List ℕ) (before : List (ℕ × List ℕ)) (numbers : List (ℕ × NewNumber))
    (after : List (ℕ × List ℕ)) (n : ℕ) (row : Line) : Type 0 where
  pub none_before : of_number n before ≡ []
  pub line : row_bytes text row (of_number n numbers) ≡ part text row.span
  pub none_after : of_number n after ≡ []

-- the rows from this number on have the sites of these commands, and nothing is added at other rows
abbrev pub HaveSites : List ℕ → List ℕ → List (ℕ × List ℕ) → List (ℕ × NewNumber) →
    List (ℕ × List ℕ) → (FileCommand → Site) → ℕ → List Line → List FileCommand → Type 0
HaveSites text end before numbers after put n [] ds = Unit {0}
HaveSites text end before numbers after put n (row ∷ rows) [] =
    HasNone text before numbers after n row ×
    HaveSites text end before numbers after put (n + 1) rows []
HaveSites text end before numbers after put n (row ∷ rows) (c ∷ ds) =
    MatchBool (c.line == n) (HasSite text end before numbers after (put c) n row ×
    HaveSites text end before numbers after put (n + 1) rows ds)
    (HasNone text before numbers after n row ×
    HaveSites text end before numbers after put (n + 1) rows (c ∷ ds))
