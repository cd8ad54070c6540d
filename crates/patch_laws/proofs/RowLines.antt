-- The rows of a text with their ends, and what stands at their numbers.
use Rattle.std.proofs.Common.{◌≡◌, ◌≢◌, ℕ, ◌+◌, ◌==◌, ◌⊎◌, inl, inr, Bool, true, false, List, [], ◌∷◌, length, map, refl, ap, subst, ◌∙◌, arith, ⊎_elim, if◌then◌else◌}
use Rattle.std.specs.Prelude.{slice_get, Some, None}
use Rattle.std.specs.List.{AllByRecursion, cons_option}
use Rattle.std.proofs.lemmas.Bool.{cases_Bool, eqb-true, eqb-false, eq-eqb, ne_eqb}
use Rattle.ios_lines.specs.declared.line.Line.{Line}
use Rattle.ios_lines.specs.Ended.{IsEnded, IsUnended, AreEnded, ended_row}
use Rattle.ios_lines.specs.Texts.{Join, IsEnd}
use Rattle.ios_lines.proofs.Slices.{length-slice_range}
use Rattle.arc_base.specs.Numbered.{of_number}
use Rattle.ios_words.specs.declared.commands.Command.{Command}
use Rattle.line_patcher.specs.Additions.{all_at}
use Rattle.line_patcher.specs.Patches.{end_of, line_end}
use Rattle.patch_laws.proofs.PatchedLines.{OnlyLastHangs}
use Rattle.patch_laws.specs.Fits.{IsLineEnd}
use Rattle.line_patcher.specs.Working.{LiesWithin}
use Rattle.line_patcher.proofs.RowsWithin.{rows-few}

-- the things that all have one number
number-step : {X : Type 0} (b : Bool) (line : X) (rest : List X) → cons_option (if b then Some line else None) rest ≡ (if b then line ∷ rest else rest)
number-step true line rest = refl
number-step false line rest = refl

pub of-number-here : (number k : ℕ) (lines : List Command) → number ≡ k → of_number k (all_at number lines) ≡ lines
of-number-here number k [] same = refl
of-number-here number k (line ∷ lines) same =
    number-step (number == k) line (of_number k (all_at number lines))
    ∙ ap (λ (b : Bool). if b then line ∷ of_number k (all_at number lines) else of_number k (all_at number lines)) (eq-eqb number k same) ∙
    ap (λ (ls : List Command). line ∷ ls) (of-number-here number k lines same)

pub of-number-other : (number k : ℕ) (lines : List Command) → number ≢ k → of_number k (all_at number lines) ≡ []
of-number-other number k [] other = refl
of-number-other number k (line ∷ lines) other =
    number-step (number == k) line (of_number k (all_at number lines))
    ∙ ap (λ (b : Bool). if b then line ∷ of_number k (all_at number lines) else of_number k (all_at number lines)) (ne_eqb number k other) ∙
    of-number-other number k lines other

-- only a last row has no end
pub last-hangs-alone : (text : List ℕ) (at : ℕ) (rows : List Line) → Join text at rows → OnlyLastHangs rows
last-hangs-alone text at [] join = tt
last-hangs-alone text at (row ∷ []) join = tt
last-hangs-alone text at (row ∷ next ∷ rows) join = (
  ⊎_elim
      (λ (none : (row.end == 0) ≡ true).
      let zero_end : row.end ≡ 0 = eqb-true row.end 0 none in
      let few = rows-few text (row.span.to + row.end) (next ∷ rows) join.2 in
      let ends : row.span.to ≡ length text = (subst (λ (e : ℕ). IsEnd text at row.span.to e) zero_end join.1.ending).0 in
      absurd (omega arith))
      (λ some. some)
      (cases_Bool (row.end == 0)),
  last-hangs-alone text (row.span.to + row.end) (next ∷ rows) join.2,
)

-- each row is a line with its end, or a last one without
pub row-facts : (text : List ℕ) (rows : List Line) → AreEnded (map (ended_row text) rows) → AllByRecursion (λ (row : Line). IsEnded (ended_row text row) ⊎ IsUnended (ended_row text row)) rows
row-facts text [] are = tt
row-facts text (row ∷ []) are = (are, tt)
row-facts text (row ∷ next ∷ rows) are = (inl are.0, row-facts text (next ∷ rows) are.1)

-- what ends the lines of a text
pub line-end : (text : List ℕ) (rows : List Line) → ((k : ℕ) (row : Line) → slice_get rows k ≡ Some row → LiesWithin text row) →
    AllByRecursion (λ (row : Line). IsEnded (ended_row text row) ⊎ IsUnended (ended_row text row)) rows → IsLineEnd (line_end text rows)
line-end text [] within facts = inl refl
line-end text (row ∷ rows) within facts = by (row.end == 0) refl
  where
    by : (b : Bool) → (row.end == 0) ≡ b → IsLineEnd (if b then 10 ∷ [] else end_of text row)
    by true e = inl refl
    by false e = ⊎_elim
        (λ ended. ⊎_elim (λ one. inl one.0) (λ two. inr two) ended.ends)
        (λ un.
        let size = length-slice_range text row.span.to (row.span.to + row.end) (within 0 row refl).ends in
        let none : length (end_of text row) ≡ 0 = ap length un.none in
        absurd (eqb-false row.end 0 e (omega arith)))
        facts.0
