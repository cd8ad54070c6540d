-- The numbered lines of a file, as many as are read.
use Rattle.std.proofs.Common.{◌≡◌, ℕ, ◌+◌, ◌<◌, ◌≤◌, not, Bool, true, false, List, [], ◌∷◌, ◌++◌, length, get_or, take, drop, filter, Some, sym, ◌∙◌, ap, arith, cond}
use Rattle.std.specs.Prelude.{slice_get}
use Rattle.std.specs.List.{enumerate_from}
use Rattle.std.proofs.lemmas.List.{append-nil, take_more, drop_more, take-append-drop, take_all, length-take-le}
use Rattle.std.proofs.lemmas.List.Elements.{filter-append}
use Rattle.std.proofs.lemmas.Option.{slice_get_within, get_or_from_slice_get}
use Rattle.ios_lines.specs.declared.line.Lines.{Lines}
use Rattle.ios_lines.specs.declared.line.Line.{Line}
use Rattle.ios_config.specs.Commands.{command_lines}
use Rattle.ios_config.proofs.Opened.{lines_to}

-- numbers go on over the end of a list
enumerated : {X : Type 0} (m : ℕ) (xs ys : List X) → enumerate_from m (xs ++ ys) ≡ enumerate_from m xs ++ enumerate_from (m + length xs) ys
enumerated m [] ys = ap (λ k. enumerate_from k ys) (omega arith)
enumerated m (x ∷ xs) ys =
    let e : m + 1 + length xs ≡ m + length (x ∷ xs) = omega arith in
    ap (λ l. (m, x) ∷ l) (enumerated (m + 1) xs ys ∙ ap (λ k. enumerate_from (m + 1) xs ++ enumerate_from k ys) e)

-- the line says something
abbrev pub is_filled : ℕ × Line → Bool
is_filled l = not l.1.inert

module _ (lines : Lines) (n : ℕ) (r : Line) (at : slice_get lines.rows n ≡ Some r) where
  within : n < length lines.rows
  within = slice_get_within lines.rows n r at

  long : length (take n lines.rows) ≡ n
  long = length-take-le n lines.rows (let h : n < length lines.rows = within in omega arith)

  here : get_or lines.rows n r ≡ r
  here = get_or_from_slice_get lines.rows n r r at

  one_more : enumerate_from 1 (take (n + 1) lines.rows) ≡ enumerate_from 1 (take n lines.rows) ++ (n + 1, r) ∷ []
  one_more =
      let e : 1 + length (take n lines.rows) ≡ n + 1 = let k : length (take n lines.rows) ≡ n = long in omega arith in
      ap (enumerate_from 1) (take_more lines.rows n r within) ∙ ap (λ x. enumerate_from 1 (take n lines.rows ++ x ∷ [])) here ∙
      enumerated 1 (take n lines.rows) (r ∷ []) ∙ ap (λ k. enumerate_from 1 (take n lines.rows) ++ (k, r) ∷ []) e

  filtered : lines_to (n + 1) lines ≡ lines_to n lines ++ cond (is_filled (n + 1, r)) ((n + 1, r) ∷ []) []
  filtered = ap (filter is_filled) one_more ∙ filter-append is_filled (enumerate_from 1 (take n lines.rows)) ((n + 1, r) ∷ [])

  -- one more line that is to be a command
  pub lines_more : r.inert ≡ false → lines_to (n + 1) lines ≡ lines_to n lines ++ (n + 1, r) ∷ []
  lines_more e = filtered ∙ ap (λ b. lines_to n lines ++ cond (not b) ((n + 1, r) ∷ []) []) e

  -- and one that is not
  pub lines_same : r.inert ≡ true → lines_to (n + 1) lines ≡ lines_to n lines
  lines_same e = filtered ∙ ap (λ b. lines_to n lines ++ cond (not b) ((n + 1, r) ∷ []) []) e ∙ append-nil (lines_to n lines)

  -- the lines after it that are to be commands
  unfoldable pub lines_after : List (ℕ × Line)
  lines_after = filter is_filled (enumerate_from (1 + length (take n lines.rows) + 1) (drop (n + 1) lines.rows))

  -- all lines around it
  pub lines_split : r.inert ≡ false → command_lines lines ≡ lines_to n lines ++ (n + 1, r) ∷ lines_after
  unfolding lines_after
  lines_split e =
      let k : 1 + length (take n lines.rows) ≡ n + 1 = let j : length (take n lines.rows) ≡ n = long in omega arith in
      let whole : lines.rows ≡ take n lines.rows ++ r ∷ drop (n + 1) lines.rows =
      sym (take-append-drop n lines.rows) ∙ ap (λ l. take n lines.rows ++ l) (drop_more lines.rows n r within ∙ ap (λ x. x ∷ drop (n + 1) lines.rows) here) in
      ap (λ l. filter is_filled (enumerate_from 1 l)) whole ∙ ap (filter is_filled) (enumerated 1 (take n lines.rows) (r ∷ drop (n + 1) lines.rows)) ∙
      filter-append is_filled (enumerate_from 1 (take n lines.rows)) (enumerate_from (1 + length (take n lines.rows)) (r ∷ drop (n + 1) lines.rows)) ∙
      ap (λ b. lines_to n lines ++ cond (not b) ((1 + length (take n lines.rows), r) ∷ lines_after) lines_after) e ∙
      ap (λ m. lines_to n lines ++ (m, r) ∷ lines_after) k

-- all lines
pub lines_all : (lines : Lines) (n : ℕ) → length lines.rows ≤ n → lines_to n lines ≡ command_lines lines
lines_all lines n h = ap (λ l. filter is_filled (enumerate_from 1 l)) (take_all n lines.rows h)
