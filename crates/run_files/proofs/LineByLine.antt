-- A file whose lines are taken one by one: what is known of its text and of the lines that are left.
use Rattle.std.proofs.Common.{◌≡◌, ℕ, List, [], ◌∷◌, sym, ◌∙◌, ap, subst, true}
use Rattle.std.specs.Prelude.{Option, Some, None, IfSome, Ok, unwrap_or}
use Rattle.arc_outside.specs.Files.{Files}
use Rattle.arc_outside.specs.LinesRead.{left}
use Rattle.arc_outside.specs.declared.pieces.Pieces.{Pieces}
use Rattle.arc_base.specs.TextLines.{lines}
use Rattle.run_files.specs.ReadingLines.{MovesOn}
use Rattle.run_files.specs.Refusals.{bytes_at}
use Rattle.run_files.proofs.LinesHanded.{lines_of_first}
use Rattle.run_files.proofs.WhereTold.{told_and}

-- the lines that the reader has left
abbrev pub left_lines : Files → List ℕ → Pieces → List (List ℕ)
left_lines files name pieces = lines (left pieces (files name))

mapped : (held : Option Files) (P Q : Files → Type 0) → ((files : Files) → P files → Q files) → IfSome held P → IfSome held Q
mapped None P Q f h = tt
mapped (Some files) P Q f h = f files h

module _ (name : List ℕ) (Come : List ℕ → List (List ℕ) → Type 0) where
  -- the text has come up to these lines
  abbrev pub StandsAt : List (List ℕ) → Files → Type 0
  StandsAt ls files = Come (bytes_at files name) ls

  pub begun : (held : Option Files) (pieces : Pieces) → ((text : List ℕ) → Come text (lines text)) → ((file : Option (List ℕ)) → left pieces file ≡ unwrap_or file []) →
      IfSome held (λ files. StandsAt (left_lines files name pieces) files)
  begun None pieces come all = tt
  begun (Some files) pieces come all = subst (λ (text : List ℕ). StandsAt (lines text) files) (sym (all (files name))) (come (bytes_at files name))

  module _ (held now : Option Files) (same : now ≡ held) (before after : Pieces) (stands : IfSome held (λ files. StandsAt (left_lines files name before) files)) where
    -- the next line, and those behind it
    with_line : (line : List ℕ) → line ≡ after.line.items → IfSome now (λ files. MovesOn files name before after (Ok true)) →
        IfSome held (λ files. StandsAt (line ∷ left_lines files name after) files)
    with_line line is moves =
        told_and {P = λ files. StandsAt (left_lines files name before) files} {Q = λ files. MovesOn files name before after (Ok true)}
        {R = λ files. StandsAt (line ∷ left_lines files name after) files}
        held now same
        (λ files at first. subst (λ (ls : List (List ℕ)). StandsAt ls files) (lines_of_first _ _ _ first ∙ ap (λ (l : List ℕ). l ∷ left_lines files name after) (sym is)) at)
        stands moves

    -- it is taken
    pub line_taken : (line : List ℕ) → line ≡ after.line.items → IfSome now (λ files. MovesOn files name before after (Ok true)) →
        (Q : Files → Type 0) → ((files : Files) → StandsAt (line ∷ left_lines files name after) files → Q files) → IfSome held Q
    line_taken line is moves Q leads = mapped held (λ files. StandsAt (line ∷ left_lines files name after) files) Q leads (with_line line is moves)
