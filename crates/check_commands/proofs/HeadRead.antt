-- The answer of the first reading of a certificate.
use Rattle.std.proofs.Common.{◌≡◌, ℕ, List, [], ◌∷◌, sym, ◌∙◌, ap, subst, true, false}
use Rattle.std.specs.Prelude.{Bool, Option, Some, None, IfSome, Ok, unwrap_or}
use Rattle.arc_outside.specs.Files.{Files}
use Rattle.arc_outside.specs.LinesRead.{left}
use Rattle.arc_outside.specs.declared.pieces.Pieces.{Pieces}
use Rattle.arc_base.specs.TextLines.{lines}
use Rattle.run_files.specs.ReadingLines.{MovesOn}
use Rattle.run_files.specs.Refusals.{bytes_at, read_refusal}
use Rattle.run_files.proofs.LinesHanded.{lines_of_first}
use Rattle.run_files.proofs.WhereTold.{told_and}
use Rattle.check_commands.specs.Readings.{ReadsHead}
use Rattle.check_commands.specs.RepairChecks.{begins_repair}

-- the certificate is held, and this is whether it begins as that of a repair
abbrev pub Begins : List ℕ → Bool → Files → Type 0
Begins certificate begins files = begins ≡ begins_repair (lines (bytes_at files certificate))

module _ (certificate : List ℕ) (limit : ℕ) (before after : Pieces) (is_limit : before.limit ≡ limit) where
  within : (files : Files) → read_refusal before.limit files certificate ≡ None → read_refusal limit files certificate ≡ None
  within files none = subst (λ (n : ℕ). read_refusal n files certificate ≡ None) is_limit none

  -- a certificate without a line
  pub head_missing : (held : Option Files) → ((file : Option (List ℕ)) → left before file ≡ unwrap_or file []) → IfSome held (λ files. MovesOn files certificate before after (Ok false)) →
      IfSome held (λ files. ReadsHead limit files certificate (Ok false))
  head_missing None all moves = tt
  head_missing (Some files) all moves = (within files moves.1, ap (λ (text : List ℕ). begins_repair (lines text)) (sym moves.0 ∙ all (files certificate)))

  -- a certificate whose first line is read
  pub head_told : (held : Option Files) → ((file : Option (List ℕ)) → left before file ≡ unwrap_or file []) → (line : List ℕ) → line ≡ after.line.items →
      (begins : Bool) → begins ≡ begins_repair (line ∷ []) →
      IfSome held (λ files. MovesOn files certificate before after (Ok true)) → IfSome held (Begins certificate begins)
  head_told None all line is begins says moves = tt
  head_told (Some files) all line is begins says moves =
      says ∙ ap (λ (l : List ℕ). begins_repair (l ∷ [])) is
      ∙ ap begins_repair (sym (lines_of_first (left before (files certificate)) after.line.items (left after (files certificate)) moves) ∙ ap lines (all (files certificate)))

  -- the rest of it is read to its end
  pub head_kept : (held now : Option Files) → now ≡ held → (begins : Bool) → IfSome held (Begins certificate begins) → IfSome now (λ files. MovesOn files certificate before after (Ok false)) →
      IfSome held (λ files. ReadsHead limit files certificate (Ok begins))
  head_kept held now same begins told moves =
      told_and {P = Begins certificate begins} {Q = λ files. MovesOn files certificate before after (Ok false)} {R = λ files. ReadsHead limit files certificate (Ok begins)}
      held now same (λ files is none. (within files none.1, is)) told moves
