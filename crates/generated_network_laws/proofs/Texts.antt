-- Texts that are made of lines, each with a line feed after it.
use Rattle.std.proofs.Common.{◌≡◌, ℕ, List, [], ◌∷◌, ◌++◌, map, refl, sym, ap, ◌∙◌, inl}
use Rattle.std.specs.List.{AllByRecursion}
use Rattle.ios_lines.specs.Ended.{Ended, AreEnded, IsFree, HasNoReturn}
use Rattle.ios_lines.specs.Ended as ended_lines
use Rattle.ios_lines.specs.Texts.{text_lines}
use Rattle.ios_lines.proofs.EndedLines.{lines-of-text}
use Rattle.net_gen.specs.RouterFiles.{text_of}

-- nothing in the line ends a line
pub record IsPlain (line : List ℕ) : Type 0 where
  pub free : IsFree line
  pub no_return : HasNoReturn line

-- the line with a line feed
fed : List ℕ → Ended
fed line = record { line = line; end = 10 ∷ [] }

same-text : (lines : List (List ℕ)) → ended_lines.text_of (map fed lines) ≡ text_of lines
unfolding fed
same-text [] = refl
same-text (line ∷ lines) = ap (λ rest. (line ++ 10 ∷ []) ++ rest) (same-text lines)

same-lines : (lines : List (List ℕ)) → map (λ (l : Ended). l.line) (map fed lines) ≡ lines
unfolding fed
same-lines [] = refl
same-lines (line ∷ lines) = ap (λ rest. line ∷ rest) (same-lines lines)

are-ended : (lines : List (List ℕ)) → AllByRecursion IsPlain lines → AreEnded (map fed lines)
unfolding fed
are-ended [] plain = tt
are-ended (line ∷ []) plain = inl (record { free = plain.0.free; ends = inl (refl, plain.0.no_return) })
are-ended (line ∷ next ∷ lines) plain = (record { free = plain.0.free; ends = inl (refl, plain.0.no_return) }, are-ended (next ∷ lines) plain.1)

-- the lines of such a text
pub lines-of : (lines : List (List ℕ)) → AllByRecursion IsPlain lines → text_lines (text_of lines) ≡ lines
lines-of lines plain = ap text_lines (sym (same-text lines)) ∙ lines-of-text (map fed lines) (are-ended lines plain) ∙ same-lines lines
