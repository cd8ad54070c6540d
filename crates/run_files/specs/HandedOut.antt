-- Lines that are handed out one after another.
use Rattle.std.specs.Prelude.{◌≡◌, ◌↔◌, ℕ, List, [], ◌∷◌}
use Rattle.arc_outside.specs.Lines.{IsFirstLine}
use Rattle.arc_base.specs.TextLines.{lines}

-- each is the first line of what those before it leave of the text, and in the end nothing is left
abbrev pub AreHandedOut : List ℕ → List (List ℕ) → Type 0
AreHandedOut text [] = text ≡ []
AreHandedOut text (line ∷ ls) =
    (rest : List ℕ) × (IsFirstLine text line rest × AreHandedOut rest ls)

-- what is handed out so is the lines of the text, and nothing else is
abbrev pub LinesAreHandedOut : Type 0
LinesAreHandedOut = (text : List ℕ) (ls : List (List ℕ)) → AreHandedOut text ls ↔ (ls ≡ lines text)
