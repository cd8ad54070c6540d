-- Banners: texts of one line or more that a router shows, which begin and end with a delimiter.
use Rattle.std.specs.Prelude.{ℕ, ◌==◌, ◌&&◌, Bool, false, if◌then◌else◌, List, [], ◌∷◌, drop}
use Rattle.std.specs.Prelude.{Option, Some, None, not}
use Rattle.std.specs.List.{list_any, zip}
use Rattle.ios_lines.specs.declared.banner.Delimiter.{Delimiter}
use Rattle.ios_lines.specs.declared.banner.Delimiter.TheVariants.{Pair, Byte, Missing}
use Rattle.arc_base.specs.Words.{is_blank}

-- the bytes from the first on that does not pass
abbrev pub skip : (ℕ → Bool) → List ℕ → List ℕ
skip p [] = []
skip p (b ∷ bytes) = if p b then skip p bytes else b ∷ bytes

-- what follows the first word of a line
abbrev pub after_word : List ℕ → List ℕ
after_word line = skip (λ b. not (is_blank b)) (skip is_blank line)

-- the text of a banner on its first line: what follows two words and the blanks after them
abbrev pub banner_text : List ℕ → List ℕ
banner_text line = skip is_blank (after_word (after_word line))

-- ^ and C occur in the line, the one right before the other
abbrev pub has_pair : List ℕ → Bool
has_pair line = list_any (λ both. (both.0 == 94) && (both.1 == 67)) (zip line (drop 1 line))

-- the delimiter occurs in the line
abbrev pub stands : Delimiter → List ℕ → Bool
stands Pair line = has_pair line
stands (Byte b) line = list_any (λ c. c == b) line
stands Missing line = false

-- the delimiter is the first two bytes of a banner's text where these are ^C, and else its first
-- byte
abbrev pub delimiter : List ℕ → Delimiter
delimiter [] = Missing
delimiter (b ∷ []) = Byte b
delimiter (b ∷ c ∷ rest) = if (b == 94) && (c == 67) then Pair else Byte b

-- how many bytes a delimiter has
abbrev pub size : Delimiter → ℕ
size Pair = 2
size (Byte b) = 1
size Missing = 0

-- what ends the banner that begins with this text, unless it ends on the same line
abbrev pub begun : List ℕ → Option Delimiter
begun text =
    if stands (delimiter text) (drop (size (delimiter text)) text) then None
    else Some (delimiter text)
