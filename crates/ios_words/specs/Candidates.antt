-- Which rows may match a line, by its first letters.
use Rattle.std.specs.Prelude.{ℕ, ◌==◌, ◌&&◌, Bool, true, not, List, [], ◌∷◌, codes, slice_index}
use Rattle.std.specs.Str.{bytes_eq}
use Rattle.ios_words.specs.Rows.{Piece, Word, Rule}

-- the first byte of the first word, or 0 where there is none
abbrev pub letter : List (List ℕ) → ℕ
letter [] = 0
letter (word ∷ words) = slice_index word 0

-- whether a word begins with the letter
abbrev pub begins_with : ℕ → List ℕ → Bool
begins_with first word = slice_index word 0 == first

-- whether a word is ip
abbrev pub is_ip : List ℕ → Bool
is_ip word = bytes_eq word (codes "ip")

-- whether the parts may begin with a word other than ip that begins with the letter
abbrev pub parts_have_letter : ℕ → List Piece → Bool
parts_have_letter first [] = true
parts_have_letter first (Word word ∷ pieces) = begins_with first word && not (is_ip word)
parts_have_letter first (_ ∷ pieces) = true

-- whether the row may match a line whose first word is not ip and begins with the letter
abbrev pub has_letter : ℕ → Rule → Bool
has_letter first rule = parts_have_letter first rule.pieces

-- whether the parts may begin with a word that begins with the letter
abbrev pub parts_begin : ℕ → List Piece → Bool
parts_begin first [] = true
parts_begin first (Word word ∷ pieces) = begins_with first word
parts_begin first (_ ∷ pieces) = true

-- whether the parts may begin with ip and a word that begins with the letter
abbrev pub parts_follow_ip : ℕ → List Piece → Bool
parts_follow_ip first [] = true
parts_follow_ip first (Word word ∷ pieces) = is_ip word && parts_begin first pieces
parts_follow_ip first (_ ∷ pieces) = true

-- whether the row may match a line whose first word is ip and whose second begins with the letter
abbrev pub follows_ip : ℕ → Rule → Bool
follows_ip first rule = parts_follow_ip first rule.pieces
