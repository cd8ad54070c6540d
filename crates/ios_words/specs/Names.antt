-- Names as router files write them.
use Rattle.std.specs.Prelude.{ℕ, ◌==◌, ◌&&◌, ◌||◌, nat_le, Bool, false, not, List, [], ◌∷◌, length}
use Rattle.std.specs.Prelude.{drop, take, IsTrue}
use Rattle.std.specs.Char.{is_ascii_digit}
use Rattle.std.specs.List.{list_all, list_any, slice_split}
use Rattle.std.specs.Str.{bytes_eq}
use Rattle.arc_base.specs.declared.limits.TheConstants.{NAME_LIMIT}
use Rattle.arc_base.specs.NameForms.{is_name, IsName, IsFaceName, face_kinds}

-- whether a text is a number of any length: digits, with no zero before another digit
abbrev pub is_numeral : List ℕ → Bool
is_numeral [] = false
is_numeral (b ∷ rest) =
    is_ascii_digit b && list_all is_ascii_digit rest && (not (b == 48) || (length rest == 0))

-- whether a text is numbers joined by slashes
abbrev pub is_unit : List ℕ → Bool
is_unit text = list_all is_numeral (slice_split (λ b. b == 47) text)

-- whether a word is this kind and then numbers joined by slashes
abbrev pub is_of_kind : List ℕ → List ℕ → Bool
is_of_kind word kind = bytes_eq (take (length kind) word) kind && is_unit (drop (length kind) word)

-- whether a word is the name of an interface: a kind and its numbers, at most NAME_LIMIT bytes in
-- all
abbrev pub is_face_name : List ℕ → Bool
is_face_name word = nat_le (length word) NAME_LIMIT && list_any (is_of_kind word) face_kinds

-- a word that passes the test of a name is one
abbrev pub NamesHaveTheirForm : Type 0
NamesHaveTheirForm = (name : List ℕ) →
    (IsTrue (is_name name) → IsName name) × (IsTrue (is_face_name name) → IsFaceName name)
