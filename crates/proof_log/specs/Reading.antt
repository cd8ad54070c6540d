-- What a line of a proof log is read as.
use Rattle.std.specs.Prelude.{◌≡◌, ℕ, ◌-◌, ◌^◌, ℤ, pos, negsuc, Bool, true, false}
use Rattle.std.specs.Prelude.{if◌then◌else◌, ◌&&◌, ◌||◌, not, codes, nat_lt, List, []}
use Rattle.std.specs.Prelude.{◌∷◌, map, Option, Some, None, is_none, Result, Ok, Err, filter_map}
use Rattle.std.specs.Prelude.{unsigned_abs}
use Rattle.std.specs.List.{list_any, list_all, slice_split}
use Rattle.std.specs.Str.{bytes_eq}
use Rattle.arc_base.specs.WordNumbers.{number}
use Rattle.cnf_types.specs.Dimacs.{is_comment, cnf_line_words, is_zero, literal_of}
use Rattle.arc_base.specs.TextLines.{without_return}
use Rattle.arc_base.specs.Words.{is_filled}
use Rattle.proof_log.specs.declared.numbers.Sign.{Sign}
use Rattle.proof_log.specs.declared.numbers.Sign.TheVariants.{Adds, Drops, Bounds}
use Rattle.proof_log.specs.declared.steps.Step.{Step}
use Rattle.proof_log.specs.declared.steps.Step.TheVariants.{Add, Drop, Bound}
use Rattle.proof_log.specs.declared.reading.LineKind.{LineKind}
use Rattle.proof_log.specs.declared.reading.LineKind.TheVariants.{BadLine, BadNumber, Memory}

-- the whole number of a word, if its absolute value is below 2 ^ 63
abbrev pub log_number : List ℕ → Option ℤ
log_number word = number (2 ^ 63 - 1) word

-- the letters d and b mean a drop and a bound
abbrev pub sign_of : List ℕ → Sign
sign_of word =
    if bytes_eq word (codes "d") then Drops
    else (if bytes_eq word (codes "b") then Bounds else Adds)

-- what the word in the second place says that a line does
abbrev pub sign : List (List ℕ) → Sign
sign [] = Adds
sign (first ∷ []) = Adds
sign (first ∷ second ∷ rest) = sign_of second

-- a word, unless it is one of these letters
abbrev pub unless_sign : Sign → List ℕ → List (List ℕ) → List (List ℕ)
unless_sign Adds word rest = word ∷ rest
unless_sign Drops word rest = rest
unless_sign Bounds word rest = rest

-- the words that are to be numbers: all but one of these letters in the second place
abbrev pub number_words : List (List ℕ) → List (List ℕ)
number_words [] = []
number_words (first ∷ []) = first ∷ []
number_words (first ∷ second ∷ rest) = first ∷ unless_sign (sign_of second) second rest

abbrev pub is_bad : List ℕ → Bool
is_bad word = is_none (log_number word)

-- the numbers of these words
abbrev pub numbers : List (List ℕ) → List ℤ
numbers ws = filter_map log_number ws

abbrev pub is_positive_number : ℤ → Bool
is_positive_number (pos n) = nat_lt 0 n
is_positive_number (negsuc n) = false

abbrev pub is_negative : ℤ → Bool
is_negative (pos n) = false
is_negative (negsuc n) = true

-- `ID LITS 0 HINTS 0`, from what is between the zeros after the id
abbrev pub add_of : ℤ → List (List ℤ) → Option Step
add_of id (lits ∷ hints ∷ [] ∷ []) =
    if is_positive_number id then Some (Add (unsigned_abs id) (map literal_of lits) hints) else None
add_of id _ = None

-- `NUM d IDS 0`
abbrev pub drop_of : ℤ → List (List ℤ) → Option Step
drop_of num (ids ∷ [] ∷ []) =
    if not (is_negative num) && list_all is_positive_number ids
    then Some (Drop (map unsigned_abs ids)) else None
drop_of num _ = None

-- `ID b W 0`
abbrev pub bound_of : ℤ → List ℤ → Option Step
bound_of id (price ∷ end ∷ []) = if is_positive_number id &&
    (not (is_negative price) && nat_lt (unsigned_abs price) (2 ^ 32) && is_zero end)
    then Some (Bound (unsigned_abs id) (unsigned_abs price)) else None
bound_of id _ = None

-- a step, or a line of no such form
abbrev pub ok_or_bad_line : Option Step → Result (Option Step) LineKind
ok_or_bad_line None = Err BadLine
ok_or_bad_line (Some s) = Ok (Some s)

-- the step that these numbers write in a line of this sign
abbrev pub formed : Sign → List ℤ → Option Step
formed s [] = None
formed Adds (id ∷ zs) = add_of id (slice_split is_zero zs)
formed Drops (num ∷ zs) = drop_of num (slice_split is_zero zs)
formed Bounds (id ∷ zs) = bound_of id zs

-- the step that a line's words write: each number has to be good, and then the line has to have one
-- of the three forms
abbrev pub step_of_words : List (List ℕ) → Result (Option Step) LineKind
step_of_words ws =
    if list_any is_bad (number_words ws) then Err BadNumber
    else ok_or_bad_line (formed (sign ws) (numbers (number_words ws)))

-- what a line is read as; an empty line and a comment are read as no step
unfoldable pub reading : List ℕ → Result (Option Step) LineKind
reading line =
    if not (is_filled (without_return line)) || is_comment line then Ok None
    else step_of_words (cnf_line_words line)

-- the fault is that of the line, or out of memory
abbrev pub IsFaultOfLine : List ℕ → LineKind → Type 0
IsFaultOfLine line Memory = Unit {0}
IsFaultOfLine line BadLine = reading line ≡ Err BadLine
IsFaultOfLine line BadNumber = reading line ≡ Err BadNumber
