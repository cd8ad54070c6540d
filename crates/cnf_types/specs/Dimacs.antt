-- What a text in DIMACS form is read as: its formula, or its first fault.
use Rattle.std.specs.Prelude.{◌≡◌, ℕ, suc, ◌+◌, ◌^◌, ◌-◌, ℤ, pos, negsuc, Bool, true, false}
use Rattle.std.specs.Prelude.{if◌then◌else◌, ◌==◌, ◌&&◌, not, nat_le, nat_lt, List, [], ◌∷◌, length}
use Rattle.std.specs.Prelude.{map, filter, codes, Option, Some, None, option_and_then, is_none}
use Rattle.std.specs.Prelude.{Result, Ok, Err, find, filter_map, flat_map, sum_by}
use Rattle.std.specs.Option.{option_map, option_map_or}
use Rattle.std.specs.List.{list_any, slice_split, enumerate_from}
use Rattle.std.specs.Str.{bytes_eq}
use Rattle.arc_base.specs.declared.limits.TheConstants.{VARIABLE_LIMIT, LITERAL_LIMIT}
use Rattle.arc_base.specs.declared.refusal.LimitKind.TheVariants.{Literals, Variables}
use Rattle.cnf_types.specs.declared.literal.Lit.{Lit}
use Rattle.cnf_types.specs.declared.clauses.Clause.{Clause}
use Rattle.cnf_types.specs.declared.clauses.Formula.{Formula}
use Rattle.cnf_types.specs.declared.faults.CnfFault.{CnfFault}
use Rattle.cnf_types.specs.declared.faults.CnfFault.TheVariants.{BadHeader, BadNumber, Count}
use Rattle.cnf_types.specs.declared.faults.CnfFault.TheVariants.{TooLarge, Memory}
use Rattle.cnf_types.specs.declared.header.Header.{Header}
use Rattle.cnf_types.specs.Literals.{literal}
use Rattle.arc_base.specs.TextLines.{lines, without_return}
use Rattle.arc_base.specs.Words.{words}
use Rattle.arc_base.specs.WordNumbers.{natural, number}

-- a line that begins with the letter c is a comment
abbrev pub is_comment : List ℕ → Bool
is_comment [] = false
is_comment (b ∷ bytes) = b == 99

-- the lines that are no comments, each with its number, after `before` earlier lines
abbrev pub content : ℕ → List (List ℕ) → List (ℕ × List ℕ)
content before ls = filter (λ l. not (is_comment l.1)) (enumerate_from (before + 1) ls)

-- the words of a line of a file, which a carriage return may end
abbrev pub cnf_line_words : List ℕ → List (List ℕ)
cnf_line_words line = words (without_return line)

-- a number of 1 to 18 digits
abbrev pub count : List ℕ → Option ℕ
count word = if nat_le (length word) 18 then natural (2 ^ 63 - 1) word else None

-- the words are `p cnf`, the number of variables and the number of clauses
abbrev pub header : List (List ℕ) → Option Header
header (p ∷ cnf ∷ vars ∷ clauses ∷ []) =
    if bytes_eq p (codes "p") && bytes_eq cnf (codes "cnf")
    then option_and_then (λ v. option_map (λ c. record { vars = v; clauses = c }) (count clauses))
    (count vars) else None
header _ = None

-- the word is no whole number, or one above the number of variables
abbrev pub is_bad_word : ℕ → List ℕ → Bool
is_bad_word vars word = is_none (number vars word)

-- the first line with such a word
abbrev pub first_bad : ℕ → List (ℕ × List ℕ) → Option (ℕ × List ℕ)
first_bad vars ls = find (λ l. list_any (is_bad_word vars) (cnf_line_words l.1)) ls

-- the numbers that the words of a line write
abbrev pub line_numbers : ℕ → List (List ℕ) → List ℤ
line_numbers vars ws = filter_map (number vars) ws

-- the numbers of all lines
abbrev pub numbers : ℕ → List (ℕ × List ℕ) → List ℤ
numbers vars ls = flat_map (λ l. line_numbers vars (cnf_line_words l.1)) ls

-- a positive number is its variable, a negative one the variable's negation
abbrev pub literal_of : ℤ → Lit
literal_of (pos n) = literal n true
literal_of (negsuc n) = literal (suc n) false

abbrev pub is_zero : ℤ → Bool
is_zero (pos n) = n == 0
is_zero (negsuc n) = false

-- the literals before each 0, and those after the last 0
abbrev pub pieces : List ℤ → List (List Lit)
pieces zs = map (map literal_of) (slice_split is_zero zs)

-- the clauses that a 0 closes: all pieces but the last
abbrev pub closed : List (List Lit) → List Clause
closed [] = []
closed (p ∷ []) = []
closed (p ∷ q ∷ ps) = record { lits = p } ∷ closed (q ∷ ps)

-- whether no literal follows the last 0
abbrev pub ends_closed : List (List Lit) → Bool
ends_closed [] = true
ends_closed ([] ∷ []) = true
ends_closed ((l ∷ ls) ∷ []) = false
ends_closed (p ∷ q ∷ ps) = ends_closed (q ∷ ps)

-- the formula, if it has no more than LITERAL_LIMIT literals
abbrev pub sized : ℕ → List (List Lit) → Result Formula CnfFault
sized vars ps =
    if nat_le (sum_by length ps) LITERAL_LIMIT then Ok (record { vars = vars; clauses = closed ps })
    else Err (TooLarge Literals (sum_by length ps))

-- the same, if there are as many clauses as the header says, each of them closed
abbrev pub counted : Header → ℕ → List (List Lit) → Result Formula CnfFault
counted h last ps =
    if (length (closed ps) == h.clauses) && ends_closed ps then sized h.vars ps
    else Err (Count last)

-- the same, if there is no bad line
abbrev pub judged : Header → ℕ → Option (ℕ × List ℕ) → List (List Lit) → Result Formula CnfFault
judged h last None ps = counted h last ps
judged h last (Some line) ps = Err (BadNumber line.0)

-- what follows the header, in a text of `last` lines
abbrev pub after_header : ℕ → List (ℕ × List ℕ) → Header → Result Formula CnfFault
after_header last ls h =
    if nat_lt VARIABLE_LIMIT h.vars then Err (TooLarge Variables h.vars)
    else judged h last (first_bad h.vars ls) (pieces (numbers h.vars ls))

-- the first line that is no comment is the header
abbrev pub from_header : ℕ → List (ℕ × List ℕ) → Result Formula CnfFault
from_header last [] = Err (BadHeader last)
from_header last (l ∷ ls) =
    option_map_or (after_header last ls) (header (cnf_line_words l.1)) (Err (BadHeader l.0))

-- what the whole text is read as
unfoldable pub reading : List ℕ → Result Formula CnfFault
reading text = from_header (length (lines text)) (content 0 (lines text))

-- the fault is that of the text, or out of memory
abbrev pub IsFaultOfCnf : List ℕ → CnfFault → Type 0
IsFaultOfCnf text Memory = Unit {0}
IsFaultOfCnf text (BadHeader n) = reading text ≡ Err (BadHeader n)
IsFaultOfCnf text (BadNumber n) = reading text ≡ Err (BadNumber n)
IsFaultOfCnf text (Count n) = reading text ≡ Err (Count n)
IsFaultOfCnf text (TooLarge kind n) = reading text ≡ Err (TooLarge kind n)
