-- What a line of a router file says, and when it is unknown or faulty.
use Rattle.std.specs.Prelude.{◌≡◌, ℕ, Bool, true, false, List, find, is_ok, Some, None, Result, Ok}
use Rattle.std.specs.Prelude.{Err, if◌then◌else◌}
use Rattle.ios_lines.specs.declared.line.Line.{Line}
use Rattle.ios_words.specs.declared.commands.Command.{Command}
use Rattle.ios_words.specs.declared.kinds.BlockKind.{BlockKind}
use Rattle.ios_words.specs.declared.kinds.BlockKind.TheVariants as blocks
use Rattle.ios_words.specs.declared.kinds.WordFault.{WordFault}
use Rattle.ios_words.specs.declared.kinds.WordFault.TheVariants as faults
use Rattle.ios_words.specs.Language.{rows}
use Rattle.ios_words.specs.Meanings.{give}
use Rattle.ios_words.specs.Readings.{matches, read}
use Rattle.ios_words.specs.Rows.{Rule}
pub use Rattle.ios_lines.specs.Texts.{LiesInText, HasWordsIn}
pub use Rattle.ios_words.specs.Spans.{line_words}
use Rattle.ios_words.specs.Values.{Values}

-- whether a side of an entry in the block is that of an extended list
abbrev pub is_extended_block : BlockKind → Bool
is_extended_block blocks.Extended = true
is_extended_block _ = false

-- whether the row matches the words, and each of them is of its form and range, none missing and
-- none too many
abbrev pub completes : Bool → List (List ℕ) → Rule → Bool
completes extended words rule =
    if matches words rule then is_ok (read extended words rule) else false

-- some row matches the words with every word, and the first such row gives the command; inert rows
-- come first where another row matches too
pub record ReadBy (extended : Bool) (words : List (List ℕ)) (rules : List Rule)
    (command : Command) : Type 0 where
  pub rule : Rule
  pub values : Values
  pub first : find (completes extended words) rules ≡ Some rule
  pub complete : read extended words rule ≡ Ok values
  pub gives : command ≡ give rule.meaning values

-- no row matches the words
abbrev pub UnknownBy : List (List ℕ) → List Rule → Type 0
UnknownBy words rules = find (matches words) rules ≡ None

-- some row matches the words and none with every word, and by the first row that matches the words
-- have this fault
pub record FaultyBy (extended : Bool) (words : List (List ℕ)) (rules : List Rule)
    (fault : WordFault) : Type 0 where
  pub rule : Rule
  pub none : find (completes extended words) rules ≡ None
  pub first : find (matches words) rules ≡ Some rule
  pub faulty : read extended words rule ≡ Err fault

-- what the rows say of the words: a command, that no row matches, or the faulty word
abbrev pub AnswerBy : Bool → List (List ℕ) → List Rule → Result Command WordFault → Type 0
AnswerBy extended words rules (Ok command) = ReadBy extended words rules command
AnswerBy extended words rules (Err faults.Unknown) = UnknownBy words rules
AnswerBy extended words rules (Err (faults.BadWord place)) =
    FaultyBy extended words rules (faults.BadWord place)
AnswerBy extended words rules (Err faults.WildcardNotPrefix) =
    FaultyBy extended words rules faults.WildcardNotPrefix
AnswerBy extended words rules (Err faults.Memory) = Unit {0}

-- the line of the text says this in a block of this kind
abbrev pub ReadsAs : List ℕ → Line → BlockKind → Command → Type 0
ReadsAs text line within command =
    ReadBy (is_extended_block within) (line_words text line) (rows within) command

-- no row of the language matches the line
abbrev pub IsUnknown : List ℕ → Line → BlockKind → Type 0
IsUnknown text line within = UnknownBy (line_words text line) (rows within)

-- the word at this place, from 1, is the line's faulty word: out of its form or range, missing or
-- one too many
abbrev pub HasBadWord : List ℕ → Line → BlockKind → ℕ → Type 0
HasBadWord text line within place =
    FaultyBy (is_extended_block within) (line_words text line) (rows within) (faults.BadWord place)

-- the line's faulty word is an address where a mask or wildcard is wanted, but not contiguous
abbrev pub HasBadWildcard : List ℕ → Line → BlockKind → Type 0
HasBadWildcard text line within =
    FaultyBy (is_extended_block within) (line_words text line) (rows within)
    faults.WildcardNotPrefix

-- what a line says in a block of this kind, or why it says nothing; out of memory says nothing of
-- it
abbrev pub IsAnswer : List ℕ → Line → BlockKind → Result Command WordFault → Type 0
IsAnswer text line within (Ok command) = ReadsAs text line within command
IsAnswer text line within (Err faults.Unknown) = IsUnknown text line within
IsAnswer text line within (Err (faults.BadWord place)) = HasBadWord text line within place
IsAnswer text line within (Err faults.WildcardNotPrefix) = HasBadWildcard text line within
IsAnswer text line within (Err faults.Memory) = Unit {0}
