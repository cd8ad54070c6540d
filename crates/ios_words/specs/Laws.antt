-- What the answers of the language's rows mean, in plain words.
use Rattle.std.specs.Prelude.{◌≡◌, ◌≢◌, ℕ, Bool, true, false, ◌↔◌, List, Contains, IsTrue, IsFalse}
use Rattle.std.specs.Prelude.{Result, Err}
use Rattle.ios_lines.specs.declared.line.Line.{Line}
use Rattle.ios_words.specs.declared.commands.Command.{Command}
use Rattle.ios_words.specs.declared.commands.Command.TheVariants as commands
use Rattle.ios_words.specs.declared.kinds.BlockKind.{BlockKind}
use Rattle.ios_words.specs.declared.kinds.BlockKind.TheVariants as kinds
use Rattle.ios_words.specs.declared.kinds.WordFault.{WordFault}
use Rattle.ios_words.specs.declared.kinds.WordFault.TheVariants as faults
use Rattle.ios_words.specs.Commands.{ReadBy, completes, is_extended_block, line_words, ReadsAs}
use Rattle.ios_words.specs.Commands.{IsUnknown, IsAnswer}
use Rattle.ios_words.specs.Language.{rows, inert_in}
use Rattle.ios_words.specs.Readings.{matches}
use Rattle.ios_words.specs.Rows.{Rule}

-- whether the row matches the line with every word in a block of this kind
abbrev pub Completes : List ℕ → Line → BlockKind → Rule → Type 0
Completes text line within rule =
    IsTrue (completes (is_extended_block within) (line_words text line) rule)

-- this is what a line says in a block of this kind, or why it says nothing, and not out of memory
pub record HasAnswer (text : List ℕ) (line : Line) (within : BlockKind)
    (answer : Result Command WordFault) : Type 0 where
  pub told : IsAnswer text line within answer
  pub known : answer ≢ Err faults.Memory

-- a line reads as one command, or is unknown, or has one faulty word: one of these and no two
abbrev pub AnswersAreOne : Type 0
AnswersAreOne =
    (text : List ℕ) (line : Line) (within : BlockKind) →
    ((answer : Result Command WordFault) × HasAnswer text line within answer) ×
    ((a b : Result Command WordFault) → HasAnswer text line within a →
    HasAnswer text line within b → a ≡ b)

-- a line is unknown exactly where no row of its block matches it
abbrev pub UnknownMatchesNone : Type 0
UnknownMatchesNone =
    (text : List ℕ) (line : Line) (within : BlockKind) → IsUnknown text line within ↔
    ((rule : Rule) → Contains (rows within) rule → IsFalse (matches (line_words text line) rule))

-- a line that an inert row of its block matches with every word is inert, whatever row matches it
-- too
abbrev pub InertCounts : Type 0
InertCounts =
    (text : List ℕ) (line : Line) (within : BlockKind) (rule : Rule) (command : Command) →
    Contains (inert_in within) rule →
    Completes text line within rule → ReadsAs text line within command → command ≡ commands.Inert

-- whether the command heads a block whose lines are read
abbrev pub heads_block : Command → Bool
heads_block (commands.Interface name) = true
heads_block (commands.RouterOspf number) = true
heads_block (commands.RouterBgp number) = true
heads_block (commands.ListBlock extended name) = true
heads_block _ = false

-- only top lines head blocks that are read
abbrev pub HeadsAreTopLines : Type 0
HeadsAreTopLines =
    (within : BlockKind) (ws : List (List ℕ)) (command : Command) →
    ReadBy (is_extended_block within) ws (rows within) command →
    IsTrue (heads_block command) → ReadBy false ws (rows kinds.Top) command
