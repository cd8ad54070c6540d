-- The commands of a file after one line was replaced.
use Rattle.std.specs.Prelude.{◌≡◌, ℕ, ◌+◌, false, List, ◌∷◌, ◌++◌, slice_get, Some}
use Rattle.ios_lines.specs.declared.line.Lines.{Lines}
use Rattle.ios_lines.specs.Lines.{AreLinesOf}
use Rattle.ios_lines.specs.Views.{Mark, line_marks}
use Rattle.ios_lines.specs.Changes.{changed, mark_worded}
use Rattle.ios_words.specs.declared.kinds.BlockKind.{BlockKind}
use Rattle.ios_words.specs.declared.commands.Command.{Command}
use Rattle.ios_words.specs.Commands.{is_extended_block, ReadBy}
use Rattle.ios_words.specs.Language.{rows}
use Rattle.ios_config.specs.declared.commands.FileCommand.{FileCommand}
use Rattle.ios_config.specs.Commands.{AreCommandsOf}
use Rattle.ios_config.specs.Inserted.{IsMarkWithin, command_at}

-- the rows of the new text are those of the old one, except for the words of one that says
-- something and heads no block
pub record HasOtherWords (old new : List ℕ) (lines more : Lines) (place : ℕ) (m : Mark)
    (ws : List (List ℕ)) : Type 0 where
  pub old_lines : AreLinesOf old lines
  pub rows : line_marks new more ≡ changed place (mark_worded ws) (line_marks old lines)
  pub at_place : slice_get (line_marks old lines) place ≡ Some m
  pub says : m.inert ≡ false
  pub no_head : m.head ≡ false

-- the command of the line is among the others; if the new words are read as another one, that takes
-- its place
pub record HasOtherCommand (old new : List ℕ) (lines more : Lines) (place : ℕ) (m : Mark)
    (ws : List (List ℕ)) (commands : List FileCommand) : Type 0 where
  pub front : List FileCommand
  pub command : FileCommand
  pub back : List FileCommand
  pub split : commands ≡ front ++ command ∷ back
  pub line : command.line ≡ place + 1
  pub block : command.block ≡ m.block
  pub within : BlockKind
  pub stands : IsMarkWithin (line_marks old lines) m within
  pub reads : ReadBy (is_extended_block within) m.words (rows within) command.command
  pub other : (c : Command) → ReadBy (is_extended_block within) ws (rows within) c →
      AreCommandsOf new more (front ++ command_at command.line command.block c ∷ back)

-- a line of other words has another command, and the other lines have theirs
abbrev pub AReplacedLineHasAnotherCommand : Type 0
AReplacedLineHasAnotherCommand =
    (old new : List ℕ) (lines more : Lines) (place : ℕ) (m : Mark) (ws : List (List ℕ))
    (commands : List FileCommand) → HasOtherWords old new lines more place m ws →
    AreCommandsOf old lines commands → HasOtherCommand old new lines more place m ws commands
