-- The commands of a list of lines of which one is another.
use Rattle.std.specs.Prelude.{◌≡◌, ℕ, ◌+◌, false, List, ◌∷◌, ◌++◌, slice_get, Some}
use Rattle.arc_base.specs.Words.{words}
use Rattle.ios_lines.specs.Views.{Mark}
use Rattle.ios_lines.specs.Changes.{replaced, MayReplaceAt}
use Rattle.ios_words.specs.declared.kinds.BlockKind.{BlockKind}
use Rattle.ios_words.specs.declared.commands.Command.{Command}
use Rattle.ios_words.specs.Commands.{is_extended_block, ReadBy}
use Rattle.ios_words.specs.Language.{rows}
use Rattle.ios_config.specs.declared.commands.FileCommand.{FileCommand}
use Rattle.ios_config.specs.Inserted.{IsMarkWithin, command_at}
use Rattle.ios_config.specs.LineLists.{marks_in, AreCommandsIn}

-- the command of the line is among the others; if the new line is read as another one, that takes
-- its place
pub record IsReplacedIn (lines : List (List ℕ)) (commands : List FileCommand) (place : ℕ) (m : Mark)
    (line : List ℕ) : Type 0 where
  pub front : List FileCommand
  pub command : FileCommand
  pub back : List FileCommand
  pub split : commands ≡ front ++ command ∷ back
  pub number : command.line ≡ place + 1
  pub block : command.block ≡ m.block
  pub within : BlockKind
  pub stands : IsMarkWithin (marks_in lines) m within
  pub reads : ReadBy (is_extended_block within) m.words (rows within) command.command
  pub other : (c : Command) → ReadBy (is_extended_block within) (words line) (rows within) c →
      AreCommandsIn (replaced place line lines)
      (front ++ command_at command.line command.block c ∷ back)

-- a line that takes the place of another of its kind, which says something and heads no block, has
-- another command, and the other lines have theirs
abbrev pub AReplacedLineIsIn : Type 0
AReplacedLineIsIn =
    (lines : List (List ℕ)) (commands : List FileCommand) (place : ℕ) (m : Mark) (line : List ℕ) →
    AreCommandsIn lines commands → MayReplaceAt lines place line →
    slice_get (marks_in lines) place ≡ Some m → m.inert ≡ false → m.head ≡ false →
    IsReplacedIn lines commands place m line
