-- Laws of files with edits at their command lines.
use Rattle.std.specs.Prelude.{◌≡◌, ℕ, List, None}
use Rattle.ios_lines.specs.Kinds.{open_banner}
use Rattle.ios_config.specs.declared.commands.FileCommand.{FileCommand}
use Rattle.ios_config.specs.Bare.{bare_config}
use Rattle.ios_config.specs.LineLists.{AreCommandsIn}
use Rattle.ios_config.specs.Texts.{config_of}
use Rattle.ios_config.specs.Twice.{StandOnce}
use Rattle.line_edit_laws.specs.Sites.{Site, new_lines, new_commands, AreGood}

-- the lines have commands, which set what these commands set
pub record SayTheSame (lines : List (List ℕ)) (commands : List FileCommand) : Type 0 where
  pub all : List FileCommand
  pub are : AreCommandsIn lines all
  pub outside : open_banner lines ≡ None
  pub set : bare_config (config_of all) ≡ bare_config (config_of commands)
  pub once : StandOnce commands → StandOnce all

-- lines with good edits at their commands say what the commands with these edits say
abbrev pub EditedLinesAreRead : Type 0
EditedLinesAreRead =
    (lines : List (List ℕ)) (commands : List FileCommand) (put : FileCommand → Site) →
    AreCommandsIn lines commands →
    open_banner lines ≡ None → AreGood commands put 1 lines commands →
    SayTheSame (new_lines put 1 lines commands) (new_commands put commands)
