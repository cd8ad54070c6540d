-- The blocks of the interfaces that commands set.
use Rattle.std.specs.Prelude.{◌≡◌, ℕ, List, Contains}
use Rattle.ios_words.specs.declared.commands.Command.TheVariants as commands
use Rattle.ios_words.specs.declared.kinds.BlockKind.TheVariants as kinds
use Rattle.ios_config.specs.declared.commands.FileCommand.{FileCommand}
use Rattle.ios_config.specs.declared.settings.FaceText.{FaceText}
use Rattle.ios_config.specs.Appended.{HasBlock}
use Rattle.ios_config.specs.LineLists.{AreCommandsIn}
use Rattle.ios_config.specs.Texts.{config_of}

-- the block of an interface among the commands: its head and its last command
pub record HasFaceBlock (cs : List FileCommand) (face : FaceText) : Type 0 where
  pub head : FileCommand
  pub last : FileCommand
  pub block : HasBlock cs head last kinds.Interface
  pub name : head.command ≡ commands.Interface face.name
  pub head_line : face.head ≡ head.line
  pub last_line : face.last ≡ last.line

-- each interface that the commands set has its block among them
abbrev pub FacesHaveBlocks : Type 0
FacesHaveBlocks =
    (lines : List (List ℕ)) (cs : List FileCommand) (face : FaceText) → AreCommandsIn lines cs →
    Contains (config_of cs).faces face → HasFaceBlock cs face
