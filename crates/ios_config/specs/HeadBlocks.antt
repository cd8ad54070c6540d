-- The blocks of commands that head one.
use Rattle.std.specs.Prelude.{◌≡◌, ℕ, List, Contains, IsTrue}
use Rattle.ios_words.specs.Laws.{heads_block}
use Rattle.ios_config.specs.declared.commands.FileCommand.{FileCommand}
use Rattle.ios_config.specs.LineLists.{AreCommandsIn}

-- a command that heads a block which is read is in the block of its own number
abbrev pub HeadsStandInTheirBlocks : Type 0
HeadsStandInTheirBlocks =
    (lines : List (List ℕ)) (commands : List FileCommand) (c : FileCommand) →
    AreCommandsIn lines commands →
    Contains commands c → IsTrue (heads_block c.command) → c.block ≡ c.line
