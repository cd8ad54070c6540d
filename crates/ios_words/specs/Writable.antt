-- What is read as an entry of a packet list can be written as one: its services are all, all of one
-- protocol, or ports of TCP or of UDP.
use Rattle.std.specs.Prelude.{ℕ, List}
use Rattle.ios_words.specs.declared.commands.Command.{Command}
use Rattle.ios_words.specs.declared.commands.Command.TheVariants.{Entry, ListLine}
use Rattle.ios_words.specs.declared.kinds.BlockKind.{BlockKind}
use Rattle.ios_words.specs.Commands.{ReadBy, is_extended_block}
use Rattle.ios_words.specs.Language.{rows}
use Rattle.ios_words.specs.Services.{IsWritable}

-- one entry of a packet list can say the services of the command, if it is an entry
abbrev pub HasWritable : Command → Type 0
HasWritable (Entry order entry) = IsWritable entry
HasWritable (ListLine name entry) = IsWritable entry
HasWritable other = Unit {0}

-- the services of each entry that is read can be written in one entry
abbrev pub ReadEntriesAreWritable : Type 0
ReadEntriesAreWritable =
    (within : BlockKind) (ws : List (List ℕ)) (command : Command) →
    ReadBy (is_extended_block within) ws (rows within) command → HasWritable command
