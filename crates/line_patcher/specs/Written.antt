-- The lines that edits write: each is that of a command.
use Rattle.std.specs.Prelude.{ℕ, Bool, true, false, List, codes, map, if◌then◌else◌}
use Rattle.ios_words.specs.declared.commands.Command.{Command}
use Rattle.ios_words.specs.declared.commands.Command.TheVariants.{Entry, Group, Inert, Passive}
use Rattle.ios_words.specs.declared.commands.Command.TheVariants.{NeighborDown, NeighborList}
use Rattle.ios_words.specs.declared.kinds.BlockKind.{BlockKind}
use Rattle.ios_words.specs.declared.kinds.BlockKind.TheVariants as blocks
use Rattle.ios_words.specs.Plain.{plain_line}

-- the kind of block in which edits write the command
abbrev pub home : Command → BlockKind
home (Passive passive name) = blocks.Ospf
home (NeighborDown peer down) = blocks.Bgp
home (NeighborList peer name) = blocks.Bgp
home (Group name inbound) = blocks.Interface
home (Entry order entry) = blocks.Extended
home _ = blocks.Top

-- whether the command says nothing
abbrev pub is_inert : Command → Bool
is_inert Inert = true
is_inert _ = false

-- the line of the command: its plain line, and an exclamation mark for a command that says nothing
abbrev pub line_of : Command → List ℕ
line_of command =
    if is_inert command then codes "!" else plain_line (home command) command

-- the lines of commands that have numbers
abbrev pub lines_at : List (ℕ × Command) → List (ℕ × List ℕ)
lines_at commands = map (λ c. (c.0, line_of c.1)) commands
