-- The commands of a file by their blocks and lists.
use Rattle.std.specs.Prelude.{ℕ, ◌==◌, Bool, false, not, List, [], ◌∷◌, map, filter, bytes_eq}
use Rattle.ios_words.specs.declared.commands.Command.{Command}
use Rattle.ios_words.specs.declared.commands.Command.TheVariants.{ListLine, PrefixLine}
use Rattle.ios_config.specs.declared.commands.FileCommand.{FileCommand}

-- where a command belongs: to the block of this head, or to the list of this name that is written
-- as lines
pub data Part : Type 0 where
  Block : ℕ → Part
  Lines : List ℕ → Part
  PrefixLines : List ℕ → Part

-- whether two are the same
abbrev pub is_same : Part → Part → Bool
is_same (Block a) (Block b) = a == b
is_same (Lines a) (Lines b) = bytes_eq a b
is_same (PrefixLines a) (PrefixLines b) = bytes_eq a b
is_same _ _ = false

-- the part of a command in the block of this head
abbrev pub part_in : ℕ → Command → Part
part_in block (ListLine name entry) = Lines name
part_in block (PrefixLine name number entry) = PrefixLines name
part_in block _ = Block block

abbrev pub part_of : FileCommand → Part
part_of c = part_in c.block c.command

-- each part once, in the order of their first commands
abbrev pub distinct : List Part → List Part
distinct [] = []
distinct (p ∷ ps) = p ∷ filter (λ q. not (is_same p q)) (distinct ps)

-- the commands of a part, in file order
abbrev pub members : List FileCommand → Part → List FileCommand
members commands part = filter (λ c. is_same part (part_of c)) commands

-- the commands of each part, in the order of the parts' first commands
abbrev pub groups : List FileCommand → List (List FileCommand)
groups commands = map (members commands) (distinct (map part_of commands))
