-- Blocks and lists that occur twice.
use Rattle.std.specs.Prelude.{◌≡◌, ℕ, List, [], ◌∷◌, ◌++◌, Option, Some, None, AllPairs, Any}
use Rattle.ios_words.specs.declared.commands.Command.{Command}
use Rattle.ios_words.specs.declared.commands.Command.TheVariants as commands
use Rattle.ios_config.specs.declared.commands.FileCommand.{FileCommand}

-- what may occur only once in a file: an interface, a process, a list as a block, and a list as
-- lines
pub data Stand : Type 0 where
  Interface : List ℕ → Stand
  Ospf : ℕ → Stand
  Bgp : ℕ → Stand
  ListBlock : List ℕ → Stand
  ListLines : List ℕ → Stand

-- what a command begins that may occur only once
abbrev pub stand_of : Command → Option Stand
stand_of (commands.Interface name) = Some (Interface name)
stand_of (commands.RouterOspf number) = Some (Ospf number)
stand_of (commands.RouterBgp number) = Some (Bgp number)
stand_of (commands.ListBlock extended name) = Some (ListBlock name)
stand_of (commands.ListLine name entry) = Some (ListLines name)
stand_of _ = None

-- What may not be there already where a command comes. Many lines make one list, but not beside a
-- block of its name.
abbrev pub excluded : Command → List Stand
excluded (commands.Interface name) = Interface name ∷ []
excluded (commands.RouterOspf number) = Ospf number ∷ []
excluded (commands.RouterBgp number) = Bgp number ∷ []
excluded (commands.ListBlock extended name) = ListBlock name ∷ ListLines name ∷ []
excluded (commands.ListLine name entry) = ListBlock name ∷ []
excluded _ = []

-- the earlier command begins what may not be there already where the later one comes
abbrev pub Clash : Command → Command → Type 0
Clash earlier later = Any (λ stand. stand_of earlier ≡ Some stand) (excluded later)

-- no two of the commands clash
abbrev pub StandOnce : List FileCommand → Type 0
StandOnce commands = AllPairs (λ b c. ¬ Clash b.command c.command) commands

-- the command of this line is the first that clashes with one before it
pub record IsFirstDuplicate (commands : List FileCommand) (line : ℕ) : Type 0 where
  pub before : List FileCommand
  pub command : FileCommand
  pub after : List FileCommand
  pub split : commands ≡ before ++ command ∷ after
  pub is_line : command.line ≡ line
  pub again : Any (λ b. Clash b.command command.command) before
  pub once : StandOnce before
