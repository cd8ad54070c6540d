-- The forms and ranges of what commands hold.
use Rattle.std.specs.Prelude.{◌≡◌, ℕ, ◌^◌, ◌<◌, ◌≤◌, ◌⊎◌, List, Option, IsTrue, IfSome, decimal}
use Rattle.arc_base.specs.declared.prefix.Prefix.{Prefix}
use Rattle.ios_lines.specs.declared.line.Line.{Line}
use Rattle.ios_words.specs.declared.commands.Command.{Command}
use Rattle.ios_words.specs.declared.commands.Command.TheVariants.{Hostname, Interface, RouterOspf}
use Rattle.ios_words.specs.declared.commands.Command.TheVariants.{RouterBgp, ListBlock, ListLine}
use Rattle.ios_words.specs.declared.commands.Command.TheVariants.{PrefixLine, Address, NoAddress}
use Rattle.ios_words.specs.declared.commands.Command.TheVariants.{Shutdown, Bandwidth, Cost, Area}
use Rattle.ios_words.specs.declared.commands.Command.TheVariants.{Point, Group, Covers, Passive}
use Rattle.ios_words.specs.declared.commands.Command.TheVariants.{Reference, RouterId, RemoteAs}
use Rattle.ios_words.specs.declared.commands.Command.TheVariants.{NeighborDown, NeighborList, Tells}
use Rattle.ios_words.specs.declared.commands.Command.TheVariants.{Entry, Inert}
use Rattle.ios_words.specs.declared.kinds.BlockKind.{BlockKind}
use Rattle.ios_words.specs.Commands.{ReadsAs}
use Rattle.ios_words.specs.Names.{is_face_name}
use Rattle.arc_base.specs.NameForms.{is_name}

-- the number is from the first to the second
abbrev pub IsFrom : ℕ → ℕ → ℕ → Type 0
IsFrom low high n = (low ≤ n) × (n ≤ high)

-- the number is that of a standard list
abbrev pub IsStandard : ℕ → Type 0
IsStandard n = IsFrom 1 99 n ⊎ IsFrom 1300 1999 n

-- the number is that of an extended list
abbrev pub IsExtended : ℕ → Type 0
IsExtended n = IsFrom 100 199 n ⊎ IsFrom 2000 2699 n

-- the text is the number of a standard or an extended list
pub record IsListNumber (text : List ℕ) : Type 0 where
  pub number : ℕ
  pub written : text ≡ decimal number
  pub ranged : IsStandard number ⊎ IsExtended number

-- the lengths that a route of the prefix may have are from one that is no shorter than the prefix
-- up to one of at most 32
pub record AreLengths (prefix : Prefix) (low high : ℕ) : Type 0 where
  pub least : prefix.len ≤ low
  pub ordered : low ≤ high
  pub most : high ≤ 32

-- the number of an entry is from 1 to this one, where it has one
abbrev pub IsOrder : ℕ → Option ℕ → Type 0
IsOrder high order = IfSome order (IsFrom 1 high)

-- the names and numbers of the command have their forms and ranges; that its prefixes have no bit
-- past their length is seen from their type
abbrev pub IsInForm : Command → Type 0
IsInForm (Hostname name) = IsTrue (is_name name)
IsInForm (Interface name) = IsTrue (is_face_name name)
IsInForm (RouterOspf number) = IsFrom 1 65535 number
IsInForm (RouterBgp number) = IsFrom 1 4294967295 number
IsInForm (ListBlock extended name) = IsTrue (is_name name)
IsInForm (ListLine number entry) = IsListNumber number
IsInForm (PrefixLine name order route) =
    IsTrue (is_name name) × IsOrder 4294967294 order × AreLengths route.prefix route.low route.high
IsInForm (Address address length) = IsFrom 1 32 length
IsInForm NoAddress = Unit {0}
IsInForm (Shutdown down) = Unit {0}
IsInForm (Bandwidth number) = IsFrom 1 100000000 number
IsInForm (Cost number) = IsFrom 1 65535 number
IsInForm (Area area) = IsFrom 1 65535 area.process
IsInForm (Point point) = Unit {0}
IsInForm (Group name inbound) = IsTrue (is_name name)
IsInForm (Covers prefix area) = Unit {0}
IsInForm (Passive passive name) = IfSome name (λ n. IsTrue (is_face_name n))
IsInForm (Reference number) = IsFrom 1 4294967 number
IsInForm (RouterId address) = Unit {0}
IsInForm (RemoteAs address number) = IsFrom 1 4294967295 number
IsInForm (NeighborDown address down) = Unit {0}
IsInForm (NeighborList address name) = IsTrue (is_name name)
IsInForm (Tells prefix) = Unit {0}
IsInForm (Entry order entry) = IsOrder 2147483647 order
IsInForm Inert = Unit {0}

-- the addresses and areas of the command have 32 bits
abbrev pub AddressesFit : Command → Type 0
AddressesFit (Address address length) = address < 2 ^ 32
AddressesFit (Area area) = area.area < 2 ^ 32
AddressesFit (Covers prefix area) = area < 2 ^ 32
AddressesFit (RouterId address) = address < 2 ^ 32
AddressesFit (RemoteAs address number) = address < 2 ^ 32
AddressesFit (NeighborDown address down) = address < 2 ^ 32
AddressesFit (NeighborList address name) = address < 2 ^ 32
AddressesFit _ = Unit {0}

-- what a line reads as has its forms and ranges
abbrev pub CommandsAreInForm : Type 0
CommandsAreInForm =
    (text : List ℕ) (line : Line) (within : BlockKind) (command : Command) →
    ReadsAs text line within command → IsInForm command

-- and its addresses and areas have 32 bits
abbrev pub AllAddressesFit : Type 0
AllAddressesFit =
    (text : List ℕ) (line : Line) (within : BlockKind) (command : Command) →
    ReadsAs text line within command → AddressesFit command
