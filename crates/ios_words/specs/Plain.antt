-- The plain line of each command of a router file, and the blocks in which it may occur.
use Rattle.std.specs.Prelude.{◌≡◌, ◌≢◌, ℕ, Bool, true, false, List, [], ◌∷◌, ◌++◌, codes, decimal}
use Rattle.std.specs.Prelude.{Option, Some, IsTrue}
use Rattle.arc_base.specs.PrefixText.{address_text, number_of}
use Rattle.ios_lines.specs.Kinds.{IsHead, IsInner, IsSingle}
use Rattle.ios_lines.specs.Written.{IsWritten, spaced}
use Rattle.ios_words.specs.declared.commands.Command.{Command}
use Rattle.ios_words.specs.declared.commands.Command.TheVariants.{Hostname, Interface, RouterOspf}
use Rattle.ios_words.specs.declared.commands.Command.TheVariants.{RouterBgp, ListBlock, ListLine}
use Rattle.ios_words.specs.declared.commands.Command.TheVariants.{PrefixLine, Address, NoAddress}
use Rattle.ios_words.specs.declared.commands.Command.TheVariants.{Shutdown, Bandwidth, Cost, Area}
use Rattle.ios_words.specs.declared.commands.Command.TheVariants.{Point, Group, Covers, Passive}
use Rattle.ios_words.specs.declared.commands.Command.TheVariants.{Reference, RouterId, RemoteAs}
use Rattle.ios_words.specs.declared.commands.Command.TheVariants.{NeighborDown, NeighborList, Tells}
use Rattle.ios_words.specs.declared.commands.Command.TheVariants.{Entry}
use Rattle.ios_words.specs.declared.commands.PacketText.{PacketText}
use Rattle.ios_words.specs.declared.kinds.BlockKind.{BlockKind}
use Rattle.ios_words.specs.declared.kinds.BlockKind.TheVariants as blocks
use Rattle.ios_words.specs.Commands.{is_extended_block, ReadBy}
use Rattle.ios_words.specs.Forms.{AddressesFit, IsInForm}
use Rattle.ios_words.specs.Language.{rows}
use Rattle.ios_words.specs.Laws.{heads_block}
use Rattle.ios_words.specs.Numbers.{list_kind, mask}
use Rattle.ios_words.specs.Printed.{direction_word, entry_words, interface_word, kind_word}
use Rattle.ios_words.specs.Printed.{network_word, order_words, route_words, sequence_words}
use Rattle.ios_words.specs.Printed.{top_line, unless, wildcard_text}
use Rattle.ios_words.specs.Services.{IsWritable, are_all}

-- the plain words of a command in a block of this kind; none if it occurs in no such block
abbrev pub plain_words : BlockKind → Command → List (List ℕ)
plain_words blocks.Top (Hostname name) = codes "hostname" ∷ name ∷ []
plain_words blocks.Top (Interface name) = codes "interface" ∷ name ∷ []
plain_words blocks.Top (RouterOspf number) = codes "router" ∷ codes "ospf" ∷ decimal number ∷ []
plain_words blocks.Top (RouterBgp number) = codes "router" ∷ codes "bgp" ∷ decimal number ∷ []
plain_words blocks.Top (ListBlock extended name) =
    codes "ip" ∷ codes "access-list" ∷ kind_word extended ∷ name ∷ []
plain_words blocks.Top (ListLine number e) =
    codes "access-list" ∷ number ∷ entry_words (list_kind (number_of number)) e
plain_words blocks.Top (PrefixLine name order e) =
    codes "ip" ∷ codes "prefix-list" ∷ name ∷ sequence_words order ++ route_words e
plain_words blocks.Interface (Address address length) =
    codes "ip" ∷ codes "address" ∷ address_text address ∷ address_text (mask length) ∷ []
plain_words blocks.Interface NoAddress = codes "no" ∷ codes "ip" ∷ codes "address" ∷ []
plain_words blocks.Interface (Shutdown down) = unless down (codes "shutdown" ∷ [])
plain_words blocks.Interface (Bandwidth number) = codes "bandwidth" ∷ decimal number ∷ []
plain_words blocks.Interface (Cost number) =
    codes "ip" ∷ codes "ospf" ∷ codes "cost" ∷ decimal number ∷ []
plain_words blocks.Interface (Area area) =
    codes "ip" ∷ codes "ospf" ∷ decimal area.process ∷ codes "area" ∷ decimal area.area ∷ []
plain_words blocks.Interface (Point point) =
    codes "ip" ∷ codes "ospf" ∷ codes "network" ∷ network_word point ∷ []
plain_words blocks.Interface (Group name inbound) =
    codes "ip" ∷ codes "access-group" ∷ name ∷ direction_word inbound ∷ []
plain_words blocks.Ospf (Covers p area) =
    codes "network" ∷ address_text p.addr ∷ wildcard_text p ∷ codes "area" ∷ decimal area ∷ []
plain_words blocks.Ospf (Passive passive name) =
    unless passive (codes "passive-interface" ∷ interface_word name ∷ [])
plain_words blocks.Ospf (Reference number) =
    codes "auto-cost" ∷ codes "reference-bandwidth" ∷ decimal number ∷ []
plain_words blocks.Ospf (RouterId address) = codes "router-id" ∷ address_text address ∷ []
plain_words blocks.Bgp (RemoteAs address number) =
    codes "neighbor" ∷ address_text address ∷ codes "remote-as" ∷ decimal number ∷ []
plain_words blocks.Bgp (NeighborDown address down) =
    unless down (codes "neighbor" ∷ address_text address ∷ codes "shutdown" ∷ [])
plain_words blocks.Bgp (NeighborList address name) =
    codes "neighbor" ∷ address_text address ∷ codes "prefix-list" ∷ name ∷ codes "in" ∷ []
plain_words blocks.Bgp (Tells p) =
    codes "network" ∷ address_text p.addr ∷ codes "mask" ∷ address_text (mask p.len) ∷ []
plain_words blocks.Bgp (RouterId address) =
    codes "bgp" ∷ codes "router-id" ∷ address_text address ∷ []
plain_words blocks.Extended (Entry order e) = order_words order ++ entry_words (Some true) e
plain_words blocks.Standard (Entry order e) = order_words order ++ entry_words (Some false) e
plain_words _ _ = []

-- the entry may occur in a list of this kind. One entry of an extended list has services that are
-- writable; a standard list has neither destinations nor services.
abbrev pub FitsIn : Option Bool → PacketText → Type 0
FitsIn (Some true) e = IsWritable e
FitsIn _ e = (e.to.len ≡ 0) × IsTrue (are_all e.low e.high)

-- the command may occur in a block of this kind. No prefix list has the name of a line that says
-- nothing.
abbrev pub StandsIn : BlockKind → Command → Type 0
StandsIn blocks.Top (Hostname name) = Unit {0}
StandsIn blocks.Top (Interface name) = Unit {0}
StandsIn blocks.Top (RouterOspf number) = Unit {0}
StandsIn blocks.Top (RouterBgp number) = Unit {0}
StandsIn blocks.Top (ListBlock extended name) = Unit {0}
StandsIn blocks.Top (ListLine number e) = FitsIn (list_kind (number_of number)) e
StandsIn blocks.Top (PrefixLine name order e) = name ≢ codes "sequence-number"
StandsIn blocks.Interface (Address address length) = Unit {0}
StandsIn blocks.Interface NoAddress = Unit {0}
StandsIn blocks.Interface (Shutdown down) = Unit {0}
StandsIn blocks.Interface (Bandwidth number) = Unit {0}
StandsIn blocks.Interface (Cost number) = Unit {0}
StandsIn blocks.Interface (Area area) = Unit {0}
StandsIn blocks.Interface (Point point) = Unit {0}
StandsIn blocks.Interface (Group name inbound) = Unit {0}
StandsIn blocks.Ospf (Covers p area) = Unit {0}
StandsIn blocks.Ospf (Passive passive name) = Unit {0}
StandsIn blocks.Ospf (Reference number) = Unit {0}
StandsIn blocks.Ospf (RouterId address) = Unit {0}
StandsIn blocks.Bgp (RemoteAs address number) = Unit {0}
StandsIn blocks.Bgp (NeighborDown address down) = Unit {0}
StandsIn blocks.Bgp (NeighborList address name) = Unit {0}
StandsIn blocks.Bgp (Tells p) = Unit {0}
StandsIn blocks.Bgp (RouterId address) = Unit {0}
StandsIn blocks.Extended (Entry order e) = FitsIn (Some true) e
StandsIn blocks.Standard (Entry order e) = FitsIn (Some false) e
StandsIn _ _ = ⊥

-- a top line of these words, and a line of them in a block, which one space indents
abbrev pub line_of : BlockKind → List (List ℕ) → List ℕ
line_of blocks.Top ws = top_line ws
line_of _ ws = spaced ws

-- the plain line of a command in a block of this kind
abbrev pub plain_line : BlockKind → Command → List ℕ
plain_line within command = line_of within (plain_words within command)

-- the top line heads a block, or it is one that does not
abbrev pub IsTopLine : Bool → List ℕ → Type 0
IsTopLine true line = IsHead line
IsTopLine false line = IsSingle line

-- the line is a top line that heads a block exactly where the command does, or it is a line of a
-- block
abbrev pub HasKind : BlockKind → Command → List ℕ → Type 0
HasKind blocks.Top command line = IsTopLine (heads_block command) line
HasKind _ command line = IsInner line

-- the plain line of a command in a block of this kind has the command's words, it is a line of the
-- kind that the command asks for, and its words are read as the command
pub record IsReadBack (within : BlockKind) (command : Command) : Type 0 where
  pub written : IsWritten (plain_line within command) (plain_words within command)
  pub kind : HasKind within command (plain_line within command)
  pub reads : ReadBy (is_extended_block within) (plain_words within command) (rows within) command

-- the plain line of each command in form is read as the command, wherever it may occur
abbrev pub PlainLinesAreRead : Type 0
PlainLinesAreRead =
    (within : BlockKind) (command : Command) → StandsIn within command → IsInForm command →
    AddressesFit command → IsReadBack within command
