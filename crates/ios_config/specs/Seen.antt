-- What the references of the code mean.
use Rattle.std.specs.Prelude.{List, map, Vec}
use Rattle.std.specs.declared.alloc.Global.{Global}
use denote.Ref.{Bor}
use Rattle.ios_config.specs.declared.commands.FileCommand.{FileCommand}
use Rattle.ios_config.specs.declared.parts.Part as keys
use Rattle.ios_config.specs.declared.parts.Part.TheVariants as variants
use Rattle.ios_config.specs.declared.twice.Stand as stands
use Rattle.ios_config.specs.declared.twice.Stand.TheVariants as ways
use Rattle.ios_config.specs.Groups.{Part, Block, Lines, PrefixLines}
use Rattle.ios_config.specs.Twice.{Stand, Interface, Ospf, Bgp, ListBlock, ListLines}

abbrev pub part_seen : keys.Part → Part
part_seen (variants.Block head) = Block head
part_seen (variants.Lines name) = Lines name.now
part_seen (variants.PrefixLines name) = PrefixLines name.now

-- the commands that references lead to
abbrev pub commands_seen : List (Bor FileCommand) → List FileCommand
commands_seen commands = map (λ c. c.now) commands

-- the same for lists of them
abbrev pub group_list : List (Vec (Bor FileCommand) Global) → List (List FileCommand)
group_list groups = map (λ group. commands_seen group.items) groups

-- what a command begins that may occur only once
abbrev pub stand_seen : stands.Stand → Stand
stand_seen (ways.Interface name) = Interface name.now
stand_seen (ways.Ospf number) = Ospf number
stand_seen (ways.Bgp number) = Bgp number
stand_seen (ways.Block name) = ListBlock name.now
stand_seen (ways.Lines name) = ListLines name.now
