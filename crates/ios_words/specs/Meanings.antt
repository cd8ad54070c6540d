-- What a row says of the values of its places.
use Rattle.std.specs.Prelude.{true, false, Some, None}
use Rattle.ios_words.specs.declared.commands.AreaText.{AreaText}
use Rattle.ios_words.specs.declared.commands.Command.{Command}
use Rattle.ios_words.specs.declared.commands.Command.TheVariants as commands
use Rattle.ios_words.specs.declared.commands.PacketText.{PacketText}
use Rattle.ios_words.specs.declared.commands.RouteText.{RouteText}
use Rattle.ios_words.specs.declared.rows.Meaning.{Meaning}
use Rattle.ios_words.specs.declared.rows.Meaning.TheVariants.{Hostname, Interface, RouterOspf}
use Rattle.ios_words.specs.declared.rows.Meaning.TheVariants.{RouterBgp, ExtendedList, StandardList}
use Rattle.ios_words.specs.declared.rows.Meaning.TheVariants.{ListLine, PrefixLine, Address}
use Rattle.ios_words.specs.declared.rows.Meaning.TheVariants.{NoAddress, Shutdown, NoShutdown}
use Rattle.ios_words.specs.declared.rows.Meaning.TheVariants.{Bandwidth, Cost, Area, PointToPoint}
use Rattle.ios_words.specs.declared.rows.Meaning.TheVariants.{Broadcast, GroupIn, GroupOut, Covers}
use Rattle.ios_words.specs.declared.rows.Meaning.TheVariants.{Passive, NoPassive, PassiveByDefault}
use Rattle.ios_words.specs.declared.rows.Meaning.TheVariants.{NoPassiveByDefault, Reference}
use Rattle.ios_words.specs.declared.rows.Meaning.TheVariants.{RouterId, RemoteAs, NeighborDown}
use Rattle.ios_words.specs.declared.rows.Meaning.TheVariants.{NoNeighborDown, NeighborList, Tells}
use Rattle.ios_words.specs.declared.rows.Meaning.TheVariants.{Entry, Inert}
use Rattle.ios_words.specs.Values.{Values}

-- the entry of a packet list
abbrev pub packet : Values → PacketText
packet v = record {
  permit = v.permit;
  from = v.from;
  to = v.to;
  low = v.services.low;
  high = v.services.high;
  ordered = v.services.ordered;
  in_range = v.services.in_range;
}

-- the entry of a prefix list
abbrev pub route : Values → RouteText
route v = record { permit = v.permit; prefix = v.to; low = v.low; high = v.high }

-- the process and the area that an interface names
abbrev pub area : Values → AreaText
area v = record { process = v.number; area = v.area }

-- the command of a row of this meaning whose words give these values
abbrev pub give : Meaning → Values → Command
give Hostname v = commands.Hostname v.text
give Interface v = commands.Interface v.text
give RouterOspf v = commands.RouterOspf v.number
give RouterBgp v = commands.RouterBgp v.number
give ExtendedList v = commands.ListBlock true v.text
give StandardList v = commands.ListBlock false v.text
give ListLine v = commands.ListLine v.text (packet v)
give PrefixLine v = commands.PrefixLine v.text v.order (route v)
give Address v = commands.Address v.address v.length
give NoAddress v = commands.NoAddress
give Shutdown v = commands.Shutdown true
give NoShutdown v = commands.Shutdown false
give Bandwidth v = commands.Bandwidth v.number
give Cost v = commands.Cost v.number
give Area v = commands.Area (area v)
give PointToPoint v = commands.Point true
give Broadcast v = commands.Point false
give GroupIn v = commands.Group v.text true
give GroupOut v = commands.Group v.text false
give Covers v = commands.Covers v.to v.area
give Passive v = commands.Passive true (Some v.text)
give NoPassive v = commands.Passive false (Some v.text)
give PassiveByDefault v = commands.Passive true None
give NoPassiveByDefault v = commands.Passive false None
give Reference v = commands.Reference v.number
give RouterId v = commands.RouterId v.address
give RemoteAs v = commands.RemoteAs v.address v.number
give NeighborDown v = commands.NeighborDown v.address true
give NoNeighborDown v = commands.NeighborDown v.address false
give NeighborList v = commands.NeighborList v.address v.text
give Tells v = commands.Tells v.to
give Entry v = commands.Entry v.order (packet v)
give Inert v = commands.Inert
