-- What the lines of a BGP process say of each neighbour, which they name by its address.
use Rattle.std.specs.Prelude.{ℕ, ◌==◌, Bool, false, Option, Some, None, unwrap_or, List}
use Rattle.std.specs.Prelude.{if◌then◌else◌}
use Rattle.ios_words.specs.declared.commands.Command.{Command}
use Rattle.ios_words.specs.declared.commands.Command.TheVariants as commands
use Rattle.ios_config.specs.declared.settings.Given.{Given}
use Rattle.net_rules.specs.Settings.{last_said}

-- the neighbour that the command names
abbrev pub names_peer : Command → Option ℕ
names_peer (commands.RemoteAs peer asn) = Some peer
names_peer (commands.NeighborDown peer down) = Some peer
names_peer (commands.NeighborList peer list) = Some peer
names_peer other = None

-- the autonomous system that the command gives this neighbour
abbrev pub says_remote : ℕ → Command → Option ℕ
says_remote peer (commands.RemoteAs other asn) = if other == peer then Some asn else None
says_remote peer other = None

-- whether the command shuts this neighbour down or takes that back
abbrev pub says_down : ℕ → Command → Option Bool
says_down peer (commands.NeighborDown other down) = if other == peer then Some down else None
says_down peer other = None

-- the route list that the command binds inbound at this neighbour
abbrev pub says_filter : ℕ → Command → Option (List ℕ)
says_filter peer (commands.NeighborList other list) = if other == peer then Some list else None
says_filter peer other = None

-- the neighbour's autonomous system, where it has one: then it is configured
abbrev pub remote_of : List (Given Command) → ℕ → Option ℕ
remote_of lines peer = last_said (says_remote peer) lines

-- the neighbour is shut down
abbrev pub is_down : List (Given Command) → ℕ → Bool
is_down lines peer = unwrap_or (last_said (says_down peer) lines) false

-- the name of the route list that is bound inbound at the neighbour
abbrev pub filter_of : List (Given Command) → ℕ → Option (List ℕ)
filter_of lines peer = last_said (says_filter peer) lines
