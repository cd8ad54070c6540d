-- The language of router files: its rows, block by block. Inert rows come first in a block, since
-- they count where another row matches too. The other rows are in the order in which a faulty line
-- is judged: by the first that matches it.
use Rattle.std.specs.Prelude.{ℕ, ◌==◌, List, [], ◌∷◌, ◌++◌, map, codes}
use Rattle.std.specs.List.{slice_split}
use Rattle.ios_words.specs.declared.kinds.BlockKind.{BlockKind}
use Rattle.ios_words.specs.declared.kinds.BlockKind.TheVariants as blocks
use Rattle.ios_words.specs.declared.rows.Form.TheVariants.{Name, FaceName, Number, Address, Network}
use Rattle.ios_words.specs.declared.rows.Form.TheVariants.{Mask, Wildcard, Area, ListNumber, Order}
use Rattle.ios_words.specs.declared.rows.Form.TheVariants.{Route, AtLeast, AtMost}
use Rattle.ios_words.specs.declared.rows.Meaning.TheVariants as means
use Rattle.ios_words.specs.Rows.{Piece, Word, Verdict, Place, Bracket, Flag, EntryNumber, Protocol}
use Rattle.ios_words.specs.Rows.{Source, Destination, Ports, Anything, Rule, row}

-- the words of a text, with a space between them, as the fixed words of a row
abbrev pub fixed : List ℕ → List Piece
fixed text = map Word (slice_split (λ b. b == 32) text)

-- a row that begins with these words and says nothing
abbrev pub inert : List ℕ → Rule
inert text = row (fixed text ++ Anything ∷ []) means.Inert

-- the inert rows that begin with these words
abbrev pub inert_rows : List (List ℕ) → List Rule
inert_rows texts = map inert texts

-- the inert lines outside blocks; those that open a block head an inert one
abbrev pub inert_top : List Rule
inert_top =
    inert_rows (codes "Building configuration..." ∷ codes "Current configuration" ∷
    codes "version" ∷ codes "service" ∷ codes "no service" ∷ codes "boot" ∷
    codes "boot-start-marker" ∷ codes "boot-end-marker" ∷ codes "enable" ∷ codes "aaa" ∷
    codes "no aaa" ∷ codes "username" ∷ codes "clock" ∷ codes "logging" ∷ codes "no logging" ∷
    codes "ntp" ∷ codes "snmp-server" ∷ codes "archive" ∷ codes "alias" ∷
    codes "license" ∷ codes "memory" ∷
    codes "memory-size" ∷ codes "mmi" ∷ codes "no mmi" ∷ codes "multilink" ∷ codes "redundancy" ∷
    codes "control-plane" ∷ codes "line" ∷ codes "scheduler" ∷ codes "platform" ∷
    codes "diagnostic" ∷ codes "spanning-tree" ∷ codes "subscriber" ∷ codes "ethernet lmi" ∷
    codes "no ipv6 cef" ∷ codes "ip cef" ∷ codes "no ip cef" ∷
    codes "ip domain" ∷ codes "no ip domain" ∷ codes "ip domain-name" ∷ codes "ip domain-lookup" ∷
    codes "no ip domain-lookup" ∷ codes "ip name-server" ∷ codes "ip host" ∷ codes "ip ssh" ∷
    codes "ip scp" ∷ codes "ip http" ∷ codes "no ip http" ∷ codes "ip tcp" ∷
    codes "ip tftp" ∷ codes "ip forward-protocol" ∷ codes "no ip forward-protocol" ∷
    codes "ip subnet-zero" ∷ codes "ip classless" ∷ codes "ip source-route" ∷
    codes "no ip source-route" ∷ codes "no ip icmp rate-limit" ∷ codes "mgcp" ∷ codes "gatekeeper" ∷
    codes "upgrade" ∷ codes "ip bgp-community" ∷ codes "ip prefix-list sequence-number" ∷
    codes "no ip prefix-list sequence-number" ∷ codes "crypto pki" ∷ codes "crypto key" ∷
    codes "cdp" ∷ codes "no cdp" ∷ codes "lldp" ∷ codes "vtp" ∷
    codes "hw-module" ∷ codes "banner" ∷ codes "end" ∷ []) ++
    row (fixed (codes "access-list") ++ Place ListNumber ∷ [] ++ fixed (codes "remark") ++
    Anything ∷ []) means.Inert ∷ row (fixed (codes "ip prefix-list") ++ Place Name ∷ [] ++
    fixed (codes "description") ++ Anything ∷ []) means.Inert ∷ []

-- the other lines outside blocks
abbrev pub read_top : List Rule
read_top =
    row (fixed (codes "hostname") ++ Place Name ∷ []) means.Hostname
    ∷ row (fixed (codes "interface") ++ Place FaceName ∷ []) means.Interface
    ∷ row (fixed (codes "router ospf") ++ Place (Number 1 65535) ∷ []) means.RouterOspf
    ∷ row (fixed (codes "router bgp") ++ Place (Number 1 4294967295) ∷ []) means.RouterBgp
    ∷ row (fixed (codes "ip access-list extended") ++ Place Name ∷ []) means.ExtendedList
    ∷ row (fixed (codes "ip access-list standard") ++ Place Name ∷ []) means.StandardList
    ∷ row (fixed (codes "access-list") ++ Place ListNumber ∷ Verdict ∷ Protocol
    ∷ Source ∷ Destination ∷ Ports ∷ Flag (codes "log") ∷ []) means.ListLine
    ∷ row (fixed (codes "ip prefix-list") ++ Place Name ∷ Bracket (codes "seq") (Order 4294967294)
    ∷ Verdict ∷ Place Route ∷ Bracket (codes "ge") AtLeast ∷ Bracket (codes "le") AtMost ∷ [])
    means.PrefixLine ∷ []

-- the inert lines of an interface
abbrev pub inert_interface : List Rule
inert_interface =
    inert_rows (codes "description" ∷ codes "duplex" ∷ codes "speed" ∷ codes "media-type" ∷
    codes "negotiation" ∷ codes "load-interval" ∷ codes "delay" ∷ codes "clock rate" ∷
    codes "serial restart-delay" ∷ codes "no keepalive" ∷
    codes "cdp" ∷ codes "no cdp" ∷ codes "lldp" ∷ codes "no lldp" ∷ codes "mop" ∷
    codes "no mop" ∷ codes "logging" ∷ codes "snmp trap" ∷ codes "arp timeout" ∷
    codes "hold-queue" ∷ codes "carrier-delay" ∷ codes "no fair-queue" ∷
    codes "no ip redirects" ∷ codes "no ip unreachables" ∷ codes "no ip proxy-arp" ∷
    codes "no ip directed-broadcast" ∷ codes "ip route-cache" ∷ codes "no ip route-cache" ∷
    codes "ip virtual-reassembly" ∷ [])

-- the other lines of an interface
abbrev pub read_interface : List Rule
read_interface =
    row (fixed (codes "ip address") ++ Place Address ∷ Place (Mask 1) ∷ []) means.Address
    ∷ row (fixed (codes "no ip address")) means.NoAddress
    ∷ row (fixed (codes "shutdown")) means.Shutdown
    ∷ row (fixed (codes "no shutdown")) means.NoShutdown
    ∷ row (fixed (codes "bandwidth") ++ Place (Number 1 100000000) ∷ []) means.Bandwidth
    ∷ row (fixed (codes "ip ospf cost") ++ Place (Number 1 65535) ∷ []) means.Cost
    ∷ row (fixed (codes "ip ospf")
    ++ Place (Number 1 65535) ∷ [] ++ fixed (codes "area") ++ Place Area ∷ []) means.Area
    ∷ row (fixed (codes "ip ospf network point-to-point")) means.PointToPoint
    ∷ row (fixed (codes "ip ospf network broadcast")) means.Broadcast
    ∷ row (fixed (codes "ip access-group") ++ Place Name ∷ [] ++ fixed (codes "in")) means.GroupIn
    ∷ row (fixed (codes "ip access-group") ++ Place Name ∷ [] ++ fixed (codes "out")) means.GroupOut
    ∷ []

-- the inert lines of an OSPF process
abbrev pub inert_ospf : List Rule
inert_ospf = inert_rows (
    codes "log-adjacency-changes" ∷ codes "no log-adjacency-changes" ∷ codes "maximum-paths" ∷ [])

-- the other lines of an OSPF process
abbrev pub read_ospf : List Rule
read_ospf =
    row (fixed (codes "network") ++ Place Address ∷ Place Wildcard ∷ [] ++ fixed (codes "area")
    ++ Place Area ∷ []) means.Covers
    ∷ row (fixed (codes "passive-interface") ++ Place FaceName ∷ []) means.Passive
    ∷ row (fixed (codes "no passive-interface") ++ Place FaceName ∷ []) means.NoPassive
    ∷ row (fixed (codes "passive-interface default")) means.PassiveByDefault
    ∷ row (fixed (codes "no passive-interface default")) means.NoPassiveByDefault
    ∷ row (fixed (codes "auto-cost reference-bandwidth") ++ Place (Number 1 4294967) ∷ [])
    means.Reference ∷ row (fixed (codes "router-id") ++ Place Address ∷ []) means.RouterId ∷ []

-- the inert lines of a BGP process
abbrev pub inert_bgp : List Rule
inert_bgp =
    inert_rows (codes "bgp log-neighbor-changes" ∷ codes "no synchronization" ∷
    codes "no auto-summary" ∷ codes "maximum-paths" ∷ []) ++
    row (fixed (codes "neighbor") ++ Place Address ∷ [] ++ fixed (codes "description") ++ Anything ∷
    []) means.Inert ∷ row (fixed (codes "neighbor") ++ Place Address ∷ [] ++
    fixed (codes "soft-reconfiguration") ++ Anything ∷ []) means.Inert
    ∷ row (fixed (codes "neighbor") ++ Place Address ∷ [] ++ fixed (codes "send-community") ++
    Anything ∷ []) means.Inert ∷
    row (fixed (codes "neighbor") ++ Place Address ∷ [] ++ fixed (codes "version") ++ Anything ∷ [])
    means.Inert ∷ []

-- the other lines of a BGP process; without a mask the address of a network gives its length
abbrev pub read_bgp : List Rule
read_bgp =
    row (fixed (codes "neighbor") ++ Place Address ∷ [] ++ fixed (codes "remote-as")
    ++ Place (Number 1 4294967295) ∷ []) means.RemoteAs
    ∷ row (fixed (codes "neighbor") ++ Place Address ∷ [] ++ fixed (codes "shutdown"))
    means.NeighborDown
    ∷ row (fixed (codes "no neighbor") ++ Place Address ∷ [] ++ fixed (codes "shutdown"))
    means.NoNeighborDown ∷ row (fixed (codes "neighbor") ++ Place Address ∷ []
    ++ fixed (codes "prefix-list") ++ Place Name ∷ [] ++ fixed (codes "in")) means.NeighborList
    ∷ row (fixed (codes "network") ++ Place Address ∷ [] ++ fixed (codes "mask") ++ Place (Mask 0)
    ∷ []) means.Tells ∷ row (fixed (codes "network") ++ Place Network ∷ []) means.Tells
    ∷ row (fixed (codes "bgp router-id") ++ Place Address ∷ []) means.RouterId ∷ []

-- the inert lines of a packet list
abbrev pub inert_list : List Rule
inert_list =
    row (EntryNumber ∷ [] ++ fixed (codes "remark") ++ Anything ∷ []) means.Inert
    ∷ []

-- the other lines of an extended list
abbrev pub read_extended : List Rule
read_extended =
    row (EntryNumber ∷ Verdict ∷ Protocol ∷ Source ∷ Destination ∷ Ports ∷ Flag (codes "log") ∷ [])
    means.Entry ∷ []

-- the other lines of a standard list
abbrev pub read_standard : List Rule
read_standard =
    row (EntryNumber ∷ Verdict ∷ Source ∷ Flag (codes "log") ∷ []) means.Entry
    ∷ []

-- the inert rows of a block
abbrev pub inert_in : BlockKind → List Rule
inert_in blocks.Top = inert_top
inert_in blocks.Interface = inert_interface
inert_in blocks.Ospf = inert_ospf
inert_in blocks.Bgp = inert_bgp
inert_in blocks.Extended = inert_list
inert_in blocks.Standard = inert_list
inert_in blocks.Inert = row (Anything ∷ []) means.Inert ∷ []

-- the other rows of a block
abbrev pub read_in : BlockKind → List Rule
read_in blocks.Top = read_top
read_in blocks.Interface = read_interface
read_in blocks.Ospf = read_ospf
read_in blocks.Bgp = read_bgp
read_in blocks.Extended = read_extended
read_in blocks.Standard = read_standard
read_in blocks.Inert = []

-- the rows of a block
abbrev pub rows : BlockKind → List Rule
rows within = inert_in within ++ read_in within
