-- Protocols and destination ports, which make services: a service is the protocol's number times
-- 65,536, plus the port. Only TCP (protocol 6) and UDP (17) have ports.
use Rattle.std.specs.Prelude.{ℕ, ◌/◌, ◌%◌, ◌==◌, ◌&&◌, ◌||◌, nat_le, Bool, List, [], ◌∷◌, codes}
use Rattle.std.specs.Prelude.{decimal, find, Option, IsTrue, if◌then◌else◌}
use Rattle.std.specs.Option.{option_map, option_map_or, option_or}
use Rattle.std.specs.Str.{bytes_eq}
use Rattle.ios_words.specs.declared.commands.PacketText.{PacketText}
use Rattle.ios_words.specs.Numbers.{number_in}

-- the protocol of a service, and its destination port
abbrev pub protocol : ℕ → ℕ
protocol service = service / 65536

abbrev pub port : ℕ → ℕ
port service = service % 65536

-- the protocols that have names (numbers as IANA assigns them)
abbrev pub protocol_names : List (ℕ × List ℕ)
protocol_names =
    (1, codes "icmp") ∷ (2, codes "igmp") ∷ (6, codes "tcp") ∷ (17, codes "udp") ∷
    (47, codes "gre") ∷ (50, codes "esp") ∷ (89, codes "ospf") ∷ []

-- how a protocol is written: by its name where it has one, and else by its number
abbrev pub protocol_text : ℕ → List ℕ
protocol_text number =
    option_map_or (λ row. row.1) (find (λ row. row.0 == number) protocol_names) (decimal number)

-- the destination ports of TCP that have names
abbrev pub tcp_ports : List (ℕ × List ℕ)
tcp_ports =
    (20, codes "ftp-data") ∷ (21, codes "ftp") ∷ (23, codes "telnet") ∷ (25, codes "smtp") ∷
    (53, codes "domain") ∷ (80, codes "www") ∷ (110, codes "pop3") ∷ (179, codes "bgp") ∷ []

-- the destination ports of UDP that have names
abbrev pub udp_ports : List (ℕ × List ℕ)
udp_ports =
    (53, codes "domain") ∷ (67, codes "bootps") ∷ (68, codes "bootpc") ∷ (69, codes "tftp") ∷
    (123, codes "ntp") ∷ (161, codes "snmp") ∷ (162, codes "snmptrap") ∷ (514, codes "syslog") ∷ []

-- the ports of a protocol that have names
abbrev pub port_names : ℕ → List (ℕ × List ℕ)
port_names number = if number == 6 then tcp_ports else (if number == 17 then udp_ports else [])

-- the number beside a name, where the name is there
abbrev pub number_named : List (ℕ × List ℕ) → List ℕ → Option ℕ
number_named rows word = option_map (λ row. row.0) (find (λ row. bytes_eq word row.1) rows)

-- the protocol that a word writes: a name, or a number from 1 to 255
abbrev pub protocol_of : List ℕ → Option ℕ
protocol_of word = option_or (number_named protocol_names word) (number_in 1 255 word)

-- the port of a protocol that a word writes: one of the protocol's names, or a number from 0 to
-- 65535
abbrev pub port_of : ℕ → List ℕ → Option ℕ
port_of number word = option_or (number_named (port_names number) word) (number_in 0 65535 word)

-- whether the protocol has ports
abbrev pub has_ports : ℕ → Bool
has_ports number = number == 6 || number == 17

-- whether the range from the one service to the other is that of all services
abbrev pub are_all : ℕ → ℕ → Bool
are_all low high = low == 0 && high == 16777215

-- whether it begins at the first port of a protocol and ends at a last one
abbrev pub are_all_ports : ℕ → ℕ → Bool
are_all_ports low high = port low == 0 && port high == 65535

-- whether one entry of a packet list can say the range: all services, all of one protocol but 0, or
-- ports of TCP or of UDP
abbrev pub are_writable : ℕ → ℕ → Bool
are_writable low high =
    are_all low high || (protocol low == protocol high && nat_le 1 (protocol low) &&
    nat_le (protocol low) 255 && (are_all_ports low high || has_ports (protocol low)))

-- one entry of a packet list can say the services of this one
abbrev pub IsWritable : PacketText → Type 0
IsWritable entry = IsTrue (are_writable entry.low entry.high)

-- the word for the protocol of a range of services
abbrev pub protocol_word : ℕ → ℕ → List ℕ
protocol_word low high = if are_all low high then codes "ip" else protocol_text (protocol low)

-- the words for the ports of a range of services: none for all of them, and else one port or the
-- first and the last
abbrev pub port_words : ℕ → ℕ → List (List ℕ)
port_words low high =
    if are_all_ports low high then [] else (if low == high then codes "eq" ∷ decimal (port low) ∷ []
    else codes "range" ∷ decimal (port low) ∷ decimal (port high) ∷ [])
