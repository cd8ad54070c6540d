-- The services of which a policy speaks, by the protocol and the port that it names.
use Rattle.std.specs.Prelude.{◌≡◌, ℕ, ◌+◌, ◌*◌, ◌/◌, ◌^◌, ◌==◌, ◌&&◌, ◌||◌, ◌≤◌, ◌⊎◌, nat_le}
use Rattle.std.specs.Prelude.{nat_lt, Bool, true, false, List, codes, bytes_eq, Option, Some, None}
use Rattle.std.specs.Prelude.{option_and_then, if◌then◌else◌, refl, IfSome, IsSomeAnd}
use Rattle.std.specs.Option.{option_map_or}
use Rattle.std.proofs.lemmas.Bool.{and_parts, leb-true, ltb-true}
use Rattle.arc_base.specs.Options.{◌>>=◌}
use Rattle.serde_json.specs.Data.{Data}
use Rattle.serde_json.specs.Find.{get, as_number, as_u64, as_str}
use Rattle.net_model.specs.declared.services.Service.{Service}
use Rattle.net_model.specs.Services.{whole_service}

-- the number of the protocol of this name, as IANA assigns it
abbrev pub protocol_named : List ℕ → Option ℕ
protocol_named name =
    if bytes_eq name (codes "tcp") then Some 6
    else if bytes_eq name (codes "udp") then Some 17
    else if bytes_eq name (codes "icmp") then Some 1
    else None

-- a protocol's number is from 1 to 255
abbrev pub protocol_numbered : ℕ → Option ℕ
protocol_numbered number = if nat_le 1 number && nat_le number 255 then Some number else None

-- a protocol: one of the names, or a number
abbrev pub data_protocol : Data → Option ℕ
data_protocol d =
    option_map_or protocol_named (as_str d)
    (option_and_then protocol_numbered (option_and_then as_u64 (as_number d)))

-- a port: a number from 0 to 65535
abbrev pub data_port : Data → Option ℕ
data_port d = do
  port ← option_and_then as_u64 (as_number d)
  if nat_le port 65535 then Some port else None

-- whether the protocol has ports, as only TCP and UDP have
abbrev pub allows_ports : ℕ → Bool
allows_ports protocol = protocol == 6 || protocol == 17

-- whether these are the first and the last service of a range
abbrev pub are_ends : ℕ → ℕ → Bool
are_ends low high = nat_le low high && nat_lt high (2 ^ 24)

-- the range with these ends, where the test of them comes out true
abbrev pub service_range_if : (low high : ℕ) (test : Bool) → are_ends low high ≡ test →
    Option Service
service_range_if low high false e = None
service_range_if low high true e =
    let (ordered, in_range) = and_parts _ _ e in Some (record
    { low = low; high = high; ordered = leb-true _ _ ordered; in_range = ltb-true _ _ in_range })

-- the range with these ends, where they are those of one
abbrev pub service_range_from : ℕ → ℕ → Option Service
service_range_from low high = service_range_if low high (are_ends low high) refl

-- all services of the protocol
abbrev pub of_protocol : ℕ → Option Service
of_protocol protocol = service_range_from (protocol * 65536) (protocol * 65536 + 65535)

-- the one service of the protocol for the port
abbrev pub of_port : ℕ → ℕ → Option Service
of_port protocol port =
    if allows_ports protocol
    then service_range_from (protocol * 65536 + port) (protocol * 65536 + port) else None

-- the services by `proto` and `port`: all where there is neither, and no `port` without a `proto`
-- that has ports
abbrev pub services_from : Option Data → Option Data → Option Service
services_from None None = Some whole_service
services_from None (Some port) = None
services_from (Some proto) None = option_and_then of_protocol (data_protocol proto)
services_from (Some proto) (Some port) = do
  protocol ← data_protocol proto
  number ← data_port port
  of_port protocol number

-- the services of which the policy speaks
abbrev pub policy_services : Data → Option Service
policy_services d = services_from (get (codes "proto") d) (get (codes "port") d)

-- each protocol has 65,536 services
abbrev pub ProtocolsHaveServices : Type 0
ProtocolsHaveServices =
    (protocol : ℕ) → 1 ≤ protocol → protocol ≤ 255 →
    IsSomeAnd (of_protocol protocol) (λ s.
    (s.low ≡ protocol * 65536) × (s.high ≡ protocol * 65536 + 65535))

-- and TCP and UDP have one for each port
abbrev pub PortsHaveServices : Type 0
PortsHaveServices =
    (protocol port : ℕ) → (protocol ≡ 6) ⊎ (protocol ≡ 17) → port ≤ 65535 →
    IsSomeAnd (of_port protocol port) (λ s.
    (s.low ≡ protocol * 65536 + port) × (s.high ≡ protocol * 65536 + port))

-- the services are all, or lie in one protocol
abbrev pub AreOfOneProtocol : Service → Type 0
AreOfOneProtocol s = ((s.low ≡ 0) × (s.high ≡ 16777215)) ⊎ (s.low / 65536 ≡ s.high / 65536)

-- a policy is about all services or about some of one protocol
abbrev pub PoliciesSpeakOfOneProtocol : Type 0
PoliciesSpeakOfOneProtocol = (d : Data) → IfSome (policy_services d) AreOfOneProtocol
