-- What the settings of one router file come to: the address, cost and type of an interface, and
-- what takes part in OSPF.
use Rattle.std.specs.Prelude.{◌≡◌, ℕ, ◌*◌, ◌/◌, ◌⊎◌, Bool, false, not, bytes_eq, Option, Some, None}
use Rattle.std.specs.Prelude.{IsSome, IsSomeAnd, unwrap_or, List, [], min, max, slice_get, Any}
use Rattle.std.specs.Prelude.{if◌then◌else◌, option_map, option_and_then}
use Rattle.std.specs.List.{filter_map, last_or}
use Rattle.arc_base.specs.Addresses.{Holds}
use Rattle.arc_base.specs.declared.prefix.Prefix.{Prefix}
use Rattle.net_model.specs.declared.rows.Protocol.{Protocol}
use Rattle.net_model.specs.declared.rows.Protocol.TheVariants.{Ospf, Bgp}
use Rattle.ios_words.specs.declared.commands.Command.{Command}
use Rattle.ios_words.specs.declared.commands.Command.TheVariants as commands
use Rattle.ios_config.specs.declared.settings.Given.{Given}
use Rattle.ios_config.specs.declared.settings.Config.{Config}
use Rattle.ios_config.specs.declared.settings.FaceText.{FaceText}
use Rattle.ios_config.specs.declared.settings.ProcessText.{ProcessText}
use Rattle.net_rules.specs.declared.processes.TheConstants.{DEFAULT_REFERENCE}
use Rattle.net_rules.specs.Kinds.{face_kind, default_bandwidth, is_serial}

-- the value that some line gave, if one did
abbrev pub value : {X : Type 0} → Option (Given X) → Option X
value given = option_map (λ g. g.value) given

-- the router's one process: that of the first process block
abbrev pub process_of : Config → Option ProcessText
process_of config = slice_get config.process 0

-- the lines of the process, in file order
abbrev pub lines_of : Config → List (Given Command)
lines_of config = unwrap_or (option_map (λ p. p.lines) (process_of config)) []

-- what the last of these lines says that says something of the matter
abbrev pub last_said : {X : Type 0} → (Command → Option X) → List (Given Command) → Option X
last_said says lines = last_or None (filter_map (λ g. says g.value) lines)

-- the interface's address and the length of its mask, which one line gives
abbrev pub address_of : FaceText → Option (ℕ × ℕ)
address_of face =
    option_and_then (λ a. option_map (λ m. (a, m)) (value face.mask_len)) (value face.addr)

-- the prefix of this length that holds the address
abbrev pub IsPrefixAt : ℕ → ℕ → Prefix → Type 0
IsPrefixAt address len p = (p.len ≡ len) × Holds p address

-- the interface is up: it is not shut down
abbrev pub is_up : FaceText → Bool
is_up face = not (unwrap_or (value face.shut) false)

-- the bandwidth in kbit/s: what is set, or else what its kind has
abbrev pub bandwidth_of : FaceText → ℕ
bandwidth_of face = unwrap_or (value face.bandwidth) (default_bandwidth (face_kind face.name))

-- the reference bandwidth that the command sets, in Mbit/s
abbrev pub says_reference : Command → Option ℕ
says_reference (commands.Reference m) = Some m
says_reference other = None

-- the reference bandwidth of the process in kbit/s: DEFAULT_REFERENCE Mbit/s unless it is set
abbrev pub reference_of : List (Given Command) → ℕ
reference_of lines = unwrap_or (last_said says_reference lines) DEFAULT_REFERENCE * 1000

-- the OSPF cost of a bandwidth: the reference over it, rounded down, from 1 to 65535
abbrev pub cost_at : ℕ → ℕ → ℕ
cost_at reference bandwidth = max 1 (min 65535 (reference / bandwidth))

-- the OSPF cost of the interface: what is set, or else that of its bandwidth
abbrev pub face_cost : List (Given Command) → FaceText → ℕ
face_cost lines face =
    unwrap_or (value face.cost) (cost_at (reference_of lines) (bandwidth_of face))

-- whether the command makes the interface of this name passive or not, if it names it or is about
-- all
abbrev pub says_passive : List ℕ → Command → Option Bool
says_passive name (commands.Passive on None) = Some on
says_passive name (commands.Passive on (Some face)) = if bytes_eq face name then Some on else None
says_passive name other = None

-- the interface is passive, as the last line says that names it or is about all; without one it is
-- not, and under eBGP it never is
abbrev pub is_passive : Protocol → List (Given Command) → List ℕ → Bool
is_passive Ospf lines name = unwrap_or (last_said (says_passive name) lines) false
is_passive Bgp lines name = false

-- the command covers the address: it is an OSPF network statement whose prefix holds it
abbrev pub CommandCovers : ℕ → Command → Type 0
CommandCovers address (commands.Covers prefix area) = Holds prefix address
CommandCovers address other = ⊥

-- the interface takes part in OSPF: it is enabled by name, or a network statement covers its
-- address
abbrev pub IsEnabled : List (Given Command) → FaceText → Type 0
IsEnabled lines face = IsSome face.area ⊎
    IsSomeAnd (address_of face) (λ address. Any (λ g. CommandCovers address.0 g.value) lines)

-- the OSPF network type is point-to-point: as is set, or else for a serial interface; otherwise it
-- is broadcast
abbrev pub is_point_to_point : FaceText → Bool
is_point_to_point face = unwrap_or (value face.point) (is_serial (face_kind face.name))
