-- The kinds of interfaces, with what routers take for granted of each.
use Rattle.std.specs.Prelude.{ℕ, Bool, true, false, nat_eq, List, codes, if◌then◌else◌}
use Rattle.std.specs.List.{starts_with}
use Rattle.net_rules.specs.declared.kinds.FaceKind.{FaceKind}
use Rattle.net_rules.specs.declared.kinds.FaceKind.TheVariants.{Ethernet, FastEthernet}
use Rattle.net_rules.specs.declared.kinds.FaceKind.TheVariants.{GigabitEthernet, TenGigabitEthernet}
use Rattle.net_rules.specs.declared.kinds.FaceKind.TheVariants.{Serial, Loopback}

-- the kind that an interface's name begins with
abbrev pub face_kind : List ℕ → FaceKind
face_kind name =
    if starts_with nat_eq name (codes "Ethernet") then Ethernet
    else (if starts_with nat_eq name (codes "FastEthernet") then FastEthernet
    else (if starts_with nat_eq name (codes "GigabitEthernet") then GigabitEthernet
    else (if starts_with nat_eq name (codes "TenGigabitEthernet") then TenGigabitEthernet
    else (if starts_with nat_eq name (codes "Serial") then Serial
    else Loopback))))

-- the default bandwidth, in kbit/s
abbrev pub default_bandwidth : FaceKind → ℕ
default_bandwidth Ethernet = 10000
default_bandwidth FastEthernet = 100000
default_bandwidth GigabitEthernet = 1000000
default_bandwidth TenGigabitEthernet = 10000000
default_bandwidth Serial = 1544
default_bandwidth Loopback = 8000000

-- whether it is a serial interface, whose OSPF network type is point-to-point by default
abbrev pub is_serial : FaceKind → Bool
is_serial Ethernet = false
is_serial FastEthernet = false
is_serial GigabitEthernet = false
is_serial TenGigabitEthernet = false
is_serial Serial = true
is_serial Loopback = false

-- whether it is a loopback, which is no link's end
abbrev pub is_loopback : FaceKind → Bool
is_loopback Ethernet = false
is_loopback FastEthernet = false
is_loopback GigabitEthernet = false
is_loopback TenGigabitEthernet = false
is_loopback Serial = false
is_loopback Loopback = true
