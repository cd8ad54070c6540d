-- How boxes of packets, which are classes and entries, lie to one another. Two prefixes are nested
-- or share no address; two ranges of services may also overlap.
use Rattle.std.specs.Prelude.{ℕ, ◌+◌, ◌-◌, ◌⊎◌, Bool, ◌&&◌, ◌||◌, nat_lt, nat_le}
use Rattle.std.specs.Int.Count.{count_leading_zeros}
use Rattle.arc_base.specs.Addresses.{Holds, inside}
use Rattle.arc_base.specs.declared.prefix.Prefix.{Prefix}
use Rattle.net_model.specs.declared.lists.Packet.{Packet}
use Rattle.net_model.specs.declared.lists.PacketEntry.{PacketEntry}
use Rattle.net_model.specs.declared.policies.Class.{Class}
use Rattle.net_model.specs.declared.services.Service.{Service}
use Rattle.net_model.specs.Packets.{IsOfClass}
use Rattle.net_model.specs.Services.{Serves, services_meet}

-- whether the two prefixes share an address: one lies inside the other
abbrev pub prefixes_meet : Prefix → Prefix → Bool
prefixes_meet p q = inside p q || inside q p

-- whether the two classes share a packet
abbrev pub classes_meet : Class → Class → Bool
classes_meet c d =
    prefixes_meet c.from d.from && prefixes_meet c.to d.to && services_meet c.service d.service

-- the class of the packets that the entry matches
abbrev pub entry_class : PacketEntry → Class
entry_class e = record { from = e.from; to = e.to; service = e.service }

-- whether the other range begins or ends between two services of this one
abbrev pub splits_services : Service → Service → Bool
splits_services s t =
    nat_lt s.low t.low && nat_le t.low s.high || nat_le s.low t.high && nat_lt t.high s.high

-- whether one of the other class's prefixes is the longer one, or its range of services begins or
-- ends inside the class's, so that a class that it meets does not lie in it
abbrev pub splits : Class → Class → Bool
splits class other =
    nat_lt class.from.len other.from.len || nat_lt class.to.len other.to.len ||
    splits_services class.service other.service

-- the two prefixes are the halves of the whole: each address of the whole is in one of them, and no
-- other is
abbrev pub AreHalves : Prefix → Prefix → Prefix → Type 0
AreHalves whole p q =
    ((a : ℕ) → Holds whole a → Holds p a ⊎ Holds q a) × ((a : ℕ) → Holds p a → Holds whole a) ×
    ((a : ℕ) → Holds q a → Holds whole a)

-- the two ranges are the halves of the whole: each service of the whole is in one of them, and no
-- other is
abbrev pub AreServiceHalves : Service → Service → Service → Type 0
AreServiceHalves whole s t =
    ((n : ℕ) → Serves whole n → Serves s n ⊎ Serves t n) × ((n : ℕ) → Serves s n → Serves whole n) ×
    ((n : ℕ) → Serves t n → Serves whole n)

-- the two classes make up the whole: each packet of the whole is of one of them, and no other is
abbrev pub MakeUp : Class → Class → Class → Type 0
MakeUp whole c d =
    ((p : Packet) → IsOfClass whole p → IsOfClass c p ⊎ IsOfClass d p) ×
    ((p : Packet) → IsOfClass c p → IsOfClass whole p) ×
    ((p : Packet) → IsOfClass d p → IsOfClass whole p)

-- how many binary digits it takes to tell the range's services apart: those of the distance from
-- its first service to its last
abbrev pub service_bits : Service → ℕ
service_bits s = 24 - count_leading_zeros 24 (s.high - s.low)

-- the number of bits that the class leaves open: those of its two prefixes and of its services
abbrev pub open_bits : Class → ℕ
open_bits class = (32 - class.from.len) + (32 - class.to.len) + service_bits class.service
