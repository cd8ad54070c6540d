-- Which packets a list denies of those that the routing protocol needs, address by address and
-- service by service.
use Rattle.std.specs.Prelude.{ℕ, ◌<◌, ◌≤◌, ◌⊎◌, IsTrue, IsFalse, List}
use Rattle.net_model.specs.declared.lists.Packet.{Packet}
use Rattle.net_model.specs.declared.lists.PacketEntry.{PacketEntry}
use Rattle.net_model.specs.declared.rows.Protocol.{Protocol}
use Rattle.net_model.specs.declared.rows.Protocol.TheVariants.{Ospf, Bgp}
use Rattle.net_model.specs.Lists.{matches, permits}

-- the packet of the same addresses and this service
abbrev pub at_service : Packet → ℕ → Packet
at_service p service = record { from = p.from; to = p.to; service = service }

-- the entry matches none of these packets, from the packet's own service on up to this one, which
-- is left out
pub record MissesUntil (entry : PacketEntry) (p : Packet) (next : ℕ) : Type 0 where
  pub later : p.service < next
  pub misses : (service : ℕ) → p.service ≤ service → service < next →
      IsFalse (matches (at_service p service) entry)

-- the entries permit all of them
pub record PermitsUntil (entries : List PacketEntry) (p : Packet) (next : ℕ) : Type 0 where
  pub later : p.service < next
  pub permitted : (service : ℕ) → p.service ≤ service → service < next →
      IsTrue (permits entries (at_service p service))

-- the entries deny a packet from the one address to the other, of a service from the one to the
-- other
pub record DeniesBetween (entries : List PacketEntry) (from to low high : ℕ) : Type 0 where
  pub service : ℕ
  pub above : low ≤ service
  pub below : service ≤ high
  pub denied : IsFalse (permits entries (record { from = from; to = to; service = service }))

-- the entries deny a packet that the protocol needs from the one address to the other
abbrev pub DeniesAt : Protocol → List PacketEntry → ℕ → ℕ → Type 0
DeniesAt Ospf entries from to = DeniesBetween entries from to 5832704 5898239
DeniesAt Bgp entries from to =
    DeniesBetween entries from to 393395 393395 ⊎ DeniesBetween entries from to 394240 458751
