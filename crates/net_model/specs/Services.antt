-- Services: which protocol a packet is of, and which port of its destination it is for. A service
-- is a number below 2^24: the protocol's number times 65,536, plus the destination port. Only TCP
-- and UDP have ports.
use Rattle.std.specs.Prelude.{ℕ, ◌+◌, ◌-◌, Bool, ◌&&◌, nat_le, IsTrue}
use Rattle.std.proofs.Common.{arith}
use Rattle.net_model.specs.declared.services.Service.{Service}

-- whether the range has the service
abbrev pub serves : Service → ℕ → Bool
serves s service = nat_le s.low service && nat_le service s.high

-- the service is one of the range's
abbrev pub Serves : Service → ℕ → Type 0
Serves s service = IsTrue (serves s service)

-- each service of the one range is one of the other's
abbrev pub IsServiceInside : Service → Service → Type 0
IsServiceInside s t = (service : ℕ) → Serves s service → Serves t service

-- whether each service of the one range is one of the other's, as a test on their ends
abbrev pub is_service_inside : Service → Service → Bool
is_service_inside s t = nat_le t.low s.low && nat_le s.high t.high

-- some service is in both ranges
abbrev pub ShareService : Service → Service → Type 0
ShareService s t = (service : ℕ) × Serves s service × Serves t service

-- whether some service is in both ranges, as a test on their ends
abbrev pub services_meet : Service → Service → Bool
services_meet s t = nat_le s.low t.high && nat_le t.low s.high

-- how many services the range has
abbrev pub services : Service → ℕ
services s = (s.high - s.low) + 1

-- the range of all services
abbrev pub whole_service : Service
whole_service = record { low = 0; high = 16777215; ordered = omega arith; in_range = omega arith }
