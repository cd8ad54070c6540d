-- The services of a policy are all, or lie in one protocol.
use Rattle.std.proofs.Common.{◌≡◌, ℕ, ◌+◌, ◌*◌, ◌/◌, inl, inr, Bool, true, false, Option, Some, None, if◌then◌else◌, refl, arith, codes}
use Rattle.std.specs.Prelude.{IfSome, option_and_then}
use Rattle.serde_json.specs.Data.{Data}
use Rattle.serde_json.specs.Find.{get}
use Rattle.net_doc.specs.Services.{AreOfOneProtocol, PoliciesSpeakOfOneProtocol, are_ends, allows_ports, of_port, of_protocol, data_port, data_protocol, service_range_from, service_range_if}
use Rattle.net_doc.specs.Services.{services_from}

of-range : (low high : ℕ) → low / 65536 ≡ high / 65536 → IfSome (service_range_from low high) AreOfOneProtocol
of-range low high same = by (are_ends low high) refl
  where
    by : (b : Bool) (e : are_ends low high ≡ b) → IfSome (service_range_if low high b e) AreOfOneProtocol
    by true e = inr same
    by false e = tt

with-protocol : (o : Option ℕ) → IfSome (option_and_then of_protocol o) AreOfOneProtocol
with-protocol None = tt
with-protocol (Some n) = of-range (n * 65536) (n * 65536 + 65535) (omega arith)

with-port : (n p : ℕ) → IfSome (of_port n p) AreOfOneProtocol
with-port n p = by (allows_ports n)
  where
    by : (b : Bool) → IfSome (if b then service_range_from (n * 65536 + p) (n * 65536 + p) else None) AreOfOneProtocol
    by true = of-range (n * 65536 + p) (n * 65536 + p) refl
    by false = tt

with-both : (o q : Option ℕ) → IfSome (option_and_then (λ n. option_and_then (λ p. of_port n p) q) o) AreOfOneProtocol
with-both None q = tt
with-both (Some n) None = tt
with-both (Some n) (Some p) = with-port n p

from : (proto port : Option Data) → IfSome (services_from proto port) AreOfOneProtocol
from None None = inl (refl, refl)
from None (Some port) = tt
from (Some proto) None = with-protocol (data_protocol proto)
from (Some proto) (Some port) = with-both (data_protocol proto) (data_port port)

pub one_protocol : PoliciesSpeakOfOneProtocol
one_protocol d = from (get (codes "proto") d) (get (codes "port") d)
