-- Ranges of services: all of them, and the ports of a protocol from one to another.
use Rattle.std.specs.Prelude.{ℕ, ◌+◌, ◌*◌, min, List, codes, Option, Some, if◌then◌else◌}
use Rattle.std.proofs.Common.{arith}
use Rattle.std.specs.Option.{option_map}
use Rattle.std.specs.Str.{bytes_eq}
use Rattle.ios_words.specs.declared.services.Services.{Services}
use Rattle.ios_words.specs.Services.{protocol_of}

-- the services from the one to the other, which is not below it and at most the last
unfoldable pub between : ℕ → ℕ → Services
between low high = record {
  low = min low (min high 16777215);
  high = min high 16777215;
  ordered = omega arith;
  in_range = omega arith;
}

-- all services
abbrev pub all : Services
all = between 0 16777215

-- the services of a protocol from one port to another
abbrev pub of_ports : ℕ → ℕ → ℕ → Services
of_ports number first last = between (number * 65536 + first) (number * 65536 + last)

-- all services of a protocol
abbrev pub of_protocol : ℕ → Services
of_protocol number = of_ports number 0 65535

-- the services of a protocol's word
abbrev pub services_of : List ℕ → Option Services
services_of word =
    if bytes_eq word (codes "ip") then Some all else option_map of_protocol (protocol_of word)
