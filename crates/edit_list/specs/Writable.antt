-- Which services one entry of a packet list can say.
use Rattle.std.specs.Prelude.{◌/◌, ◌%◌, ◌==◌, ◌&&◌, ◌||◌, nat_le, Bool}
use Rattle.net_model.specs.declared.services.Service.{Service}

-- whether one entry of a packet list can say the range of services: all of them, all of one
-- protocol but 0, or ports of TCP (protocol 6) or of UDP (17)
abbrev pub is_writable : Service → Bool
is_writable s =
    (s.low == 0 && s.high == 16777215) ||
    (s.low / 65536 == s.high / 65536 && nat_le 1 (s.low / 65536) && nat_le (s.low / 65536) 255 &&
    ((s.low % 65536 == 0 && s.high % 65536 == 65535) ||
    (s.low / 65536 == 6 || s.low / 65536 == 17)))
