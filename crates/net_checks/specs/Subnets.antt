-- The connected subnets of interfaces, as an index keeps them.
use Rattle.std.specs.Prelude.{◌↔◌, ℕ, List}
use Rattle.arc_base.specs.declared.prefix.Prefix.{Prefix}
use Rattle.ios_config.specs.declared.settings.FaceText.{FaceText}
use Rattle.net_rules.specs.Peers.{IsConnected}
use Rattle.net_rules.specs.Prefixes.{HasPrefix}

-- these are the connected subnets of the interfaces
abbrev pub AreSubnets : List FaceText → List (ℕ × ℕ) → Type 0
AreSubnets faces keys = (p : Prefix) → HasPrefix keys p ↔ IsConnected faces p
