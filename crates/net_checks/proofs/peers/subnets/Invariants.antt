use Rattle.std.proofs.Common.{take, ◌↔◌}
use Rattle.arc_base.specs.declared.prefix.Prefix.{Prefix}
use Rattle.net_rules.specs.Prefixes.{HasPrefix}
use Rattle.net_rules.specs.Peers.{IsConnected}
use Rattle.net_checks.proofs.peers.subnets.Given as goal

abbrev pub invariant-loop-face : goal.invariant-loop-face
invariant-loop-face l = (p : Prefix) → HasPrefix l.subnets.keys p ↔ IsConnected (take l.face-index l.face-items) p
