use Rattle.std.proofs.Common.{◌<◌}
use Rattle.arc_base.specs.Addresses.{Holds}
use Rattle.arc_base.specs.declared.prefix.Prefix.{Prefix}
use Rattle.net_rules.specs.Prefixes.{HasPrefix}
use Rattle.net_rules.proofs.prefixes.has_prefix_of.Given as goal

abbrev pub invariant-loop-len : goal.invariant-loop-len
invariant-loop-len l = (p : Prefix) → p.len < l.len → Holds p l.address → ¬ HasPrefix l.prefixes.keys p
