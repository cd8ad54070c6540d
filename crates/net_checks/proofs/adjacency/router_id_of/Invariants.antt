use Rattle.std.proofs.Common.{◌≡◌, None, take}
use Rattle.std.specs.List.{filter_map, last_or}
use Rattle.net_rules.specs.Linking.{router_id_line}
use Rattle.net_checks.proofs.adjacency.router_id_of.Given as goal

abbrev pub invariant-loop-line : goal.invariant-loop-line
invariant-loop-line l = l.last ≡ last_or None (filter_map router_id_line (take l.line-index l.line-items))
