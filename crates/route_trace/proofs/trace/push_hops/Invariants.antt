use Rattle.std.proofs.Common.{◌≡◌, ◌++◌, take}
use Rattle.std.specs.List.{flat_map}
use Rattle.route_trace.specs.TraceText.{traced_link}
use Rattle.route_trace.proofs.trace.push_hops.Given as goal

abbrev pub invariant-loop-hop : goal.invariant-loop-hop
invariant-loop-hop l = l.text.items ≡ l.initial.text.items ++ flat_map traced_link (take l.hop-index l.hops)
