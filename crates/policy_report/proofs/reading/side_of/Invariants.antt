use Rattle.std.proofs.Common.{◌≡◌, ◌++◌, drop, map, option_map}
use Rattle.policy_report.specs.Readings.{side_of}
use Rattle.policy_report.proofs.reading.side_of.Given as goal

-- the flags so far and those of the routers that are left, with the names that are left, are all of them
abbrev pub invariant-loop-router : goal.invariant-loop-router
invariant-loop-router l =
    option_map (λ rest. l.side.items ++ rest) (side_of (drop l.router-index l.routers) (drop l.next (map (λ name. name.now) l.names)))
    ≡ side_of l.routers (map (λ name. name.now) l.names)
