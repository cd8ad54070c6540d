use Rattle.std.proofs.Common.{◌≡◌, ◌++◌, drop, map}
use Rattle.std.specs.List.{concat}
use Rattle.policy_report.specs.Reports.{closed_line}
use Rattle.policy_report.proofs.witness.push_sides.Given as goal

-- what is there and what is still to be put are the whole
abbrev pub invariant-loop-shown : goal.invariant-loop-shown
invariant-loop-shown l =
    l.text.items ++ concat (map (closed_line l.net) (drop l.shown-index l.sides)) ≡ l.fn.text.items ++ concat (map (closed_line l.net) l.sides)
