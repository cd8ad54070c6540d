use Rattle.std.proofs.Common.{◌≡◌, ◌++◌, drop, map}
use Rattle.policy_report.specs.Edits.{router_name}
use Rattle.policy_report.specs.Lines.{after_spaces}
use Rattle.arc_nodecut.proofs.text.push_routers.Given as goal

-- the text so far and what is still to be appended are the whole
abbrev pub invariant-loop-router : goal.invariant-loop-router
invariant-loop-router l =
    l.text.items ++ after_spaces (map (router_name l.net) (drop l.router-index l.routers)) ≡ l.fn.text.items ++ after_spaces (map (router_name l.net) l.routers)
