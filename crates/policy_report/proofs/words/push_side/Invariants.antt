use Rattle.std.proofs.Common.{◌≡◌, ◌++◌, drop}
use Rattle.policy_report.specs.Lines.{after_spaces}
use Rattle.policy_report.specs.Reports.{router_side_words}
use Rattle.policy_report.proofs.words.push_side.Given as goal

-- what is there and what is still to be put are the whole
abbrev pub invariant-loop-place : goal.invariant-loop-place
invariant-loop-place l =
    l.text.items ++ after_spaces (router_side_words (drop l.place l.routers) (drop l.place l.side)) ≡ l.fn.text.items ++ after_spaces (router_side_words l.routers l.side)
