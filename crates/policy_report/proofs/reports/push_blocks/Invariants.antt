use Rattle.std.proofs.Common.{◌≡◌, ◌+◌, ◌++◌, drop}
use Rattle.policy_report.specs.Reports.{blocks_text}
use Rattle.policy_report.proofs.reports.push_blocks.Given as goal

-- what is there and what is still to be put are the whole
abbrev pub invariant-loop-place : goal.invariant-loop-place
invariant-loop-place l =
    l.text.items ++ blocks_text (l.place + 1) l.net (drop l.place l.policies) (drop l.place l.verdicts) ≡ l.fn.text.items ++ blocks_text 1 l.net l.policies l.verdicts
