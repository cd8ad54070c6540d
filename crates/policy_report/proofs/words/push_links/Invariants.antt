use Rattle.std.proofs.Common.{◌≡◌, ◌++◌, drop}
use Rattle.policy_report.specs.Lines.{after_spaces}
use Rattle.policy_report.specs.Reports.{link_words}
use Rattle.policy_report.proofs.words.push_links.Given as goal

-- what is there and what is still to be put are the whole
abbrev pub invariant-loop-link : goal.invariant-loop-link
invariant-loop-link l = l.text.items ++ after_spaces (link_words (drop l.link-index l.links)) ≡ l.fn.text.items ++ after_spaces (link_words l.links)
