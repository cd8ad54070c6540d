use Rattle.std.proofs.Common.{◌≡◌, ◌++◌, drop, map, option_map}
use Rattle.policy_report.specs.Readings.{all_links}
use Rattle.policy_report.proofs.reading.all_links.Given as goal

-- the links that are found and those of the words that are left are all of them
abbrev pub invariant-loop-word : goal.invariant-loop-word
invariant-loop-word l =
    option_map (λ rest. l.found.items ++ rest) (all_links l.links (map (λ word. word.now) (drop l.word-index l.words)))
    ≡ all_links l.links (map (λ word. word.now) l.words)
