use Rattle.std.proofs.Common.{◌≡◌, None, IsTrue, map, drop}
use Rattle.std.specs.List.{list_all}
use Rattle.ios_words.specs.Rows.{rule_of}
use Rattle.ios_words.specs.Trials.{try_rules, is_short}
use Rattle.ios_words.specs.Views.{words_of}
use Rattle.ios_words.proofs.trying.try_rows.Given as goal

abbrev pub invariant-loop-row : goal.invariant-loop-row
invariant-loop-row l =
    (try_rules l.extended (words_of l.fn.words) None (map rule_of l.fn.rows) ≡ try_rules l.extended (words_of l.words) l.first
    (map rule_of (drop l.row-index l.rows))) × IsTrue (list_all is_short (map rule_of (drop l.row-index l.rows)))
