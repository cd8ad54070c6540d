use Rattle.std.proofs.Common.{rules}
use Rattle.ios_lines.proofs.WordCuts.{words_none, words_first, skip-none, after_first}
use Rattle.ios_lines.proofs.blanks.first_word.Goals as goal

pub returns-in_err-start-clause-words : goal.returns-in_err-start-clause-words
returns-in_err-start-clause-words c = search (rules, words_none)

pub returns-in_err-start-clause-none : goal.returns-in_err-start-clause-none
returns-in_err-start-clause-none c = search (rules, skip-none)

pub returns-clause-words : goal.returns-clause-words
returns-clause-words c = words_first c.args.line.now c.in_ok-start.start c.split_at.result.1.now c.split_at-2.result.0.now c.split_at-2.result.1.now c.first_blank.result (search rules)
    (search rules) (search rules) (search rules) (search rules)

pub returns-clause-none : goal.returns-clause-none
returns-clause-none c = after_first c.args.line.now c.in_ok-start.start c.split_at.result.1.now c.split_at-2.result.1.now c.first_blank.result (search rules) (search rules)
    (search rules) (search rules)
