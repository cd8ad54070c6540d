use Rattle.std.proofs.Common.{rules, sym, ◌∙◌}
use Rattle.std.proofs.lemmas.List.{take_rest}
use Rattle.ios_lines.proofs.WordCuts.{skip-some, skip-none}
use Rattle.ios_lines.proofs.blanks.without_blanks.Goals as goal

pub returns-in-Some : goal.returns-in-Some
returns-in-Some c = take_rest c.args.line.now c.in-Some.start ∙ sym (skip-some c.args.line.now c.in-Some.start (sym c.word_start.ensures ∙ c.in-Some.is))

pub returns-in-None : goal.returns-in-None
returns-in-None c = search (rules, skip-none)
