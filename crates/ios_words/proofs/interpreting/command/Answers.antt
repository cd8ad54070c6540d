use Rattle.std.proofs.Common.{map, ap, ◌∙◌}
use Rattle.ios_words.specs.Rows.{rule_of}
use Rattle.ios_words.specs.Spans.{words_at}
use Rattle.ios_words.specs.Views.{words_of}
use Rattle.ios_words.proofs.Trials.{line_answered}
use Rattle.ios_words.proofs.interpreting.command.Goals as goal

pub returns : goal.returns
returns c = line_answered c.args.text.now c.args.line.now c.args.within c.is_extended.result (words_of c.at-words.result) (map rule_of c.candidates-rows.result.now) c.try_rows.result
    c.try_rows.ensures c.is_extended.ensures (c.at-words.ensures ∙ ap (words_at c.args.text.now) c.slice.ensures.items) c.candidates-rows.ensures.same
