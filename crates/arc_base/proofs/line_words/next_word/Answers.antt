use Rattle.std.proofs.Common.{sym}
use Rattle.arc_base.proofs.LinePieces.{no_words, word_and_rest, whole_word, rest_is_shorter}
use Rattle.arc_base.proofs.line_words.next_word.Goals as goal

pub returns-in_err-start-clause-none : goal.returns-in_err-start-clause-none
returns-in_err-start-clause-none c =
    rw c.from_residual.ensures (no_words c.args.line.now (sym c.in_err-start.ensures))

pub returns-in-Some-clause-word : goal.returns-in-Some-clause-word
returns-in-Some-clause-word c =
    word_and_rest c.args.line.now c.split_at.result.1.now c.in_ok-start.start (sym c.in_ok-start.ensures) c.split_at.ensures.back
    c.split_at-in-Some.result.0.now c.split_at-in-Some.result.1.now c.in-Some.end (sym c.in-Some.ensures) c.split_at-in-Some.ensures.front c.split_at-in-Some.ensures.back

pub returns-in-Some-clause-shorter : goal.returns-in-Some-clause-shorter
returns-in-Some-clause-shorter c =
    rest_is_shorter c.args.line.now c.split_at.result.1.now c.in_ok-start.start (sym c.in_ok-start.ensures) c.split_at.ensures.back c.in-Some.end
    c.split_at-in-Some.result.1.now (sym c.in-Some.ensures) c.split_at-in-Some.ensures.back

pub returns-in-None-clause-word : goal.returns-in-None-clause-word
returns-in-None-clause-word c =
    whole_word c.args.line.now c.split_at.result.1.now c.in_ok-start.start (sym c.in_ok-start.ensures) c.split_at.ensures.back c.split_at-in-None.result.0.now
    c.split_at-in-None.result.1.now (sym c.in-None.ensures) c.split_at-in-None.ensures.front c.split_at-in-None.ensures.back
