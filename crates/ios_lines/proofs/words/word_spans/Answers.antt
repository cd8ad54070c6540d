use Rattle.std.proofs.Common.{[], subst, append-nil}
use Rattle.std.proofs.Common.{map, ◌≡◌, slice_range}
use Rattle.ios_lines.specs.Texts.{part}
use Rattle.ios_lines.specs.Words.{AreWords}
use Rattle.arc_base.specs.Words.{words}
use Rattle.ios_lines.proofs.WordSpans.{of_value, spans-words}
use Rattle.ios_lines.proofs.words.word_spans.Goals as goal

pub returns-clause-spans : goal.returns-clause-spans
returns-clause-spans c =
    of_value (AreWords c.args.bytes.now c.args.from c.args.to) c.of.result c.loop-word.words.items c.of.ensures.ok
    (subst (AreWords c.args.bytes.now c.args.from c.args.to) (append-nil _) (c.loop-word.invariant.words [] c.in_default.ensures))

pub returns-clause-texts : goal.returns-clause-texts
returns-clause-texts c =
    of_value (λ spans. map (part c.args.bytes.now) spans ≡ words (slice_range c.args.bytes.now c.args.from c.args.to)) c.of.result c.loop-word.words.items c.of.ensures.ok
    (spans-words c.args.bytes.now c.args.from c.args.to _ c.requires.order c.requires.within
    (subst (AreWords c.args.bytes.now c.args.from c.args.to) (append-nil _) (c.loop-word.invariant.words [] c.in_default.ensures)))
