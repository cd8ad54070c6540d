use Rattle.std.proofs.Common.{◌≡◌, ◌+◌, ◌++◌, ◌∷◌, [], length, length-append, arith, sym, ap, subst, ◌∙◌, is_some, slice_get, All}
use Rattle.ios_lines.specs.Texts.{HasWordsIn, Join, bytes_of}
use Rattle.ios_lines.specs.Reading.{Stands}
use Rattle.ios_lines.proofs.Cuts.{join-more, texts-more, inside-more, rows-more, no-orphans, no-banner, open-banner, are-lines}
use Rattle.ios_lines.proofs.cutting.cut.Goals as goal

pub loop-at-preserved : goal.loop-at-preserved
loop-at-preserved c =
    let text = c.args.bytes.now in
    let line = c.in_ok-line.line in
    let next = c.in_ok-line.ensures.next in
    let new : c.push.new.self ≡ c.loop-at.rows ++ line ∷ [] = c.in_ok-push.ensures.ok in
    let from : c.from.result ≡ line.end = c.from.ensures in
    let count : c.in_ok-line.after.count ≡ c.loop-at.state.count + 1 = next.count in
    let rows : length c.loop-at.rows ≡ c.loop-at.state.count = c.loop-at.invariant.count in
    record {
      stands = subst (λ end. Stands text (line.span.to + end) c.in_ok-line.after) (sym from) next.stands;
      count = ap length new ∙ length-append c.loop-at.rows (line ∷ []) ∙ omega arith;
      join = λ rest joined. subst (λ rows. Join text 0 (rows ++ rest)) (sym new)
          (join-more text c.loop-at.at c.loop-at.state c.in_ok-line.after line c.loop-at.rows next c.loop-at.invariant.join rest (subst (λ end. Join text (line.span.to + end) rest) from joined));
      texts = ap (bytes_of text) new ∙ texts-more text c.loop-at.at c.loop-at.state c.in_ok-line.after line c.loop-at.rows next c.loop-at.invariant.texts;
      inside = subst (All (HasWordsIn text)) (sym new) (inside-more text c.loop-at.at c.loop-at.state c.in_ok-line.after line c.loop-at.rows next c.loop-at.invariant.inside);
      rows = λ place l is. rows-more text c.loop-at.at c.loop-at.state c.in_ok-line.after line c.loop-at.rows next rows c.loop-at.invariant.rows place l
          (sym (ap (λ rows. slice_get rows place) new) ∙ is);
    }

pub returns-in-Some-clause-fault : goal.returns-in-Some-clause-fault
returns-in-Some-clause-fault c = (
  open-banner c.args.bytes.now c.loop-at.at c.loop-at.state c.loop-at.invariant.stands c.loop-at-test.false (ap is_some c.in-Some.is),
  no-orphans c.args.bytes.now c.loop-at.at c.loop-at.state c.loop-at.invariant.stands c.loop-at-test.false,
)

pub returns-in-None-clause-lines : goal.returns-in-None-clause-lines
returns-in-None-clause-lines c =
    are-lines c.args.bytes.now c.loop-at.at c.loop-at.state c.loop-at.invariant.stands c.loop-at-test.false c.loop-at.rows c.loop-at.invariant.join
    c.loop-at.invariant.texts c.loop-at.invariant.inside c.loop-at.invariant.rows

pub returns-in-None-clause-no_orphan : goal.returns-in-None-clause-no_orphan
returns-in-None-clause-no_orphan c = λ ok. no-orphans c.args.bytes.now c.loop-at.at c.loop-at.state c.loop-at.invariant.stands c.loop-at-test.false

pub returns-in-None-clause-no_open_banner : goal.returns-in-None-clause-no_open_banner
returns-in-None-clause-no_open_banner c = λ ok. no-banner c.args.bytes.now c.loop-at.at c.loop-at.state c.loop-at.invariant.stands c.loop-at-test.false c.in-None.is
