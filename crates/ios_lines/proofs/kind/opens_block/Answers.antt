use Rattle.std.proofs.Common.{false, true, cond, refl, sym, ap}
use Rattle.ios_lines.proofs.KnownWords.{or_false, other_word}
use Rattle.ios_lines.proofs.kind.opens_block.Goals as goal

pub returns : goal.returns
returns c = sym (ap (λ v. cond v false true)
    (or_false _ _ _ (other_word c.args.word.now _ c.if-eq.ensures) (or_false _ _ _ (other_word c.args.word.now _ c.if-eq-2.ensures)
    (or_false _ _ _ (other_word c.args.word.now _ c.if-eq-3.ensures) refl))))
