use Rattle.std.proofs.Common.{refl}
use Rattle.arc_base.proofs.Digits.{refused}
use Rattle.arc_base.proofs.word_numbers.natural.Goals as goal

pub returns-in_err-value : goal.returns-in_err-value
returns-in_err-value c =
    rw c.from_residual.ensures (refused c.args.limit c.loop-byte.value c.args.word.now c.loop-byte.byte-index _ c.loop-byte-test.true refl
    c.loop-byte.invariant.digits c.loop-byte.invariant.value c.in_err-value.ensures)
