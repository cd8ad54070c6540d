use Rattle.std.proofs.Common.{sym, ◌∙◌, arith}
use Rattle.std.specs.Prelude.{AllPairs}
use Rattle.std.proofs.lemmas.Bool.{false≢true}
use Rattle.net_model.specs.Packets.{ShareNoPacket}
use Rattle.net_model.specs.declared.verdicts.ClassSide.{ClassSide}
use Rattle.witness_check.proofs.Repeats.{pairs_first_at, pairs_on_at}
use Rattle.witness_check.proofs.sides.are_all_apart.Goals as goal

-- the classes of the two sides share no packet
abbrev Apart : ClassSide → ClassSide → Type 0
Apart c d = ShareNoPacket c.class d.class

pub returns-then-not-is_apart : goal.returns-then-not-is_apart
returns-then-not-is_apart c = (
  λ t. absurd (false≢true t),
  λ pairs. absurd (false≢true (sym c.if-not-is_apart.true ∙ c.is_apart.ensures.1
      (pairs_first_at Apart c.args.sides.now c.loop-place.place c.index-sides-place.result (omega arith) c.index-sides-place.is (c.loop-place.invariant.0 pairs)))),
)

pub loop-place-preserved : goal.loop-place-preserved
loop-place-preserved c =
    pairs_on_at Apart (AllPairs Apart c.args.sides.now) c.args.sides.now c.loop-place.place c.index-sides-place.result (omega arith) c.index-sides-place.is
    (c.is_apart.ensures.0 c.if-not-is_apart.false) c.loop-place.invariant
