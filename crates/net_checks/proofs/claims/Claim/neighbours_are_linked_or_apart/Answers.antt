use Rattle.std.proofs.Common.{arith, below_more, refl, sym, ◌∙◌}
use Rattle.std.proofs.lemmas.Bool.{false≢true}
use Rattle.net_checks.proofs.claims.Claim.neighbours_are_linked_or_apart.Goals as goal

pub returns-then-not-is_packed_at : goal.returns-then-not-is_packed_at
returns-then-not-is_packed_at c = (
  λ t. absurd (false≢true t),
  λ packed. absurd (false≢true (sym c.if-not-is_packed_at.true ∙ c.is_packed_at.ensures.1 (λ i d above near. packed i c.loop-place.place d above near c.loop-place-test.true))),
)

pub loop-place-preserved : goal.loop-place-preserved
loop-place-preserved c = below_more _ _ c.loop-place.invariant (c.is_packed_at.ensures.0 c.if-not-is_packed_at.false)

pub returns : goal.returns
returns c = (λ t i j d above near within. c.loop-place.invariant j (omega (arith, within, c.loop-place-test.false)) i d above near, λ packed. refl)
