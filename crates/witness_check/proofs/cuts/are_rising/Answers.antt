use Rattle.std.proofs.Common.{refl, arith}
use Rattle.std.proofs.lemmas.Bool.{false≢true}
use Rattle.witness_check.proofs.Rising.{not_rising, all_rising}
use Rattle.witness_check.proofs.cuts.are_rising.Goals as goal

pub returns-then-links-place : goal.returns-then-links-place
returns-then-links-place c = (
  λ t. absurd (false≢true t),
  λ rising. absurd (not_rising c.args.links.now (λ l. l.0) c.loop-place.place _ _ (omega arith) (omega arith) c.if-links-place.true rising),
)

pub returns : goal.returns
returns c = (
  λ t. all_rising c.args.links.now (λ l. l.0) (record { 0 = 0 }) c.loop-place.place (omega arith) c.loop-place.invariant,
  λ rising. refl,
)
