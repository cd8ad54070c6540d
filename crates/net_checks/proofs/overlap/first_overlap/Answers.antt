use Rattle.std.proofs.Common.{◌≡◌, ℕ, ◌+◌, subst, arith}
use Rattle.net_checks.specs.Claims.{ClearBelow}
use Rattle.net_checks.proofs.FirstOverlap.{overlaps_there, none_earlier}
use Rattle.net_checks.proofs.overlap.first_overlap.Goals as goal

pub returns-clause-first : goal.returns-clause-first
returns-clause-first c =
    let same : c.loop-low.high ≡ c.loop-low.low + 1 = omega (arith, c.loop-low.invariant.order, c.loop-low-test.false) in
    let not_clear : ¬ ClearBelow c.args.net.now (c.loop-low.low + 1) = subst (λ (n : ℕ). ¬ ClearBelow c.args.net.now n) same c.loop-low.invariant.not_clear in (
      overlaps_there c.args.net.now c.loop-low.low (omega (arith, c.loop-low.invariant.order, c.loop-low.invariant.within)) c.loop-low.invariant.clear not_clear,
      none_earlier c.args.net.now c.loop-low.low c.loop-low.invariant.clear,
    )
