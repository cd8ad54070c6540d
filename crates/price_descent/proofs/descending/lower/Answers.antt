use Rattle.std.proofs.Common.{◌≡◌, ◌<◌, ◌≤◌, ◌+◌, ◌-◌, ◌^◌, inl, inr, ap, sym, ◌∙◌, subst, arith, length, All, Some, None}
use Rattle.std.specs.Prelude.{refl}
use Rattle.proof_check.specs.Knowledge.{start}
use Rattle.sat_core.specs.Trails.{IsOf}
use Rattle.clean_logs.specs.CleanLogs.{additions}
use Rattle.price_descent.specs.Outcomes.{IsFound}
use Rattle.price_descent.specs.Progress.{IsAttempt, LeavesOffer, with_log}
use Rattle.price_descent.specs.declared.attempting.Attempt.TheVariants.{Refuted, Spent, Offered}
use Rattle.price_descent.proofs.Logs.{clean_filled, clean_accepted}
use Rattle.sat_search.proofs.Steps.{additions-append}
use Rattle.price_descent.proofs.Underway.{lowered, underway_same}
use Rattle.price_descent.proofs.Offers.{came_to, bounds_lowered, settled_found, free_found}
use Rattle.price_descent.proofs.descending.lower.Given as given
use Rattle.price_descent.proofs.descending.lower.Goals as goal
use Rattle.price_descent.proofs.descending.lower.Goals.{In_ok-make_attempt, In-Offered}

pub make_attempt-requires-clause-filled : goal.make_attempt-requires-clause-filled
make_attempt-requires-clause-filled g c =
    let f = c.args.formula in
    let tops = c.args.tops.now in
    let old = c.loop-best.log.steps in
    let was = c.loop-best.invariant.underway in
    clean_filled (start f None tops) _ _ old (was.clean None refl)

-- what the search leaves
attempted : (g : given.Over) (c : In_ok-make_attempt g) →
    IsAttempt (g.P.Prices.price_of c.args.prices.now) c.args.formula c.args.tops.now c.args.count c.args.bound c.loop-best.lowest c.args.limit
    c.make_attempt.new.log.steps c.make_attempt.new.core c.in_ok-make_attempt.field-0
attempted g c =
    let before = c.loop-best.invariant in
    c.in_ok-make_attempt.ensures.attempt c.args.formula c.args.bound c.loop-best.lowest c.requires.priced before.low before.underway before.bounds

pub returns-in-Refuted-clause-found : goal.returns-in-Refuted-clause-found
returns-in-Refuted-clause-found g c =
    let price = g.P.Prices.price_of c.args.prices.now in
    let f = c.args.formula in
    let tops = c.args.tops.now in
    let most = c.args.bound in
    let lowest = c.loop-best.lowest in
    let log = c.make_attempt.new.log in
    let few : length tops ≤ most + 1 = elim c.requires.tops [ inl none ↦ omega (arith, none) | inr some ↦ omega (arith, some) ] in
    let shown = came_to Refuted (attempted g (goal.at.returns-in-Refuted-clause-found g c).In_ok-make_attempt) c.in-Refuted.is in
    subst (IsFound price f tops c.args.count most c.args.limit) (sym (ap (λ e. with_log e log) c.settled.ensures))
    (settled_found c.accepted_logs_are_sound.ensures price f tops c.args.count most lowest c.args.limit c.requires.priced few log c.loop-best.invariant.low
    shown.0 shown.1 c.loop-best.best c.loop-best.invariant.best)

pub returns-in-Refuted-clause-lines : goal.returns-in-Refuted-clause-lines
returns-in-Refuted-clause-lines g c = (attempted g (goal.at.returns-in-Refuted-clause-lines g c).In_ok-make_attempt).lines

pub returns-in-Spent-clause-found : goal.returns-in-Spent-clause-found
returns-in-Spent-clause-found g c =
    let done = attempted g (goal.at.returns-in-Spent-clause-found g c).In_ok-make_attempt in
    record { spent = came_to Spent done c.in-Spent.is; bounds = done.bounds }

pub returns-in-Spent-clause-lines : goal.returns-in-Spent-clause-lines
returns-in-Spent-clause-lines g c = (attempted g (goal.at.returns-in-Spent-clause-lines g c).In_ok-make_attempt).lines

-- what it leaves with an offer
leaves : (g : given.Over) (c : In-Offered g) →
    LeavesOffer (g.P.Prices.price_of c.args.prices.now) c.args.formula c.args.tops.now c.args.count c.args.bound c.loop-best.lowest
    c.make_attempt.new.log.steps c.make_attempt.new.core c.in-Offered.offer
leaves g c =
    let before = c.loop-best.invariant in
    came_to (Offered c.in-Offered.offer)
    (c.in_ok-make_attempt.ensures.attempt c.args.formula c.args.bound c.loop-best.lowest c.requires.priced before.low before.underway before.bounds) c.in-Offered.is

pub returns-then-offer-eq0-clause-found : goal.returns-then-offer-eq0-clause-found
returns-then-offer-eq0-clause-found g c =
    let price = g.P.Prices.price_of c.args.prices.now in
    let f = c.args.formula in
    let tops = c.args.tops.now in
    let new = c.make_attempt.new.log.steps in
    let left = leaves g (goal.at.returns-then-offer-eq0-clause-found g c).In-Offered in
    free_found price f tops c.args.count c.args.bound c.in-Offered.offer new left.is c.if-offer-eq0.true
    (clean_accepted (start f None tops) _ _ new (left.now.clean None refl))

pub returns-then-offer-eq0-clause-lines : goal.returns-then-offer-eq0-clause-lines
returns-then-offer-eq0-clause-lines g c = (attempted g (goal.at.returns-then-offer-eq0-clause-lines g c).In_ok-make_attempt).lines

pub overflow_cast-lowest : goal.overflow_cast-lowest
overflow_cast-lowest g c =
    let left = leaves g (goal.at.overflow_cast-lowest g c).In-Offered in
    omega (arith, left.cheaper, c.loop-best.invariant.low, c.ranges.bound.fits)

pub add_bound-requires-clause-level : goal.add_bound-requires-clause-level
add_bound-requires-clause-level g c = (leaves g (goal.at.add_bound-requires-clause-level g c).In-Offered).now.level

pub add_bound-requires-clause-range : goal.add_bound-requires-clause-range
add_bound-requires-clause-range g c =
    let left = leaves g (goal.at.add_bound-requires-clause-range g c).In-Offered in
    subst (λ n. All (IsOf n) c.args.tops.now) (sym left.now.vars) c.requires.range

pub add_bound-requires-clause-top : goal.add_bound-requires-clause-top
add_bound-requires-clause-top g c =
    let left = leaves g (goal.at.add_bound-requires-clause-top g c).In-Offered in
    left.top (c.in-Offered.offer.price - 1) (omega (arith, c.if-offer-eq0.false))

pub add_bound-requires-clause-ids : goal.add_bound-requires-clause-ids
add_bound-requires-clause-ids g c =
    let left = leaves g (goal.at.add_bound-requires-clause-ids g c).In-Offered in
    omega (arith, left.now.last_id, left.now.room, c.in_ok-make_attempt.ensures.limit, c.requires.limit, c.requires.bound, c.in_ok-core.ensures.few)

pub add_bound-requires-clause-short : goal.add_bound-requires-clause-short
add_bound-requires-clause-short g c =
    let left = leaves g (goal.at.add_bound-requires-clause-short g c).In-Offered in
    omega (arith, left.now.room, c.in_ok-make_attempt.ensures.limit, c.requires.limit, c.requires.bound)

pub loop-best-smaller : goal.loop-best-smaller
loop-best-smaller g c =
    let left = leaves g (goal.at.loop-best-smaller g c).In-Offered in
    omega (arith, left.cheaper, c.if-offer-eq0.false)

pub loop-best-preserved : goal.loop-best-preserved
loop-best-preserved g c =
    let price = g.P.Prices.price_of c.args.prices.now in
    let f = c.args.formula in
    let tops = c.args.tops.now in
    let most = c.args.bound in
    let lowest = c.loop-best.lowest in
    let new = c.make_attempt.new.log.steps in
    let core = c.make_attempt.new.core in
    let o = c.in-Offered.offer in
    let left = leaves g (goal.at.loop-best-preserved g c).In-Offered in
    let next = o.price - 1 in
    let below : next < lowest = omega (arith, left.cheaper, c.if-offer-eq0.false) in
    let top : next < length tops = left.top next (omega (arith, c.if-offer-eq0.false)) in
    let ids : core.last_id + 1 < 2 ^ 63 = omega (arith, left.now.last_id, left.now.room, c.in_ok-make_attempt.ensures.limit, c.requires.limit, c.requires.bound, c.in_ok-core.ensures.few) in
    let grown = c.in_ok-add_bound-in-Offered.ensures.log in
    let cost : o.price ≡ next + 1 = omega (arith, c.if-offer-eq0.false) in
    let bounds = (attempted g (goal.at.loop-best-preserved g c).In_ok-make_attempt).bounds in
    record {
      underway = underway_same f tops most next _ _ _ _ (lowered f tops most lowest new core left.now next below top ids (omega (arith, below, c.loop-best.invariant.low, c.requires.bound)))
          grown c.in_ok-add_bound-in-Offered.ensures.core;
      bounds = bounds_lowered price f tops c.args.count most _ next new _ o bounds grown left.is cost;
      best = (left.is, cost);
      low = omega (arith, below, c.loop-best.invariant.low);
      most = omega (arith, ap additions grown ∙ additions-append new _, c.in_ok-make_attempt.ensures.limit);
    }
