use Rattle.std.proofs.Common.{arith, None, rules, refl}
use Rattle.sat_core.specs.declared.assigned.Assigned.{Assigned}
use Rattle.sat_search.proofs.Releasing.{range_before, above_more, released_more, released_all}
use Rattle.sat_search.proofs.order.Order.release.Goals as goal

abbrev unset : Assigned
unset = record { lit = record { code = 0 }; level = 0; reason = None }

pub index_mut-requires : goal.index_mut-requires
index_mut-requires c =
    let range = range_before c.args.core.now c.entries-trail.ensures.sound c.entries-trail.result.now c.loop-place.place unset c.entries-trail.ensures.entries
    c.loop-place.invariant.within c.loop-place-test.true in
    omega (arith, c.var.ensures, range.most, c.loop-place.invariant.order.saved)

pub put-requires-clause-least : goal.put-requires-clause-least
put-requires-clause-least c =
    let range = range_before c.args.core.now c.entries-trail.ensures.sound c.entries-trail.result.now c.loop-place.place unset c.entries-trail.ensures.entries
    c.loop-place.invariant.within c.loop-place-test.true in
    omega (arith, c.var-in-loop-place.ensures, range.least)

pub put-requires-clause-below : goal.put-requires-clause-below
put-requires-clause-below c =
    let range = range_before c.args.core.now c.entries-trail.ensures.sound c.entries-trail.result.now c.loop-place.place unset c.entries-trail.ensures.entries
    c.loop-place.invariant.within c.loop-place-test.true in
    omega (arith, c.var-in-loop-place.ensures, range.most, c.loop-place.invariant.order.limit)

pub loop-place-preserved : goal.loop-place-preserved
loop-place-preserved c =
    let range = range_before c.args.core.now c.entries-trail.ensures.sound c.entries-trail.result.now c.loop-place.place unset c.entries-trail.ensures.entries
    c.loop-place.invariant.within c.loop-place-test.true in
    record {
      order = search rules;
      within = search rules;
      above = above_more c.args.core.now c.entries-trail.ensures.sound c.entries-trail.result.now c.loop-place.place unset c.entries-trail.ensures.entries c.loop-place.invariant.within
          c.args.level c.loop-place-test.true c.if-trail-place.true c.loop-place.invariant.above;
      released = released_more c.args.core.now c.entries-trail.ensures.sound c.entries-trail.result.now c.loop-place.place unset c.entries-trail.ensures.entries
          c.loop-place.invariant.within c.args.self.now c.loop-place.self _ c.var.result c.var-in-loop-place.result c.positive.result c.loop-place-test.true
          c.loop-place.invariant.released c.var.ensures c.var-in-loop-place.ensures c.positive.ensures
          (omega (arith, c.var.ensures, range.most, c.loop-place.invariant.order.saved)) refl c.put.ensures.put refl refl;
    }

pub returns-else-trail-place-clause-released : goal.returns-else-trail-place-clause-released
returns-else-trail-place-clause-released c =
    released_all c.args.core.now c.entries-trail.ensures.sound c.entries-trail.result.now c.loop-place.place unset c.entries-trail.ensures.entries
    c.loop-place.invariant.within c.args.level c.args.self.now c.loop-place.self (λ some. c.if-trail-place.false) c.loop-place.invariant.above c.loop-place.invariant.released

pub returns-after-loop-place-clause-released : goal.returns-after-loop-place-clause-released
returns-after-loop-place-clause-released c =
    released_all c.args.core.now c.entries-trail.ensures.sound c.entries-trail.result.now c.loop-place.place unset c.entries-trail.ensures.entries
    c.loop-place.invariant.within c.args.level c.args.self.now c.loop-place.self (λ some. absurd (omega (arith, some, c.loop-place-test.false)))
    c.loop-place.invariant.above c.loop-place.invariant.released
