use Rattle.std.proofs.Common.{◌≡◌, ◌<◌, ℕ, Option, None, List, length, sym, ◌∙◌, ap, subst, arith}
use Rattle.route_trace.specs.declared.steps.End.TheVariants.{Head}
use Rattle.route_trace.specs.Routes.{distance_map}
use Rattle.route_trace.specs.Steps.{IsNearest, IsStableOver, waiting, steps_at}
use Rattle.route_trace.proofs.GroupedSteps.{group_read}
use Rattle.route_trace.proofs.UnderWay.{tails_within, sums_within, nearest_within, under_way_here, under_way_all}
use Rattle.route_trace.proofs.front.settle.Goals as goal

pub relax-requires-clause-tails : goal.relax-requires-clause-tails
relax-requires-clause-tails c =
    let nearest : IsNearest (waiting c.nearest.front.distances.items c.nearest.front.settled.items) c.in-Some.at.0 c.in-Some.distance = c.in-Some.ensures.nearest in
    let inside : c.in-Some.at.0 < c.args.routers =
    nearest_within c.args.steps.now c.args.routers c.args.owner.0 c.in-Some.at.0 c.in-Some.distance c.nearest.front.distances.items c.nearest.front.settled.items
    c.nearest.invariant.0 nearest in
    let group : c.deref.result.now ≡ steps_at Head c.args.steps.now c.in-Some.at.0 =
    group_read Head c.args.steps.now c.args.routers c.in-Some.at.0 c.in_ok-groups.groups.items c.index.result.now c.deref.result.now c.in_ok-groups.ensures inside
    c.index.ensures c.deref.ensures.value in
    tails_within c.args.steps.now c.args.routers c.in-Some.at.0 _ c.deref.result.now c.requires.fit group
    (ap (λ (xs : List (Option ℕ)). length xs) c.in-Some.ensures.distances ∙ c.nearest.invariant.0.whole)

pub relax-requires-clause-sums : goal.relax-requires-clause-sums
relax-requires-clause-sums c =
    let nearest : IsNearest (waiting c.nearest.front.distances.items c.nearest.front.settled.items) c.in-Some.at.0 c.in-Some.distance = c.in-Some.ensures.nearest in
    let inside : c.in-Some.at.0 < c.args.routers =
    nearest_within c.args.steps.now c.args.routers c.args.owner.0 c.in-Some.at.0 c.in-Some.distance c.nearest.front.distances.items c.nearest.front.settled.items
    c.nearest.invariant.0 nearest in
    let group : c.deref.result.now ≡ steps_at Head c.args.steps.now c.in-Some.at.0 =
    group_read Head c.args.steps.now c.args.routers c.in-Some.at.0 c.in_ok-groups.groups.items c.index.result.now c.deref.result.now c.in_ok-groups.ensures inside
    c.index.ensures c.deref.ensures.value in
    sums_within c.args.steps.now c.args.routers c.args.owner.0 c.in-Some.at.0 c.in-Some.distance c.nearest.front.distances.items c.nearest.front.settled.items
    c.deref.result.now (omega arith) c.requires.fit group c.nearest.invariant.0 nearest

pub nearest-preserved : goal.nearest-preserved
nearest-preserved c =
    let nearest : IsNearest (waiting c.nearest.front.distances.items c.nearest.front.settled.items) c.in-Some.at.0 c.in-Some.distance = c.in-Some.ensures.nearest in
    let inside : c.in-Some.at.0 < c.args.routers =
    nearest_within c.args.steps.now c.args.routers c.args.owner.0 c.in-Some.at.0 c.in-Some.distance c.nearest.front.distances.items c.nearest.front.settled.items
    c.nearest.invariant.0 nearest in
    let group : c.deref.result.now ≡ steps_at Head c.args.steps.now c.in-Some.at.0 =
    group_read Head c.args.steps.now c.args.routers c.in-Some.at.0 c.in_ok-groups.groups.items c.index.result.now c.deref.result.now c.in_ok-groups.ensures inside
    c.index.ensures c.deref.ensures.value in (
      under_way_here c.args.steps.now c.args.routers c.args.owner.0 c.nearest.front.distances.items c.settle_nearest.new.self.distances.items
          c.relax.new.self.distances.items c.nearest.front.settled.items c.settle_nearest.new.self.settled.items c.relax.new.self.settled.items c.in-Some.at.0
          c.in-Some.distance c.deref.result.now c.nearest.invariant.0 c.requires.fit nearest group c.in-Some.ensures.distances c.in-Some.ensures.settled
          c.in_ok-relax.ensures.settled c.in_ok-relax.ensures.whole c.in_ok-relax.ensures.least,
      c.in_ok-relax.ensures.queue,
    )

pub returns-clause-stable : goal.returns-clause-stable
returns-clause-stable c =
    let none : (u : ℕ) → waiting c.nearest.front.distances.items c.nearest.front.settled.items u ≡ None = c.in_default.ensures.nearest in
    subst (λ (xs : List (Option ℕ)). IsStableOver c.args.steps.now c.args.owner.0 (distance_map xs)) (sym c.in_default.ensures.distances)
    (under_way_all c.args.steps.now c.args.routers c.args.owner.0 c.nearest.front.distances.items c.nearest.front.settled.items c.nearest.invariant.0 none)
