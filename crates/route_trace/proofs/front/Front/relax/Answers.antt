use Rattle.std.proofs.Common.{◌<◌, ◌+◌, ℕ, Option, Some, List, length, get_or, ◌∙◌, ap, arith}
use Rattle.std.proofs.lemmas.List.{length-set}
use Rattle.route_trace.specs.declared.steps.Step.{Step}
use Rattle.route_trace.specs.Routes.{distance_map}
use Rattle.route_trace.specs.Steps.{lesser}
use Rattle.route_trace.proofs.Relaxing.{relaxed_next, relaxed_all}
use Rattle.route_trace.proofs.front.Front.relax.Goals as goal

pub loop-step-preserved : goal.loop-step-preserved
loop-step-preserved c =
    let z : Step = record { link = record { 0 = 0 }; tail = record { 0 = 0 }; head = record { 0 = 0 }; cost = 0 } in
    let now : List (Option ℕ) = c.loop-step.self.distances.items in
    let within : c.loop-step.step-index < length c.args.steps.now = omega arith in
    let inside : (get_or c.args.steps.now c.loop-step.step-index z).tail.0 < length now =
    omega (arith, c.loop-step.invariant.0, c.requires.tails c.loop-step.step-index z within) in (
      ap (λ (xs : List (Option ℕ)). length xs) c.in_ok-offer.ensures.distances
          ∙ length-set now (get_or c.args.steps.now c.loop-step.step-index z).tail.0
          (Some (lesser (distance_map now (get_or c.args.steps.now c.loop-step.step-index z).tail.0) (c.args.from + (get_or c.args.steps.now c.loop-step.step-index z).cost)))
          ∙ c.loop-step.invariant.0,
      c.in_ok-offer.ensures.settled ∙ c.loop-step.invariant.1,
      c.in_ok-offer.ensures.queue,
      relaxed_next (distance_map c.args.self.now.distances.items) c.args.steps.now c.loop-step.step-index z c.args.from now c.offer.new.self.distances.items
          within inside c.in_ok-offer.ensures.distances c.loop-step.invariant.3,
    )

pub returns-clause-least : goal.returns-clause-least
returns-clause-least c =
    relaxed_all (distance_map c.args.self.now.distances.items) c.args.steps.now c.loop-step.step-index c.args.from (distance_map c.loop-step.self.distances.items)
    (omega arith) c.loop-step.invariant.3
