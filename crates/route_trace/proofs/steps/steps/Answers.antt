use Rattle.std.proofs.Common.{◌≡◌, ◌<◌, ◌++◌, ℕ, false, Some, List, length, get_or, sym, ◌∙◌, ap, subst, arith}
use Rattle.std.specs.Prelude.{slice_get}
use Rattle.std.specs.Option.{option_to_list}
use Rattle.std.proofs.lemmas.Option.{slice_get-get_or}
use Rattle.net_model.specs.declared.tables.RoutedLink.{RoutedLink}
use Rattle.route_trace.specs.declared.steps.Step.{Step}
use Rattle.route_trace.specs.Routes.{flagged}
use Rattle.route_trace.specs.Steps.{AreSteps}
use Rattle.route_trace.proofs.StepLists.{steps_none, steps_more, steps_fit}
use Rattle.route_trace.proofs.steps.steps.Goals as goal

pub loop-place-init : goal.loop-place-init
loop-place-init c =
    subst (AreSteps c.args.net.now c.args.to (flagged c.args.down.now) 0) (sym c.new-steps.ensures.items) (steps_none c.args.net.now c.args.to (flagged c.args.down.now))

pub loop-place-preserved : goal.loop-place-preserved
loop-place-preserved c =
    let z : RoutedLink = record { from_a = false; from_b = false } in
    let within : c.loop-place.place < length c.slice-flags-items.result.now = c.loop-place-test.true in
    let read : slice_get c.in_ok-table.table c.loop-place.place ≡ Some (get_or c.slice-flags-items.result.now c.loop-place.place z) =
    subst (λ (ys : List RoutedLink). slice_get ys c.loop-place.place ≡ Some (get_or c.slice-flags-items.result.now c.loop-place.place z)) c.slice-flags-items.ensures.items
    (slice_get-get_or c.slice-flags-items.result.now c.loop-place.place z within) in
    subst (AreSteps c.args.net.now c.args.to (flagged c.args.down.now) _)
    (sym (c.in_ok-add-2.ensures ∙ ap (λ (ys : List Step). ys ++ option_to_list c.usable_step-in-loop-place.result) c.in_ok-add.ensures))
    (steps_more c.args.net.now c.requires.valid c.args.to (flagged c.args.down.now) c.loop-place.place (get_or c.slice-flags-items.result.now c.loop-place.place z)
    c.loop-place.steps.items c.usable_step.result c.usable_step-in-loop-place.result (c.in_ok-table.ensures.each c.loop-place.place _ read)
    c.usable_step.ensures.found c.usable_step.ensures.none c.usable_step-in-loop-place.ensures.found c.usable_step-in-loop-place.ensures.none c.loop-place.invariant)

pub returns-clause-exact : goal.returns-clause-exact
returns-clause-exact c =
    let all : c.loop-place.place ≡ length c.args.net.now.links = omega (arith, c.in_ok-table.ensures.whole, ap length c.slice-flags-items.ensures.items) in
    subst (λ (n : ℕ). AreSteps c.args.net.now c.args.to (flagged c.args.down.now) n c.loop-place.steps.items) all c.loop-place.invariant

pub returns-clause-fit : goal.returns-clause-fit
returns-clause-fit c =
    steps_fit c.args.net.now c.requires.valid c.args.to (flagged c.args.down.now) c.loop-place.place c.loop-place.steps.items c.loop-place.invariant
