use Rattle.std.proofs.Common.{ℕ, below_more, arith}
use Rattle.std.proofs.lemmas.Option.{slice_get_within}
use Rattle.class_graph.specs.Denials.{IsDeniedBy}
use Rattle.class_graph.proofs.Denied.{not_when}
use Rattle.class_graph.proofs.denials.denied_by.Goals as goal

pub loop-place-preserved : goal.loop-place-preserved
loop-place-preserved c =
    let denied = λ (link : ℕ). IsDeniedBy c.args.net.now c.args.pair.now.to c.args.answers.now link in
    below_more (λ (link : ℕ). ¬ denied link) c.loop-place.place c.loop-place.invariant
    (not_when c.is_denied.result (denied c.loop-place.place) c.is_denied.ensures.1 c.if-is_denied.false)

pub returns-clause-none : goal.returns-clause-none
returns-clause-none c = λ link denied.
    c.loop-place.invariant link (omega (arith, slice_get_within c.args.net.now.links denied.arc.link denied.arc.row denied.is_arc.link, denied.of_link)) denied
