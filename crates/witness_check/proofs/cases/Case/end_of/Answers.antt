use Rattle.std.proofs.Common.{false, arith, refl}
use Rattle.net_model.specs.Routing.{Arc}
use Rattle.witness_check.specs.Cases.{arc_of, TestGives}
use Rattle.witness_check.proofs.Following.{none_at, fails_at, rest_at, with_at, end_at}
use Rattle.witness_check.proofs.cases.Case.end_of.Goals as goal

pub returns-in_default-clause-none : goal.returns-in_default-clause-none
returns-in_default-clause-none g c v trail =
    none_at c.args.self.now.net.now c.args.self.now.to (λ (arc : Arc). ¬ TestGives (goal.F-post g c.args.test) false arc) c.loop-link.router.0 c.args.links.now
    c.loop-link.link-index _ v (omega arith) c.in_default.ensures.none (c.loop-link.invariant.none v trail)

pub returns-then-not-test-clause-none : goal.returns-then-not-test-clause-none
returns-then-not-test-clause-none g c v trail =
    fails_at c.args.self.now.net.now c.args.self.now.to (λ (arc : Arc). ¬ TestGives (goal.F-post g c.args.test) false arc) c.requires.valid c.loop-link.router.0
    c.args.links.now c.loop-link.link-index _ v (arc_of c.in-Some.arc) (omega arith) c.in-Some.ensures.found (λ keeps. keeps (c.in-Some.arc, refl, c.if-not-test.ensures))
    (c.loop-link.invariant.none v trail)

pub loop-link-preserved : goal.loop-link-preserved
loop-link-preserved g c = record {
  found = λ v rest. c.loop-link.invariant.found v
      (with_at c.args.self.now.net.now c.args.self.now.to _ c.loop-link.router.0 c.args.links.now c.loop-link.link-index _ v (arc_of c.in-Some.arc) (omega arith) c.in-Some.ensures.found
      (c.in-Some.arc, refl, c.if-not-test.ensures) rest);
  none = λ v trail.
      rest_at c.args.self.now.net.now c.args.self.now.to _ c.requires.valid c.loop-link.router.0 c.args.links.now c.loop-link.link-index _ v (arc_of c.in-Some.arc) (omega arith)
      c.in-Some.ensures.found (c.loop-link.invariant.none v trail);
}

pub returns-clause-found : goal.returns-clause-found
returns-clause-found g c =
    c.loop-link.invariant.found c.loop-link.router.0 (end_at c.args.self.now.net.now c.args.self.now.to _ c.loop-link.router.0 c.args.links.now c.loop-link.link-index (omega arith))
