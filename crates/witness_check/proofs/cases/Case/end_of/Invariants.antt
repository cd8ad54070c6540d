use Rattle.std.proofs.Common.{ℕ, true, false, drop}
use Rattle.net_model.specs.Routing.{Arc}
use Rattle.witness_check.specs.Cases.{TestGives}
use Rattle.witness_check.specs.Trails.{IsTrail}
use Rattle.witness_check.proofs.cases.Case.end_of.Given as goal

abbrev pub invariant-loop-link : goal.invariant-loop-link
invariant-loop-link g l = record {
  found : (v : ℕ) → IsTrail l.self.net.now l.self.to (TestGives (goal.F-post g l.test) true) l.router.0 (drop l.link-index l.links) v →
      IsTrail l.self.net.now l.self.to (TestGives (goal.F-post g l.test) true) l.fn.from.0 l.links v;
  none : (v : ℕ) → IsTrail l.self.net.now l.self.to (λ (arc : Arc). ¬ TestGives (goal.F-post g l.test) false arc) l.fn.from.0 l.links v →
      IsTrail l.self.net.now l.self.to (λ (arc : Arc). ¬ TestGives (goal.F-post g l.test) false arc) l.router.0 (drop l.link-index l.links) v;
}
