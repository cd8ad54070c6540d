use Rattle.std.proofs.Common.{ℕ, ◌∷◌, map}
use Rattle.condition_formula.specs.Clauses.{yes, no}
use Rattle.condition_formula.proofs.Adding.{Adds-each_number, Adds-every}
use Rattle.condition_formula.proofs.variables.each_implies.Goals as goal

pub loop-one-preserved : goal.loop-one-preserved
loop-one-preserved c =
    Adds-each_number (λ (v : ℕ). no v ∷ map yes c.args.others.now) c.args.out.now c.loop-one.out c.one_implies.new.out c.args.ones.now c.loop-one.one-index 0
    c.loop-one-test.true c.loop-one.invariant c.in_ok-one_implies.ensures

pub returns : goal.returns
returns c =
    Adds-every (λ (v : ℕ). no v ∷ map yes c.args.others.now) c.args.out.now c.loop-one.out c.args.ones.now c.loop-one.one-index c.loop-one-test.false c.loop-one.invariant
