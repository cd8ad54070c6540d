use Rattle.std.proofs.Common.{ℕ, [], ◌∷◌, map, ap}
use Rattle.condition_formula.specs.declared.condition.Condition.{Condition}
use Rattle.condition_formula.specs.Clauses.{no, affirmed}
use Rattle.condition_formula.specs.Writing.{used_by}
use Rattle.condition_formula.specs.Reaching.{arc_at}
use Rattle.condition_formula.proofs.Adding.{Adds-same, Adds-more}
use Rattle.condition_formula.proofs.family.Family.routed.Goals as goal

pub loop-place-preserved : goal.loop-place-preserved
loop-place-preserved c =
    let f = λ (p : ℕ). map (λ (k : Condition). no (used_by c.args.self.now p) ∷ affirmed k ∷ []) (arc_at c.args.self.now.q.now p).routing in
    let e = c.at.ensures.cell in
    Adds-more f c.args.out.now c.loop-place.out c.routed_at.new.out c.loop-place.place c.loop-place.invariant
    (Adds-same _ _ _ _ (ap (λ (v : ℕ). map (λ (k : Condition). no v ∷ affirmed k ∷ []) (arc_at c.args.self.now.q.now c.loop-place.place).routing) e) c.in_ok-routed_at.ensures)
