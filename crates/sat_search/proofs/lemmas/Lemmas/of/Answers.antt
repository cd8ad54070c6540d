use Rattle.std.proofs.Common.{ℕ, ◌∷◌, ◌++◌, [], refl, ap, ◌∙◌, arith}
use Rattle.sat_search.specs.declared.lemmas.Lemmas.{Lemmas}
use Rattle.sat_search.proofs.Forgetting.{first_add, first_drop, first_bound}
use Rattle.sat_search.proofs.Waits.{begins_add, begins_drop, begins_bound}
use Rattle.sat_search.proofs.lemmas.Lemmas.of.Goals as goal
use Rattle.sat_search.proofs.lemmas.Lemmas.of.Goals.{in-Add+in_ok-add-in-Add, in-Drop, in-Bound}

pub loop-step-preserved : goal.loop-step-preserved
loop-step-preserved c =
    let i = c.loop-step.step-index in
    let was = c.loop-step.invariant in
    elim c.match-step.branch [
      | in-Add+in_ok-add-in-Add w ↦ record {
        lemmas = first_add c.args.steps.now i c.step-item.result c.loop-step.lemmas w.add.new.self c.match-step.lemmas _ _ _ was.lemmas c.loop-step-test.true c.step-item.is
            w.in-Add.is w.in_ok-add-in-Add.ensures.ids w.add.ensures.drops w.in_ok-add-in-Add.ensures.wait w.lemmas-is;
        few = omega (arith, was.few, w.add.ensures.drops, ap (λ (l : Lemmas). l.drops) w.lemmas-is);
        begins = begins_add c.args.steps.now i c.step-item.result c.loop-step.lemmas w.add.new.self c.match-step.lemmas was.begins c.loop-step-test.true c.step-item.is w.lemmas-is
            _ _ _ w.in-Add.is (w.in_ok-add-in-Add.ensures.levels ∙ ap (λ (n : ℕ). c.loop-step.lemmas.levels.items ++ n ∷ []) w.len.ensures) w.add.ensures.from;
      }
      | in-Drop w ↦ record {
        lemmas = first_drop c.args.steps.now i c.step-item.result c.loop-step.lemmas w.dropped.new.self c.match-step.lemmas _ was.lemmas c.loop-step-test.true c.step-item.is
            w.in-Drop.is (ap (λ (l : Lemmas). l.ids.items) w.dropped.ensures) (ap (λ (l : Lemmas). l.drops) w.dropped.ensures) (ap (λ (l : Lemmas). l.wait) w.dropped.ensures) w.lemmas-is;
        few = omega (arith, was.few, ap (λ (l : Lemmas). l.drops) w.dropped.ensures, ap (λ (l : Lemmas). l.drops) w.lemmas-is);
        begins = begins_drop c.args.steps.now i c.step-item.result c.loop-step.lemmas w.dropped.new.self c.match-step.lemmas was.begins c.loop-step-test.true c.step-item.is
            w.lemmas-is _ w.in-Drop.is w.dropped.ensures;
      }
      | in-Bound w ↦ record {
        lemmas = first_bound c.args.steps.now i c.step-item.result c.loop-step.lemmas c.match-step.lemmas _ _ was.lemmas c.loop-step-test.true c.step-item.is w.in-Bound.is w.lemmas-is;
        few = omega (arith, was.few, ap (λ (l : Lemmas). l.drops) w.lemmas-is);
        begins = begins_bound c.args.steps.now i c.step-item.result c.loop-step.lemmas c.loop-step.lemmas c.match-step.lemmas was.begins c.loop-step-test.true c.step-item.is
            w.lemmas-is _ _ w.in-Bound.is refl;
      }
    ]
