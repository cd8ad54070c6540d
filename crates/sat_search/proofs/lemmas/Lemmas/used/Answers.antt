use Rattle.std.proofs.Common.{◌≡◌, ◌++◌, ◌∙◌, ap, sym, true, length, take, drop, get_or, arith, Bool, List}
use Rattle.sat_search.specs.Costs.{uses}
use Rattle.sat_search.proofs.Using.{written, step_next}
use Rattle.sat_search.proofs.lemmas.Lemmas.used.Goals as goal

pub loop-step-preserved : goal.loop-step-preserved
loop-step-preserved c =
    let was = c.loop-step.invariant in
    let now = c.use_hints.new.used in
    let same : c.as_mut_slice.result.now ≡ c.loop-step.used.items = c.as_mut_slice.ensures.value in
    let size : length now ≡ length c.loop-step.used.items = c.use_hints.ensures.size ∙ ap (λ (bs : List Bool). length bs) same in
    let len : length now ≡ c.loop-step.used.len = c.use_hints.ensures.size ∙ c.as_mut_slice.ensures.len in
    let is : take c.loop-step.used.len (now ++ drop (length now) c.loop-step.used.items) ≡ now = written now c.loop-step.used.items c.loop-step.used.len len (sym size ∙ len) in
    record {
      size = ap (λ (bs : List Bool). length bs) is ∙ size ∙ was.size;
      used = λ rise place id low at.
          ap (λ (bs : List Bool). get_or bs place true) is
          ∙ step_next uses c.args.steps.now c.loop-step.step-index c.step-item.result c.step-item.result place id c.as_mut_slice.result.now now c.loop-step-test.true c.step-item.is
          (ap (λ (bs : List Bool). get_or bs place true) same ∙ was.used rise place id low at)
          (c.use_hints.ensures.used rise place id (omega (arith, low, was.size, ap (λ (bs : List Bool). length bs) same)) at);
    }
