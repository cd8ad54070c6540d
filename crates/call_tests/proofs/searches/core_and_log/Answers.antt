use Rattle.std.proofs.Common.{false, length, [], ◌∷◌, ap, refl, ◌∙◌, arith}
use Rattle.std.specs.List.{list_any}
use Rattle.std.proofs.lemmas.Bool.{or_from}
use Rattle.std.proofs.lemmas.List.{length-append}
use Rattle.std.proofs.lemmas.List.Folds.{list_any-append}
use Rattle.proof_check.specs.Logs.{adds_empty}
use Rattle.clean_logs.specs.CleanLogs.{additions}
use Rattle.sat_search.proofs.Steps.{additions-append}
use Rattle.call_tests.proofs.OneStep.{additions_one}
use Rattle.call_tests.proofs.searches.core_and_log.Goals as goal

pub loop-id-preserved : goal.loop-id-preserved
loop-id-preserved c =
    let was = c.loop-id.invariant in
    let steps = c.loop-id.log.steps in
    let step = c.in_ok-again.field-0 in
    let is = c.in_ok-push.ensures.ok in
    let long = ap length is ∙ length-append steps (step ∷ []) in
    record {
      level = c.in_ok-put.ensures.level;
      vars = c.in_ok-put.ensures.vars ∙ was.vars;
      last_id = omega (arith, c.in_ok-put.ensures.last_id, was.last_id);
      known = c.in_ok-put.ensures.known;
      long = omega (arith, long, was.long);
      few = omega (arith, long, ap additions is, additions-append steps (step ∷ []), additions_one step, was.few);
      filled = ap (list_any adds_empty) is ∙ list_any-append adds_empty steps (step ∷ [])
          ∙ or_from (list_any adds_empty steps) (list_any adds_empty (step ∷ [])) was.filled (or_from (adds_empty step) false c.in_ok-again.ensures refl);
    }
