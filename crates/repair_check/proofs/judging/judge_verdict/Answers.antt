use Rattle.std.proofs.Common.{◌∙◌, List, sym, subst}
use Rattle.std.proofs.lemmas.Bool.{false≢true}
use Rattle.net_model.specs.declared.policies.Policy.{Policy}
use Rattle.report_check.specs.Outcomes.{IsRightAt}
use Rattle.repair_check.proofs.Leading.{wrong_leads}
use Rattle.repair_check.proofs.judging.judge_verdict.Goals as goal

pub returns-then-not-is_right_at : goal.returns-then-not-is_right_at
returns-then-not-is_right_at c net list =
    wrong_leads net c.args.doc.now list c.args.blocks c.args.number c.args.which c.args.verdict.now _ c.rejected.ensures
    (λ right.
    let here : IsRightAt c.args.blocks.now c.slice.result.now c.args.which c.args.verdict.now =
    subst (λ (l : List Policy). IsRightAt c.args.blocks.now l c.args.which c.args.verdict.now) (sym c.slice.ensures.items) right in
    false≢true (sym c.if-not-is_right_at.true ∙ c.is_right_at.ensures.1 here))
