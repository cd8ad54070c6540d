use Rattle.std.proofs.Common.{◌≡◌, ◌∙◌, ap, sym, subst, List, []}
use Rattle.std.specs.Prelude.{Ok}
use Rattle.std.proofs.lemmas.Bool.{false≢true}
use Rattle.net_model.specs.declared.policies.Policy.{Policy}
use Rattle.policy_report.specs.declared.got.Got.TheVariants.{Verdict}
use Rattle.policy_report.specs.Steps.{standing, step}
use Rattle.report_check.specs.Outcomes.{IsRightAt}
use Rattle.report_check.proofs.Leading.{read_told, right_leads, wrong_leads}
use Rattle.report_check.proofs.judging.judge_line.Goals.{then-is_right_at, else-is_right_at}
use Rattle.report_check.proofs.judging.judge_line.Goals as goal

pub returns-after-is_right_at-clause-next : goal.returns-after-is_right_at-clause-next
returns-after-is_right_at-clause-next c rest =
    let told : (step c.args.net.now c.args.doc.now [] (standing c.args.reader.now) c.args.line.now).1 ≡ Ok (Verdict c.in-Ok-Verdict.which c.in-Ok-Verdict.verdict) =
    read_told _ _ _ _ _ c.report_line.ensures.read c.in-Ok-Verdict.is ∙ ap Ok c.in-Ok-Verdict.field-0-is in
    let same : (v : _) → IsRightAt c.args.net.now c.slice.result.now c.in-Ok-Verdict.which v → IsRightAt c.args.net.now c.args.doc.now.policies c.in-Ok-Verdict.which v =
    λ v h. subst (λ (l : List Policy). IsRightAt c.args.net.now l c.in-Ok-Verdict.which v) c.slice.ensures.items h in
    let back : (v : _) → IsRightAt c.args.net.now c.args.doc.now.policies c.in-Ok-Verdict.which v → IsRightAt c.args.net.now c.slice.result.now c.in-Ok-Verdict.which v =
    λ v h. subst (λ (l : List Policy). IsRightAt c.args.net.now l c.in-Ok-Verdict.which v) (sym c.slice.ensures.items) h in
    elim c.if-is_right_at.branch [
      | then-is_right_at w ↦ right_leads c.args.net.now c.args.doc.now.policies c.args.first c.args.number c.in-Ok-Verdict.which c.in-Ok-Verdict.verdict _ rest c.if-is_right_at.next told w.next-is
          (same c.in-Ok-Verdict.verdict (c.is_right_at.ensures.0 w.if-is_right_at.true))
      | else-is_right_at w ↦ wrong_leads c.args.net.now c.args.doc.now.policies c.args.first c.args.number c.in-Ok-Verdict.which c.in-Ok-Verdict.verdict _ rest c.if-is_right_at.next told w.next-is
          (λ right. false≢true (sym w.if-is_right_at.false ∙ c.is_right_at.ensures.1 (back c.in-Ok-Verdict.verdict right)))
    ]
