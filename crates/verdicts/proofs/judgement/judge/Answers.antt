use Rattle.net_model.specs.Witnesses.{IsRight}
use Rattle.traffic_classes.proofs.Marked.{there}
use Rattle.verdicts.specs.Fixed.{IsFixed}
use Rattle.verdicts.proofs.Verdicts.{right_policy, fixed_policy}
use Rattle.verdicts.proofs.judgement.judge.Goals as goal

pub returns-clause-right : goal.returns-clause-right
returns-clause-right c =
    there _ c.in-Some.policy.now (λ p. IsRight c.args.net.now p c.in_ok-verdict.verdict) c.in-Some.ensures.item
    (right_policy c.args.net.now c.in-Some.policy.now c.subject.result c.subject.ensures c.in_ok-pair.pair c.in_ok-pair.ensures c.in_ok-parts.parts
    (c.in_ok-parts.ensures.parts c.args.net.now c.args.policies.now c.in_ok-marks.ensures)
    c.in_ok-verdict.verdict c.in_ok-verdict.ensures.verdict)

pub returns-clause-fixed : goal.returns-clause-fixed
returns-clause-fixed c =
    there _ c.in-Some.policy.now (λ p. IsFixed c.args.net.now c.args.policies.now p c.in_ok-verdict.verdict) c.in-Some.ensures.item
    (fixed_policy c.args.net.now c.args.policies.now c.in-Some.policy.now c.subject.result c.subject.ensures c.in_ok-pair.pair c.in_ok-pair.ensures c.in_ok-parts.parts
    (c.in_ok-parts.ensures.parts c.args.net.now c.args.policies.now c.in_ok-marks.ensures)
    (c.in_ok-parts.ensures.classes c.args.net.now c.args.policies.now c.in_ok-marks.ensures)
    c.in_ok-parts.ensures.few c.in_ok-verdict.verdict c.in_ok-verdict.ensures.verdict)
