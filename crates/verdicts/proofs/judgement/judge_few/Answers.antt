use Rattle.verdicts.proofs.Verdicts.{right_policy, fixed_policy}
use Rattle.verdicts.proofs.judgement.judge_few.Goals as goal

pub returns-clause-right : goal.returns-clause-right
returns-clause-right c =
    right_policy c.args.net.now c.args.policy.now c.subject.result c.subject.ensures c.in_ok-pair.pair c.in_ok-pair.ensures c.in_ok-parts.parts
    (c.in_ok-parts.ensures.parts c.args.net.now c.args.policies.now c.requires.marks)
    c.in_ok-verdict.verdict c.in_ok-verdict.ensures.verdict

pub returns-clause-fixed : goal.returns-clause-fixed
returns-clause-fixed c =
    let are = c.in_ok-parts.ensures.classes c.args.net.now c.args.policies.now c.requires.marks in
    fixed_policy c.args.net.now c.args.policies.now c.args.policy.now c.subject.result c.subject.ensures c.in_ok-pair.pair c.in_ok-pair.ensures c.in_ok-parts.parts
    (c.in_ok-parts.ensures.parts c.args.net.now c.args.policies.now c.requires.marks) are
    (c.requires.classes c.args.policy.now c.requires.one c.in_ok-parts.parts are) c.in_ok-verdict.verdict c.in_ok-verdict.ensures.verdict
