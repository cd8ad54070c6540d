use Rattle.arc_nodecut.proofs.Judging.{right_policy, given_policy}
use Rattle.arc_nodecut.proofs.judgement.judge_nodes_of.Goals as goal

pub returns-clause-right : goal.returns-clause-right
returns-clause-right c =
    right_policy c.args.net.now c.args.policy.now c.failures_of.result c.failures_of.ensures.kind c.subject.result c.subject.ensures c.in_ok-pair.pair c.in_ok-pair.ensures c.args.parts.now
    c.requires.parts c.in_ok-verdict.verdict c.in_ok-verdict.ensures

pub returns-clause-given : goal.returns-clause-given
returns-clause-given c =
    given_policy c.args.net.now c.args.policies.now c.args.policy.now c.failures_of.result c.subject.result c.subject.ensures c.in_ok-pair.pair c.in_ok-pair.ensures c.args.parts.now
    c.requires.parts c.requires.classes c.requires.few c.in_ok-verdict.verdict c.in_ok-verdict.ensures
