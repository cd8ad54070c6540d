use Rattle.std.proofs.Common.{sym}
use Rattle.net_model.specs.Packets.{subject}
use Rattle.traffic_classes.specs.Classes.{AreClasses}
use Rattle.traffic_classes.specs.Parts.{MakeUp}
use Rattle.traffic_classes.proofs.Marked.{there}
use Rattle.arc_nodecut.specs.Given.{IsGiven}
use Rattle.arc_nodecut.specs.NodeWitnesses.{IsRightNodeVerdict}
use Rattle.arc_nodecut.proofs.Judging.{at_some}
use Rattle.arc_nodecut.proofs.judgement.judge_nodes.Goals as goal

pub judge_nodes_of-requires-clause-classes : goal.judge_nodes_of-requires-clause-classes
judge_nodes_of-requires-clause-classes c =
    at_some _ c.in-Some.policy.now (λ p. AreClasses c.args.net.now c.args.policies.now p c.in_ok-parts.parts) (sym c.in-Some.ensures.item) c.in_ok-parts.ensures.classes

pub judge_nodes_of-requires-clause-parts : goal.judge_nodes_of-requires-clause-parts
judge_nodes_of-requires-clause-parts c =
    at_some _ c.in-Some.policy.now (λ p. MakeUp c.args.net.now (subject p) c.in_ok-parts.parts) (sym c.in-Some.ensures.item) c.in_ok-parts.ensures.parts

pub returns-clause-right : goal.returns-clause-right
returns-clause-right c =
    there _ c.in-Some.policy.now (λ p. IsRightNodeVerdict c.args.net.now p c.in_ok-verdict.verdict) c.in-Some.ensures.item c.in_ok-verdict.ensures.right

pub returns-clause-given : goal.returns-clause-given
returns-clause-given c =
    there _ c.in-Some.policy.now (λ p. IsGiven c.args.net.now c.args.policies.now p c.in_ok-verdict.verdict) c.in-Some.ensures.item c.in_ok-verdict.ensures.given
