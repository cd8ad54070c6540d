use Rattle.std.proofs.Common.{◌↔◌, IsTrue, sym, subst}
use Rattle.witness_check.specs.Cases.{ends_in}
use Rattle.arc_nodecut.specs.declared.verdict.NodeVerdict.{NodeVerdict}
use Rattle.arc_nodecut.specs.NodeWitnesses.{IsRightNodeVerdict}
use Rattle.arc_nodecut.proofs.Accepted.{shown_right, is_other}
use Rattle.arc_nodecut.proofs.acceptance.accepts_nodes.Goals as goal

pub returns-in-Denied : goal.returns-in-Denied
returns-in-Denied c =
    subst (λ (v : NodeVerdict). IsTrue c.is_right_denial.result ↔ IsRightNodeVerdict c.args.net.now c.args.policy.now v) (sym c.in-Denied.is) c.is_right_denial.ensures

pub returns-in-Refused : goal.returns-in-Refused
returns-in-Refused c =
    subst (λ (v : NodeVerdict). IsTrue c.is_right_refusal.result ↔ IsRightNodeVerdict c.args.net.now c.args.policy.now v) (sym c.in-Refused.is) c.is_right_refusal.ensures

pub returns-in_default-v : goal.returns-in_default-v
returns-in_default-v c =
    shown_right c.args.net.now c.requires.valid c.args.policy.now c.in-Reach.k c.in-Reach.is (ends_in c.of.result) c.of.ensures.ends c.args.v.now
    (is_other c.args.v.now c.in_default-v.not-Denied c.in_default-v.not-Refused) c.of.result.net.now c.of.result.whole c.of.ensures.net c.of.ensures.whole
    c.is_shown.result c.is_shown.ensures
