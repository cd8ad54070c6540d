use Rattle.std.proofs.Common.{Some, ap, subst, ◌∙◌}
use Rattle.std.proofs.lemmas.Result.{IfOk-weaker}
use Rattle.class_graph.specs.Barriers.{IsFirstBarrier}
use Rattle.verdicts.proofs.Verdicts.{refused_verdict, denied_verdict}
use Rattle.verdicts.proofs.reach.judge_reach.Goals as goal

pub returns-in-Link : goal.returns-in-Link
returns-in-Link c = λ ends whole is parts.
    refused_verdict c.args.net.now ends c.args.failures whole c.args.classes.now parts c.in-Link.denial
    (subst (IsFirstBarrier c.args.net.now ends c.args.classes.now) (c.in-Some.is ∙ ap Some c.in-Link.is) (c.in_ok-found.ensures ends is)) c.first_packet.result c.first_packet.ensures

pub returns-in-Ends : goal.returns-in-Ends
returns-in-Ends c = λ ends whole is parts.
    denied_verdict c.args.net.now ends c.args.failures whole c.args.classes.now parts c.in-Ends.class
    (subst (IsFirstBarrier c.args.net.now ends c.args.classes.now) (c.in-Some.is ∙ ap Some c.in-Ends.is) (c.in_ok-found.ensures ends is))

pub returns-in_default : goal.returns-in_default
returns-in_default c =
    IfOk-weaker c.judge_open.result _ _
    (λ v shown. λ ends whole is parts.
    let open_to = subst (IsFirstBarrier c.args.net.now ends c.args.classes.now) c.in_default.is (c.in_ok-found.ensures ends is) in
    shown ends whole c.args.classes.now is parts open_to.0 open_to.1)
    c.judge_open.ensures
