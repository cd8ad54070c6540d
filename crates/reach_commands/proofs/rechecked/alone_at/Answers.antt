use Rattle.std.proofs.Common.{sym, ◌∙◌}
use Rattle.std.proofs.lemmas.Option.{none-some}
use Rattle.net_model.specs.Packets.{subject}
use Rattle.net_model.specs.Forwarding.{HasEnds}
use Rattle.std.proofs.lemmas.Result.{IfOk-weaker}
use Rattle.arc_base.proofs.Zips.{at_place, AllZip-right}
use Rattle.traffic_classes.proofs.Marked.{there}
use Rattle.arc_recheck.specs.Singles.{IsAloneAnswer}
use Rattle.reach_commands.specs.RecheckRuns.{IsRightOn}
use Rattle.reach_commands.proofs.RecheckedEach.{right_at}
use Rattle.reach_commands.proofs.rechecked.alone_at.Goals as goal

pub unreachable-requires-in_default-get : goal.unreachable-requires-in_default-get
unreachable-requires-in_default-get c =
    let found = AllZip-right (IsRightOn c.args.input.now.net) c.args.input.now.doc.policies c.args.rechecked.now c.requires.right c.args.which c.in-Some.policy.now (sym c.in-Some.ensures.item) in
    none-some found.0 (c.in_default-get.ensures.item ∙ found.1)

pub alone_with-requires-clause-ends : goal.alone_with-requires-clause-ends
alone_with-requires-clause-ends c =
    at_place (λ p. HasEnds c.args.input.now.net (subject p)) c.args.input.now.doc.policies c.args.which c.requires.fit.ends c.in-Some.policy.now (sym c.in-Some.ensures.item)

pub alone_with-requires-clause-right : goal.alone_with-requires-clause-right
alone_with-requires-clause-right c =
    right_at c.args.input.now.net c.args.input.now.doc.policies c.args.rechecked.now c.args.which c.in-Some.policy.now c.in-Some-get.one.now c.requires.right
    (sym c.in-Some.ensures.item) (sym c.in-Some-get.ensures.item)

pub returns-clause-answer : goal.returns-clause-answer
returns-clause-answer c =
    IfOk-weaker c.alone_with.result _ _
    (λ found answer. there _ c.in-Some.policy.now (λ p. IsAloneAnswer c.args.input.now.net p found) c.in-Some.ensures.item answer) c.alone_with.ensures.answer
