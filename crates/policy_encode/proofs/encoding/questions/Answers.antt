use Rattle.std.proofs.Common.{◌<◌, List, length, get_or, ap, arith, sym, subst, ◌∙◌}
use Rattle.arc_base.proofs.Zips.{AllZip-more}
use Rattle.net_model.specs.declared.policies.Policy.{Policy}
use Rattle.net_model.specs.Forwarding.{HasEnds}
use Rattle.net_model.specs.Packets.{subject}
use Rattle.policy_encode.specs.Questions.{IsQuestion}
use Rattle.policy_encode.proofs.encoding.questions.Goals as goal

pub question-requires-clause-ends : goal.question-requires-clause-ends
question-requires-clause-ends c =
    let low : c.loop-policy.policy-index < length c.args.doc.now.policies = omega (arith, c.loop-policy-test.true, ap length c.slice-policy-items.ensures.items) in
    let is = c.policy-item.is ∙ ap (λ (l : List Policy). get_or l c.loop-policy.policy-index c.policy-item.result) c.slice-policy-items.ensures.items in
    subst (λ (p : Policy). HasEnds c.args.net.now (subject p)) (sym is) (c.requires.ends c.loop-policy.policy-index c.policy-item.result low)

pub loop-policy-preserved : goal.loop-policy-preserved
loop-policy-preserved c = λ list is.
    let low : c.loop-policy.policy-index < length c.args.doc.now.policies = omega (arith, c.loop-policy-test.true, ap length c.slice-policy-items.ensures.items) in
    let item = c.policy-item.is ∙ ap (λ (l : List Policy). get_or l c.loop-policy.policy-index c.policy-item.result) c.slice-policy-items.ensures.items in
    AllZip-more (IsQuestion c.args.net.now c.args.doc.now.policies list) c.args.doc.now.policies c.loop-policy.policy-index c.policy-item.result c.loop-policy.questions
    c.push.new.items c.in_ok-question.field-0
    low item (c.loop-policy.invariant list is) c.in_ok-push.ensures.ok (c.in_ok-question.ensures list is)
