use Rattle.std.proofs.Common.{◌<◌, [], ◌∷◌, List, length, length-append, get_or, arith, ap, ◌∙◌, sym, subst}
use Rattle.arc_base.proofs.Zips.{AllZip-more}
use Rattle.net_model.specs.declared.policies.Policy.{Policy}
use Rattle.net_model.specs.Packets.{subject}
use Rattle.net_model.specs.Policies.{HasFewFailures}
use Rattle.net_model.specs.Forwarding.{HasEnds}
use Rattle.net_model.specs.Witnesses.{IsRight}
use Rattle.verdicts.specs.Fixed.{IsFixed}
use Rattle.verdicts.proofs.all_policies.judge_all.Goals as goal

pub judge_few-requires-clause-one : goal.judge_few-requires-clause-one
judge_few-requires-clause-one g c =
    let is = c.policy-item.is ∙ ap (λ (l : List Policy). get_or l c.loop-policy.policy-index c.policy-item.result) c.slice-policy-items.ensures.items in
    (c.loop-policy.policy-index, omega (arith, c.loop-policy-test.true, ap length c.slice-policy-items.ensures.items), sym is)

pub judge_few-requires-clause-ends : goal.judge_few-requires-clause-ends
judge_few-requires-clause-ends g c =
    let is = c.policy-item.is ∙ ap (λ (l : List Policy). get_or l c.loop-policy.policy-index c.policy-item.result) c.slice-policy-items.ensures.items in
    subst (λ (p : Policy). HasEnds c.args.net.now (subject p)) (sym is)
    (c.requires.ends c.loop-policy.policy-index c.policy-item.result (omega (arith, c.loop-policy-test.true, ap length c.slice-policy-items.ensures.items)))

pub judge_few-requires-clause-failures : goal.judge_few-requires-clause-failures
judge_few-requires-clause-failures g c =
    let is = c.policy-item.is ∙ ap (λ (l : List Policy). get_or l c.loop-policy.policy-index c.policy-item.result) c.slice-policy-items.ensures.items in
    subst (λ (p : Policy). HasFewFailures p.kind) (sym is)
    (c.requires.failures c.loop-policy.policy-index c.policy-item.result (omega (arith, c.loop-policy-test.true, ap length c.slice-policy-items.ensures.items)))

pub loop-policy-preserved : goal.loop-policy-preserved
loop-policy-preserved g c =
    let low : c.loop-policy.policy-index < length c.args.policies.now = omega (arith, c.loop-policy-test.true, ap length c.slice-policy-items.ensures.items) in
    let is = c.policy-item.is ∙ ap (λ (l : List Policy). get_or l c.loop-policy.policy-index c.policy-item.result) c.slice-policy-items.ensures.items in
    record {
      right = AllZip-more (IsRight c.args.net.now) c.args.policies.now c.loop-policy.policy-index c.policy-item.result c.loop-policy.verdicts c.push.new.self c.in_ok-verdict.verdict
          low is c.loop-policy.invariant.right c.in_ok-push.ensures.ok c.in_ok-verdict.ensures.right;
      fixed = AllZip-more (IsFixed c.args.net.now c.args.policies.now) c.args.policies.now c.loop-policy.policy-index c.policy-item.result c.loop-policy.verdicts c.push.new.self
          c.in_ok-verdict.verdict
          low is c.loop-policy.invariant.fixed c.in_ok-push.ensures.ok c.in_ok-verdict.ensures.fixed;
      count = omega (arith, ap length c.in_ok-push.ensures.ok, length-append c.loop-policy.verdicts (c.in_ok-verdict.verdict ∷ []), c.loop-policy.invariant.count);
      last = c.judge_few.ensures.last;
    }
