use Rattle.std.proofs.Common.{◌≡◌, ◌<◌, ◌∙◌, Some, List, length, get_or, ap, sym, subst, arith}
use Rattle.std.specs.Prelude.{Option, slice_get}
use Rattle.std.proofs.lemmas.Option.{slice_get-get_or}
use Rattle.net_model.specs.declared.policies.Policy.{Policy}
use Rattle.net_model.specs.declared.verdicts.Verdict.{Verdict}
use Rattle.net_model.specs.Packets.{subject}
use Rattle.net_model.specs.Policies.{HasFewFailures}
use Rattle.net_model.specs.Forwarding.{HasEnds}
use Rattle.traffic_classes.proofs.Marked.{there}
use Rattle.arc_recheck.specs.Rechecks.{IsRechecked}
use Rattle.run_inputs.proofs.ClassCounts.{few_each}
use Rattle.reach_commands.proofs.RecheckedEach.{none_rechecked, one_more, all_rechecked}
use Rattle.reach_commands.proofs.rechecked.recheck_all.Goals as goal

pub recheck_few-requires-clause-one : goal.recheck_few-requires-clause-one
recheck_few-requires-clause-one g c =
    let is = c.policy-item.is ∙ ap (λ (l : List Policy). get_or l c.loop-policy.policy-index c.policy-item.result) c.slice-policy-items.ensures.items in
    (c.loop-policy.policy-index, omega (arith, c.loop-policy-test.true, ap length c.slice-policy-items.ensures.items), sym is)

pub recheck_few-requires-clause-ends : goal.recheck_few-requires-clause-ends
recheck_few-requires-clause-ends g c =
    let is = c.policy-item.is ∙ ap (λ (l : List Policy). get_or l c.loop-policy.policy-index c.policy-item.result) c.slice-policy-items.ensures.items in
    subst (λ (p : Policy). HasEnds c.args.input.now.net (subject p)) (sym is)
    (c.requires.fit.ends c.loop-policy.policy-index c.policy-item.result (omega (arith, c.loop-policy-test.true, ap length c.slice-policy-items.ensures.items)))

pub recheck_few-requires-clause-failures : goal.recheck_few-requires-clause-failures
recheck_few-requires-clause-failures g c =
    let is = c.policy-item.is ∙ ap (λ (l : List Policy). get_or l c.loop-policy.policy-index c.policy-item.result) c.slice-policy-items.ensures.items in
    subst (λ (p : Policy). HasFewFailures p.kind) (sym is)
    (c.requires.fit.failures c.loop-policy.policy-index c.policy-item.result (omega (arith, c.loop-policy-test.true, ap length c.slice-policy-items.ensures.items)))

pub recheck_few-requires-clause-classes : goal.recheck_few-requires-clause-classes
recheck_few-requires-clause-classes g c = few_each c.args.input.now.net c.args.input.now.doc.policies c.requires.few

pub push-requires : goal.push-requires
push-requires g c = omega (arith, c.loop-policy.invariant.below.count, c.loop-policy-test.true, ap length c.slice-policy-items.ensures.items)

pub loop-policy-init : goal.loop-policy-init
loop-policy-init g c = record {
  within = omega arith;
  below = none_rechecked c.args.input.now.net c.args.input.now.doc.policies c.args.held.now c.make-rechecked.result c.make-rechecked.ensures;
  last = tt;
}

pub loop-policy-preserved : goal.loop-policy-preserved
loop-policy-preserved g c =
    let net = c.args.input.now.net in
    let policies = c.args.input.now.doc.policies in
    let at : length c.loop-policy.rechecked ≡ c.loop-policy.policy-index = c.loop-policy.invariant.below.count in
    let low : c.loop-policy.policy-index < length policies = omega (arith, c.loop-policy-test.true, ap length c.slice-policy-items.ensures.items) in
    let is = c.policy-item.is ∙ ap (λ (l : List Policy). get_or l c.loop-policy.policy-index c.policy-item.result) c.slice-policy-items.ensures.items in
    let read : Some c.policy-item.result ≡ slice_get policies c.loop-policy.policy-index =
    ap (λ (p : Policy). Some p) is ∙ sym (slice_get-get_or policies c.loop-policy.policy-index c.policy-item.result low) in
    let old = c.get-old.ensures.item ∙ ap (slice_get c.args.held.now) (c.len-place.ensures ∙ at) in
    record {
      within = omega (arith, low);
      below = one_more net policies c.args.held.now c.loop-policy.policy-index c.loop-policy.rechecked c.push.new.self c.in_ok-one.one c.loop-policy.invariant.below c.in_ok-push.ensures.ok
          (there _ c.policy-item.result (λ p. IsRechecked net policies p (slice_get c.args.held.now c.loop-policy.policy-index) c.in_ok-one.one) read
          (subst (λ (o : Option Verdict). IsRechecked net policies c.policy-item.result o c.in_ok-one.one) old c.in_ok-one.ensures.rechecked));
      last = c.recheck_few.ensures.last;
    }

pub returns : goal.returns
returns g c =
    all_rechecked c.args.input.now.net c.args.input.now.doc.policies c.args.held.now c.loop-policy.policy-index c.loop-policy.rechecked
    (omega (arith, c.loop-policy.invariant.within, c.loop-policy-test.false, ap length c.slice-policy-items.ensures.items)) c.loop-policy.invariant.below
