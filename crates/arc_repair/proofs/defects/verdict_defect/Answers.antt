use Rattle.std.proofs.Common.{◌≡◌, ◌∙◌, length, refl, sym, subst, arith}
use Rattle.std.specs.Prelude.{Some, slice_get}
use Rattle.std.proofs.lemmas.Bool.{false≢true}
use Rattle.std.proofs.lemmas.Option.{slice_get_read}
use Rattle.arc_base.specs.declared.certificate.CertKind.TheVariants as kinds
use Rattle.net_model.specs.declared.policies.Policy.{Policy}
use Rattle.net_model.specs.Packets.{subject}
use Rattle.net_model.specs.Forwarding.{HasEnds}
use Rattle.arc_repair.proofs.VerdictDefects.{all_left, at_end, at_missing, at_more, not_right, not_yes, one_less, pair}
use Rattle.arc_repair.proofs.defects.verdict_defect.Goals as goal

pub loop-place-init : goal.loop-place-init
loop-place-init c = all_left c.args.net.now c.args.policies.now c.args.verdicts.now

pub returns-in_default : goal.returns-in_default
returns-in_default c =
    let here : slice_get c.args.policies.now c.loop-place.place ≡ Some c.index-policies-place.result =
    slice_get_read c.args.policies.now (length c.args.policies.now) c.loop-place.place c.index-policies-place.result refl (omega arith) c.index-policies-place.is in
    at_missing c.args.net.now c.args.policies.now c.args.verdicts.now c.loop-place.place c.loop-place.invariant c.index-policies-place.result here (omega (arith, c.in_default.ensures.lookup.3))

pub returns-then-not-is_yes : goal.returns-then-not-is_yes
returns-then-not-is_yes c =
    let here : slice_get c.args.policies.now c.loop-place.place ≡ Some c.index-policies-place.result =
    slice_get_read c.args.policies.now (length c.args.policies.now) c.loop-place.place c.index-policies-place.result refl (omega arith) c.index-policies-place.is in
    let there : slice_get c.args.verdicts.now c.loop-place.place ≡ Some c.in-Some.verdict.now =
    slice_get_read c.args.verdicts.now (length c.args.verdicts.now) c.loop-place.place c.in-Some.verdict.now refl (omega (arith, c.in-Some.ensures.lookup.3.0)) c.in-Some.ensures.lookup.1 in
    (pair c.args.net.now c.args.policies.now c.args.verdicts.now c.loop-place.place c.loop-place.invariant c.index-policies-place.result c.in-Some.verdict.now here there).defect kinds.NotYes
    (not_yes c.args.net.now c.index-policies-place.result _ c.in-Some.verdict.now _ (sym c.is_yes.ensures ∙ c.if-not-is_yes.true))

pub accepts-requires-clause-ends : goal.accepts-requires-clause-ends
accepts-requires-clause-ends c =
    subst (λ (policy : Policy). HasEnds c.args.net.now (subject policy)) (sym c.index-policies-place.is) (c.requires.ends c.loop-place.place c.index-policies-place.result (omega arith))

pub returns-then-not-accepts : goal.returns-then-not-accepts
returns-then-not-accepts c =
    let here : slice_get c.args.policies.now c.loop-place.place ≡ Some c.index-policies-place.result =
    slice_get_read c.args.policies.now (length c.args.policies.now) c.loop-place.place c.index-policies-place.result refl (omega arith) c.index-policies-place.is in
    let there : slice_get c.args.verdicts.now c.loop-place.place ≡ Some c.in-Some.verdict.now =
    slice_get_read c.args.verdicts.now (length c.args.verdicts.now) c.loop-place.place c.in-Some.verdict.now refl (omega (arith, c.in-Some.ensures.lookup.3.0)) c.in-Some.ensures.lookup.1 in
    (pair c.args.net.now c.args.policies.now c.args.verdicts.now c.loop-place.place c.loop-place.invariant c.index-policies-place.result c.in-Some.verdict.now here there).defect kinds.Witness
    (not_right c.args.net.now c.index-policies-place.result _ c.in-Some.verdict.now _ (sym c.is_yes.ensures ∙ c.if-not-is_yes.false)
    (λ right. false≢true (sym c.if-not-accepts.true ∙ c.accepts.ensures.1 right)))

pub loop-place-preserved : goal.loop-place-preserved
loop-place-preserved c =
    let here : slice_get c.args.policies.now c.loop-place.place ≡ Some c.index-policies-place.result =
    slice_get_read c.args.policies.now (length c.args.policies.now) c.loop-place.place c.index-policies-place.result refl (omega arith) c.index-policies-place.is in
    let there : slice_get c.args.verdicts.now c.loop-place.place ≡ Some c.in-Some.verdict.now =
    slice_get_read c.args.verdicts.now (length c.args.verdicts.now) c.loop-place.place c.in-Some.verdict.now refl (omega (arith, c.in-Some.ensures.lookup.3.0)) c.in-Some.ensures.lookup.1 in
    one_less c.args.net.now c.args.policies.now c.args.verdicts.now c.index-policies-place.result _ c.in-Some.verdict.now _
    (pair c.args.net.now c.args.policies.now c.args.verdicts.now c.loop-place.place c.loop-place.invariant c.index-policies-place.result c.in-Some.verdict.now here there)
    (record { yes = sym c.is_yes.ensures ∙ c.if-not-is_yes.false; right = c.accepts.ensures.0 c.if-not-accepts.false })

pub returns-then-verdicts-policies : goal.returns-then-verdicts-policies
returns-then-verdicts-policies c = at_more c.args.net.now c.args.policies.now c.args.verdicts.now c.loop-place.place c.loop-place.invariant (omega arith) (omega arith)

pub returns-else-verdicts-policies : goal.returns-else-verdicts-policies
returns-else-verdicts-policies c = at_end c.args.net.now c.args.policies.now c.args.verdicts.now c.loop-place.place c.loop-place.invariant (omega arith) (omega arith)
