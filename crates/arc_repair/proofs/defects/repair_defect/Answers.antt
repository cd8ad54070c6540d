use Rattle.std.proofs.Common.{◌≡◌, ◌∙◌, inl, inr, Bool, List, refl, sym, ap, subst}
use Rattle.std.specs.Prelude.{All, MatchOption}
use Rattle.std.specs.List.{AllZip}
use Rattle.net_model.specs.declared.policies.Policy.{Policy}
use Rattle.net_model.specs.declared.verdicts.Verdict.{Verdict}
use Rattle.net_model.specs.Forwarding.{HasEnds}
use Rattle.net_model.specs.Packets.{subject}
use Rattle.edit_list.specs.After.{IsAfter}
use Rattle.edit_list.specs.Prices.{chosen_of, price_of_flags}
use Rattle.network_edit_laws.proofs.SameHosts.{ends_stay}
use Rattle.arc_repair.specs.Checks.{IsVerdictDefect}
use Rattle.arc_repair.specs.Claims.{IsRightYes}
use Rattle.arc_repair.proofs.ClaimDefects.{judged}
use Rattle.arc_repair.proofs.defects.repair_defect.Goals as goal

pub returns-then-claimed-bound : goal.returns-then-claimed-bound
returns-then-claimed-bound c = inl (inr (inl c.if-claimed-bound.true), refl)

pub returns-then-cost-from : goal.returns-then-cost-from
returns-then-cost-from c =
    let wrong : price_of_flags c.args.doc.now c.args.list.now c.args.chosen.now ≡ c.args.claimed → ⊥ = λ same.
    let told : c.price-cost.result ≡ price_of_flags c.args.doc.now c.args.list.now c.args.chosen.now =
    c.price-cost.ensures ∙ ap (price_of_flags c.args.doc.now c.args.list.now) c.slice.ensures.items in
    c.if-cost-from.true (told ∙ same ∙ sym c.from.ensures) in
    inl (inl wrong, refl)

pub verdict_defect-requires-clause-ends : goal.verdict_defect-requires-clause-ends
verdict_defect-requires-clause-ends c =
    let ends : All (λ policy. HasEnds c.in_ok-after.after (subject policy)) c.args.doc.now.policies = λ k d l. ends_stay _ _ _ c.in_ok-after.ensures.after _ (c.requires.ends k d l) in
    subst (λ (ps : List Policy). All (λ policy. HasEnds c.in_ok-after.after (subject policy)) ps) (sym c.slice-3.ensures.items) ends

pub returns : goal.returns
returns c =
    let told : price_of_flags c.args.doc.now c.args.list.now c.args.chosen.now ≡ c.args.claimed =
    sym (ap (price_of_flags c.args.doc.now c.args.list.now) c.slice.ensures.items) ∙ sym c.price-cost.ensures ∙ c.if-cost-from.false ∙ c.from.ensures in
    let is : IsAfter c.args.net.now (chosen_of c.args.list.now c.args.chosen.now) c.in_ok-after.after =
    subst (λ (flags : List Bool). IsAfter c.args.net.now (chosen_of c.args.list.now flags) c.in_ok-after.after) c.slice-2.ensures.items c.in_ok-after.ensures.after in
    let first : MatchOption c.verdict_defect.result (AllZip (IsRightYes c.in_ok-after.after) c.slice-3.result.now c.args.verdicts.now)
    (IsVerdictDefect c.in_ok-after.after c.slice-3.result.now c.args.verdicts.now) =
    subst (λ (vs : List Verdict). MatchOption c.verdict_defect.result (AllZip (IsRightYes c.in_ok-after.after) c.slice-3.result.now vs)
    (IsVerdictDefect c.in_ok-after.after c.slice-3.result.now vs)) c.slice-4.ensures.items c.verdict_defect.ensures in
    let found : MatchOption c.verdict_defect.result (AllZip (IsRightYes c.in_ok-after.after) c.args.doc.now.policies c.args.verdicts.now)
    (IsVerdictDefect c.in_ok-after.after c.args.doc.now.policies c.args.verdicts.now) =
    subst (λ (ps : List Policy). MatchOption c.verdict_defect.result (AllZip (IsRightYes c.in_ok-after.after) ps c.args.verdicts.now)
    (IsVerdictDefect c.in_ok-after.after ps c.args.verdicts.now)) c.slice-3.ensures.items first in
    judged c.args.net.now c.args.doc.now c.args.list.now c.args.claimed c.args.bound c.args.chosen.now c.args.verdicts.now c.in_ok-after.after c.requires.flags told
    c.if-claimed-bound.false c.requires.bound is c.verdict_defect.result found
