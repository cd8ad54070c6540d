use Rattle.std.proofs.Common.{ℕ, ◌+◌, List, get_or, subst, sym, ◌∙◌, false}
use Rattle.std.proofs.lemmas.Bool.{false≢true}
use Rattle.std.proofs.lemmas.List.{get_or_default}
use Rattle.arc_base.specs.declared.refusal.Kind.TheVariants as kinds
use Rattle.net_doc.specs.declared.fault.Refusal.{Refusal}
use Rattle.net_model.specs.declared.rows.LinkRow.{LinkRow}
use Rattle.net_rules.specs.Reasons.{NoRefusal, IsEarliest, InDocument}
use Rattle.net_rules.specs.Linking.{FitsSubnets}
use Rattle.net_rules.proofs.Firsts.{tried_refused, first_item, none_more, none_all}
use Rattle.net_checks.proofs.ends.try_subnets.Goals as goal

no_link : LinkRow
no_link = record { a = record { 0 = 0 }; b = record { 0 = 0 }; waypoint = false }

pub returns-then-not-fits_subnets : goal.returns-then-not-fits_subnets
unfolding no_link
returns-then-not-fits_subnets c =
    let items : List LinkRow = c.slice-link-items.result.now in
    let link : LinkRow = get_or items c.loop-place.place no_link in
    let Offends : ℕ → LinkRow → Type 0 = λ place link. ¬ FitsSubnets c.args.net.now link in
    let r : Refusal = record { file = 0; number = c.loop-place.place + 1; kind = kinds.LinkSubnets } in
    let bad : ¬ FitsSubnets c.args.net.now link = λ fits. false≢true (sym c.if-not-fits_subnets.true ∙ c.fits_subnets.ensures.1 fits) in
    tried_refused (InDocument kinds.LinkSubnets Offends c.args.net.now.links) (λ (done : Unit {0}). Unit {0}) c.in_document.result r c.in_document.ensures
    (subst (λ (links : List LinkRow). IsEarliest (InDocument kinds.LinkSubnets Offends links) r) c.slice-link-items.ensures.items
    (first_item kinds.LinkSubnets Offends items c.loop-place.place link c.loop-place-test.true
    (get_or_default items c.loop-place.place no_link link c.loop-place-test.true) c.loop-place.invariant bad))

pub loop-place-preserved : goal.loop-place-preserved
unfolding no_link
loop-place-preserved c =
    let items : List LinkRow = c.slice-link-items.result.now in
    let link : LinkRow = get_or items c.loop-place.place no_link in
    let Offends : ℕ → LinkRow → Type 0 = λ place link. ¬ FitsSubnets c.args.net.now link in
    let good : FitsSubnets c.args.net.now link = c.fits_subnets.ensures.0 c.if-not-fits_subnets.false in
    none_more kinds.LinkSubnets Offends items c.loop-place.place link c.loop-place-test.true
    (get_or_default items c.loop-place.place no_link link c.loop-place-test.true) c.loop-place.invariant (λ bad. bad good)

pub returns : goal.returns
returns c =
    let items : List LinkRow = c.slice-link-items.result.now in
    let Offends : ℕ → LinkRow → Type 0 = λ place link. ¬ FitsSubnets c.args.net.now link in (
      subst (λ (links : List LinkRow). NoRefusal (InDocument kinds.LinkSubnets Offends links)) c.slice-link-items.ensures.items
          (none_all kinds.LinkSubnets Offends items c.loop-place.place c.loop-place-test.false c.loop-place.invariant),
      tt,
    )
