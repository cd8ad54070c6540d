use Rattle.std.proofs.Common.{◌≡◌, ◌<◌, ℕ, ◌+◌, Option, Some, None, length, refl, sym, ◌∙◌, ap, subst, arith}
use Rattle.std.specs.Prelude.{IsSomeAnd, IfNone, MatchOption, slice_get}
use Rattle.std.specs.Option.{option_map_or}
use Rattle.std.proofs.lemmas.Option.{slice_get_within}
use Rattle.arc_base.specs.declared.refusal.Kind.TheVariants as kinds
use Rattle.net_doc.specs.declared.fault.Refusal.{Refusal}
use Rattle.ios_config.specs.declared.settings.Given.{Given}
use Rattle.ios_config.specs.declared.settings.FaceText.{FaceText}
use Rattle.net_rules.specs.Sites.{Site, sites}
use Rattle.net_rules.specs.Reasons.{IsEarliest}
use Rattle.net_checks.specs.Claims.{ClearBelow}
use Rattle.net_rules.specs.Addressing.{OverlapsEarlier, RefusesOverlap}
use Rattle.net_rules.proofs.Firsts.{tried_refused}
use Rattle.net_checks.proofs.OverlapTried.{none_overlaps, overlap_first}
use Rattle.net_checks.proofs.overlap.try_overlap.Goals as goal

some_and : {X : Type 0} (o : Option X) (P : X → Type 0) → IsSomeAnd o P → (x : X) × (o ≡ Some x) × P x
some_and None P h = absurd h
some_and (Some x) P h = (x, refl, h)

pub returns-in-None-clause-tried : goal.returns-in-None-clause-tried
returns-in-None-clause-tried c = λ doc rows.
    let none : (place : ℕ) → ¬ OverlapsEarlier c.args.net.now place =
    subst (λ (o : Option ℕ). MatchOption o ((place : ℕ) → ¬ OverlapsEarlier c.args.net.now place)
    (λ place. OverlapsEarlier c.args.net.now place × ((k : ℕ) → k < place → ¬ OverlapsEarlier c.args.net.now k)))
    c.in-None.is c.in_ok-first_overlap.ensures.first in
    (none_overlaps doc c.args.configs.now c.requires.named c.args.net.now rows none, tt)

pub returns-in-None-clause-clear : goal.returns-in-None-clause-clear
returns-in-None-clause-clear c =
    subst (λ (o : Option ℕ). IfNone o (ClearBelow c.args.net.now (length c.args.net.now.faces))) c.in-None.is c.in_ok-first_overlap.ensures.clear

pub returns-in-None-spot_at-clause-tried : goal.returns-in-None-spot_at-clause-tried
returns-in-None-spot_at-clause-tried c = λ doc rows.
    let found =
    subst (λ (o : Option ℕ). MatchOption o ((place : ℕ) → ¬ OverlapsEarlier c.args.net.now place)
    (λ place. OverlapsEarlier c.args.net.now place × ((k : ℕ) → k < place → ¬ OverlapsEarlier c.args.net.now k)))
    c.in-Some.is c.in_ok-first_overlap.ensures.first in
    absurd (omega (arith, slice_get_within c.args.net.now.faces c.in-Some.place found.0.2.g found.0.2.at_j, c.in-None-spot_at.ensures.place, c.requires.sites))

pub returns-in-None-spot_at-clause-clear : goal.returns-in-None-spot_at-clause-clear
returns-in-None-spot_at-clause-clear c =
    let found =
    subst (λ (o : Option ℕ). MatchOption o ((place : ℕ) → ¬ OverlapsEarlier c.args.net.now place)
    (λ place. OverlapsEarlier c.args.net.now place × ((k : ℕ) → k < place → ¬ OverlapsEarlier c.args.net.now k)))
    c.in-Some.is c.in_ok-first_overlap.ensures.first in
    absurd (omega (arith, slice_get_within c.args.net.now.faces c.in-Some.place found.0.2.g found.0.2.at_j, c.in-None-spot_at.ensures.place, c.requires.sites))

pub returns-in-Some-spot_at-clause-tried : goal.returns-in-Some-spot_at-clause-tried
returns-in-Some-spot_at-clause-tried c = λ doc rows.
    let found =
    subst (λ (o : Option ℕ). MatchOption o ((place : ℕ) → ¬ OverlapsEarlier c.args.net.now place)
    (λ place. OverlapsEarlier c.args.net.now place × ((k : ℕ) → k < place → ¬ OverlapsEarlier c.args.net.now k)))
    c.in-Some.is c.in_ok-first_overlap.ensures.first in
    let s = some_and (slice_get (sites c.args.configs.now) c.in-Some.place)
    (λ (site : Site). (site.router ≡ c.in-Some-spot_at.spot.router) × (site.face ≡ c.in-Some-spot_at.spot.face.now)) c.in-Some-spot_at.ensures.place in
    let r : Refusal = record { file = c.in-Some-spot_at.spot.router + 1; number = c.address_line.result; kind = kinds.Overlap } in
    let line : c.address_line.result ≡ option_map_or (λ (g : Given ℕ). g.line) s.0.face.addr 0 =
    c.address_line.ensures ∙ ap (λ (f : FaceText). option_map_or (λ (g : Given ℕ). g.line) f.addr 0) (sym s.2.1) in
    let first = overlap_first doc c.args.configs.now c.requires.named c.args.net.now rows c.in-Some.place found.0 found.1 s.0 s.1 c.address_line.result line in
    tried_refused (RefusesOverlap doc c.args.configs.now) (λ (done : Unit {0}). Unit {0}) c.in_file.result r c.in_file.ensures
    (subst (λ (n : ℕ). IsEarliest (RefusesOverlap doc c.args.configs.now) (record { file = n + 1; number = c.address_line.result; kind = kinds.Overlap })) s.2.0 first)
