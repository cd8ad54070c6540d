use Rattle.std.proofs.Common.{◌≡◌, ℕ, ◌+◌, List, Option, ◌∙◌, subst}
use Rattle.std.specs.Prelude.{Any, MatchOption}
use Rattle.ios_config.specs.declared.settings.Given.{Given}
use Rattle.ios_config.specs.declared.settings.Config.{Config}
use Rattle.ios_config.specs.Least.{FindsLeast}
use Rattle.net_rules.specs.Routers.{IsFirstArea, IsOther, areas_of}
use Rattle.arc_base.specs.declared.refusal.Kind.TheVariants as kinds
use Rattle.net_doc.specs.declared.fault.Refusal.{Refusal}
use Rattle.ios_config.specs.Least.{IsLeast}
use Rattle.net_rules.specs.Reasons.{NoRefusal, IsEarliest, InFiles}
use Rattle.net_rules.specs.Routers.{RefusesTwoAreas}
use Rattle.net_rules.proofs.Firsts.{tried_refused, first_found, clear_more, clear_all}
use Rattle.net_checks.proofs.AreaLines.{NamesOtherThan, none_found, none_refused, others_first, others_clear}
use Rattle.net_checks.proofs.areas.try_areas.Goals as goal

-- what is found of the areas that were gathered is so of the file
others : (config : Config) (area : ℕ) (gathered seen : List (Given ℕ)) → seen ≡ gathered → gathered ≡ areas_of config → (found : Option ℕ) →
    FindsLeast (λ line. Any (IsOther area line) seen) found → FindsLeast (λ line. Any (IsOther area line) (areas_of config)) found
others config area gathered seen same is found = subst (λ (areas : List (Given ℕ)). FindsLeast (λ line. Any (IsOther area line) areas) found) (same ∙ is)

pub returns-in_default : goal.returns-in_default
returns-in_default c = (none_refused c.args.configs.now (none_found c.args.configs.now c.in_ok-area.field-0 c.in_ok-area.ensures (λ area. c.in_default.not-Some area)), tt)

pub returns-in-Some-first_other : goal.returns-in-Some-first_other
returns-in-Some-first_other c =
    let items : List Config = c.slice-config-items.result.now in
    let r : Refusal = record { file = c.loop-place.place + 1; number = c.in-Some-first_other.line; kind = kinds.TwoAreas } in
    let is_first : IsFirstArea c.args.configs.now c.in-Some.area =
    subst (λ (o : Option ℕ). MatchOption o ((area : ℕ) → ¬ IsFirstArea c.args.configs.now area) (IsFirstArea c.args.configs.now)) c.in-Some.is c.in_ok-area.ensures in
    let least : IsLeast (NamesOtherThan c.in-Some.area c.loop-place.place c.config-item.result) c.in-Some-first_other.line =
    subst (λ (o : Option ℕ). FindsLeast (NamesOtherThan c.in-Some.area c.loop-place.place c.config-item.result) o) c.in-Some-first_other.is (others c.config-item.result c.in-Some.area c.in_ok-areas.areas.items c.deref.result.now c.deref.ensures.value c.in_ok-areas.ensures c.first_other.result c.first_other.ensures) in
    tried_refused (RefusesTwoAreas c.args.configs.now) (λ (done : Unit {0}). Unit {0}) c.in_file.result r c.in_file.ensures
    (others_first c.args.configs.now c.in-Some.area is_first r
    (subst (λ (configs : List Config). IsEarliest (InFiles kinds.TwoAreas (NamesOtherThan c.in-Some.area) configs) r) c.slice-config-items.ensures.items
    (first_found kinds.TwoAreas (NamesOtherThan c.in-Some.area) items c.loop-place.place c.config-item.result c.in-Some-first_other.line c.loop-place-test.true c.config-item.is c.loop-place.invariant least)))

pub loop-place-preserved : goal.loop-place-preserved
loop-place-preserved c =
    let items : List Config = c.slice-config-items.result.now in
    let none : (line : ℕ) → ¬ NamesOtherThan c.in-Some.area c.loop-place.place c.config-item.result line =
    subst (λ (o : Option ℕ). FindsLeast (NamesOtherThan c.in-Some.area c.loop-place.place c.config-item.result) o) c.in_default-first_other.is (others c.config-item.result c.in-Some.area c.in_ok-areas.areas.items c.deref.result.now c.deref.ensures.value c.in_ok-areas.ensures c.first_other.result c.first_other.ensures) in
    clear_more kinds.TwoAreas (NamesOtherThan c.in-Some.area) items c.loop-place.place c.config-item.result c.loop-place-test.true c.config-item.is c.loop-place.invariant none

pub returns : goal.returns
returns c =
    let items : List Config = c.slice-config-items.result.now in
    let is_first : IsFirstArea c.args.configs.now c.in-Some.area =
    subst (λ (o : Option ℕ). MatchOption o ((area : ℕ) → ¬ IsFirstArea c.args.configs.now area) (IsFirstArea c.args.configs.now)) c.in-Some.is c.in_ok-area.ensures in (
      others_clear c.args.configs.now c.in-Some.area is_first
          (subst (λ (configs : List Config). NoRefusal (InFiles kinds.TwoAreas (NamesOtherThan c.in-Some.area) configs)) c.slice-config-items.ensures.items
          (clear_all kinds.TwoAreas (NamesOtherThan c.in-Some.area) items c.loop-place.place c.loop-place-test.false c.loop-place.invariant)),
      tt,
    )
