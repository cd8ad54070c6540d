use Rattle.std.proofs.Common.{◌≡◌, ℕ, List, Some, sym, ◌∙◌, subst}
use Rattle.ios_config.specs.declared.settings.Given.{Given}
use Rattle.ios_config.specs.declared.settings.Config.{Config}
use Rattle.net_checks.specs.Growing.{IsSoonest}
use Rattle.net_rules.specs.Routers.{areas_of, IsFirstArea}
use Rattle.net_checks.proofs.AreaLines.{is_first_area, no_area_more, no_first_area}
use Rattle.net_checks.proofs.areas.first_area.Goals as goal

pub returns-in-Some : goal.returns-in-Some
returns-in-Some c =
    let items : List Config = c.slice-config-items.result.now in
    let is : c.deref.result.now ≡ areas_of c.config-item.result = c.deref.ensures.value ∙ c.in_ok-areas.ensures in
    subst (λ (configs : List Config). IsFirstArea configs c.in-Some.first.value) c.slice-config-items.ensures.items
    (is_first_area items c.loop-config.config-index c.config-item.result c.in-Some.first c.loop-config-test.true c.config-item.is c.loop-config.invariant
    (subst (λ (areas : List (Given ℕ)). IsSoonest areas (Some c.in-Some.first)) is c.in-Some.ensures))

pub loop-config-preserved : goal.loop-config-preserved
loop-config-preserved c =
    let is : c.deref.result.now ≡ areas_of c.config-item.result = c.deref.ensures.value ∙ c.in_ok-areas.ensures in
    no_area_more c.slice-config-items.result.now c.loop-config.config-index c.config-item.result c.loop-config-test.true c.config-item.is c.loop-config.invariant (sym is ∙ c.in-None.ensures)

pub returns : goal.returns
returns c =
    subst (λ (configs : List Config). (area : ℕ) → ¬ IsFirstArea configs area) c.slice-config-items.ensures.items
    (no_first_area c.slice-config-items.result.now c.loop-config.config-index c.loop-config-test.false c.loop-config.invariant)
