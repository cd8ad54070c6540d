use Rattle.std.proofs.Common.{◌≡◌, ℕ, ◌+◌, ◌-◌, List, drop, ap, refl, sym, subst}
use Rattle.std.specs.Prelude.{slice_get}
use Rattle.ios_config.specs.declared.settings.Config.{Config}
use Rattle.net_rules.specs.Sites.{sites}
use Rattle.net_rules.proofs.SpotSites.{sites_from, spot_there, spot_later, spot_nowhere}
use Rattle.net_rules.proofs.spots.spot_at.Goals as goal

pub loop-router-init : goal.loop-router-init
loop-router-init c = ap (λ (l : List Config). slice_get (sites l) c.args.place) (sym c.slice-config-items.ensures.items)

pub returns-in-Some-clause-place : goal.returns-in-Some-clause-place
returns-in-Some-clause-place c =
    spot_there c.args.configs.now c.slice-config-items.result.now c.args.place c.loop-router.router c.loop-router.rest c.config-item.result c.in-Some.face.now
    c.loop-router-test.true c.config-item.is c.loop-router.invariant c.in-Some.ensures.item

pub loop-router-preserved : goal.loop-router-preserved
loop-router-preserved c =
    let items : List Config = c.slice-config-items.result.now in
    subst (λ (n : ℕ). slice_get (sites c.args.configs.now) c.args.place ≡ slice_get (sites_from (c.loop-router.router + 1) (drop (c.loop-router.router + 1) items)) (c.loop-router.rest - n))
    (sym c.len-rest.ensures)
    (spot_later c.args.configs.now items c.args.place c.loop-router.router c.loop-router.rest c.config-item.result
    c.loop-router-test.true c.config-item.is c.loop-router.invariant (c.in-None.ensures.none.0 refl))

pub returns-clause-place : goal.returns-clause-place
returns-clause-place c =
    spot_nowhere c.args.configs.now c.slice-config-items.result.now c.args.place c.loop-router.router c.loop-router.rest c.loop-router-test.false c.loop-router.invariant
