use Rattle.std.proofs.Common.{◌≡◌, List, subst, sym}
use Rattle.std.proofs.lemmas.Result.{IfOk-weaker}
use Rattle.net_model.specs.declared.lists.RouteList.{RouteList}
use Rattle.ios_config.specs.declared.settings.Config.{Config}
use Rattle.net_rules.specs.Lists.{AreRouteLists}
use Rattle.row_making.proofs.ListsKinds.{routes}
use Rattle.row_making.proofs.ListsRows.{AreRowsTo, rows_none, rows_more, rows_all}
use Rattle.row_making.proofs.lists.route_lists.Goals as goal

pub loop-router-init : goal.loop-router-init
loop-router-init c =
    subst (λ (rows : List RouteList). AreRowsTo routes c.slice-config-items.result.now 0 rows) (sym c.new-rows.ensures.items) (rows_none routes c.slice-config-items.result.now)

pub loop-router-preserved : goal.loop-router-preserved
loop-router-preserved c =
    rows_more routes c.slice-config-items.result.now c.loop-router.router c.config-item.result c.loop-router.rows.items c.add_route_lists.new.rows.items c.loop-router-test.true c.config-item.is
    c.in_ok-add_route_lists.ensures c.loop-router.invariant

pub returns : goal.returns
returns c =
    let all : AreRouteLists c.args.configs.now c.loop-router.rows.items =
    subst (λ (configs : List Config). AreRouteLists configs c.loop-router.rows.items) c.slice-config-items.ensures.items
    (rows_all routes c.slice-config-items.result.now c.loop-router.router c.loop-router.rows.items c.loop-router-test.false c.loop-router.invariant) in
    IfOk-weaker c.of.result (λ (list : List RouteList). list ≡ c.loop-router.rows.items) (AreRouteLists c.args.configs.now)
    (λ list is. subst (AreRouteLists c.args.configs.now) (sym is) all) c.of.ensures.ok
