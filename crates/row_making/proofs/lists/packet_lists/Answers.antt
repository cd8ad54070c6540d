use Rattle.std.proofs.Common.{◌≡◌, List, subst, sym}
use Rattle.std.proofs.lemmas.Result.{IfOk-weaker}
use Rattle.net_model.specs.declared.lists.PacketList.{PacketList}
use Rattle.ios_config.specs.declared.settings.Config.{Config}
use Rattle.net_rules.specs.Lists.{ArePacketLists}
use Rattle.row_making.proofs.ListsKinds.{packets}
use Rattle.row_making.proofs.ListsRows.{AreRowsTo, rows_none, rows_more, rows_all}
use Rattle.row_making.proofs.lists.packet_lists.Goals as goal

pub loop-router-init : goal.loop-router-init
loop-router-init c =
    subst (λ (rows : List PacketList). AreRowsTo packets c.slice-config-items.result.now 0 rows) (sym c.new-rows.ensures.items) (rows_none packets c.slice-config-items.result.now)

pub loop-router-preserved : goal.loop-router-preserved
loop-router-preserved c =
    rows_more packets c.slice-config-items.result.now c.loop-router.router c.config-item.result c.loop-router.rows.items c.add_packet_lists.new.rows.items c.loop-router-test.true c.config-item.is
    c.in_ok-add_packet_lists.ensures c.loop-router.invariant

pub returns : goal.returns
returns c =
    let all : ArePacketLists c.args.configs.now c.loop-router.rows.items =
    subst (λ (configs : List Config). ArePacketLists configs c.loop-router.rows.items) c.slice-config-items.ensures.items
    (rows_all packets c.slice-config-items.result.now c.loop-router.router c.loop-router.rows.items c.loop-router-test.false c.loop-router.invariant) in
    IfOk-weaker c.of.result (λ (list : List PacketList). list ≡ c.loop-router.rows.items) (ArePacketLists c.args.configs.now)
    (λ list is. subst (ArePacketLists c.args.configs.now) (sym is) all) c.of.ensures.ok
