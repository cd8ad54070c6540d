use Rattle.std.proofs.Common.{ap, length, arith}
use Rattle.std.proofs.lemmas.List.{length_push}
use Rattle.net_rules.specs.Rows.{IsRouterRow}
use Rattle.arc_base.proofs.Zips.{AllZip-more}
use Rattle.row_making.proofs.routers.router_rows.Goals as goal

pub loop-config-preserved : goal.loop-config-preserved
loop-config-preserved c = record {
  rows = AllZip-more (IsRouterRow c.args.protocol) c.slice-config-items.result.now c.loop-config.config-index c.config-item.result c.loop-config.rows c.push.new.self c.in_ok-router_row.field-0
      c.loop-config-test.true c.config-item.is c.loop-config.invariant.rows c.in_ok-push.ensures.ok c.in_ok-router_row.ensures;
  long = omega (arith, ap (λ l. length l) c.in_ok-push.ensures.ok, length_push c.loop-config.rows c.in_ok-router_row.field-0, c.loop-config.invariant.long);
}
