use Rattle.std.proofs.Common.{◌≡◌, length, take}
use Rattle.std.specs.List.{AllZip}
use Rattle.net_rules.specs.Rows.{IsRouterRow}
use Rattle.row_making.proofs.routers.router_rows.Given as goal

abbrev pub invariant-loop-config : goal.invariant-loop-config
invariant-loop-config l = record {
  rows : AllZip (IsRouterRow l.protocol) (take l.config-index l.config-items) l.rows;
  long : length l.rows ≡ l.config-index;
}
