use Rattle.row_making.proofs.ListsKinds.{routes}
use Rattle.row_making.proofs.ListsRows.{AreRowsTo}
use Rattle.row_making.proofs.lists.route_lists.Given as goal

abbrev pub invariant-loop-router : goal.invariant-loop-router
invariant-loop-router l = AreRowsTo routes l.config-items l.router l.rows.items
