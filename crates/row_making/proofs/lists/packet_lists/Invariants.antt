use Rattle.row_making.proofs.ListsKinds.{packets}
use Rattle.row_making.proofs.ListsRows.{AreRowsTo}
use Rattle.row_making.proofs.lists.packet_lists.Given as goal

abbrev pub invariant-loop-router : goal.invariant-loop-router
invariant-loop-router l = AreRowsTo packets l.config-items l.router l.rows.items
