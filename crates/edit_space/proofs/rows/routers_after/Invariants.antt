use Rattle.std.proofs.Common.{take}
use Rattle.edit_list.specs.After.{IsRouterAfter}
use Rattle.arc_base.specs.Numbered.{EachRow}
use Rattle.edit_space.proofs.rows.routers_after.Given as goal

abbrev pub invariant-loop-place : goal.invariant-loop-place
invariant-loop-place l = EachRow (IsRouterAfter l.net l.changes.edits.items) (take l.place l.router-items) l.routers.items
