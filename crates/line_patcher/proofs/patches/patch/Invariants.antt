use Rattle.std.proofs.Common.{take}
use Rattle.arc_base.specs.Numbered.{EachRow}
use Rattle.line_patcher.specs.Patches.{IsPatched}
use Rattle.line_patcher.proofs.patches.patch.Given as goal

abbrev pub invariant-loop-router : goal.invariant-loop-router
invariant-loop-router l = EachRow (IsPatched l.built l.plan.changes.edits.items) (take l.router l.text-items) l.new
