use Rattle.std.proofs.Common.{take}
use Rattle.arc_base.specs.Numbered.{EachRow}
use Rattle.edit_space.proofs.list_kinds.lists_after.Given as goal

abbrev pub invariant-loop-key : goal.invariant-loop-key
invariant-loop-key g l = EachRow (λ place. g.L.KeyedList.IsFor l.net l.changes.edits.items) (take l.key-index l.keyed) l.lists.items
