use Rattle.std.proofs.Common.{◌≡◌, take, map}
use Rattle.arc_base.specs.Numbered.{placed}
use Rattle.edit_space.specs.Working.{old_key}
use Rattle.edit_space.proofs.list_kinds.keyed_lists.Given as goal

abbrev pub invariant-loop-place : goal.invariant-loop-place
invariant-loop-place g l = l.keyed.items ≡ map (λ list. old_key list.0 (g.L.KeyedList.key list.1).0 (g.L.KeyedList.key list.1).1) (take l.place (placed l.list-items))
