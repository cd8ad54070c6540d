use Rattle.std.proofs.Common.{◌≡◌, ◌++◌, take}
use Rattle.arc_base.proofs.groups.append.Given as goal

abbrev pub invariant-loop-thing : goal.invariant-loop-thing
invariant-loop-thing g l = l.list.items ≡ l.fn.list.items ++ take l.thing-index l.things
