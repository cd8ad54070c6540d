use Rattle.std.proofs.Common.{take}
use Rattle.edit_space.specs.Working.{AreJoined}
use Rattle.arc_base.specs.NameForms.{texts_at}
use Rattle.edit_space.proofs.names.add_names.Given as goal

abbrev pub invariant-loop-name : goal.invariant-loop-name
invariant-loop-name l = AreJoined (texts_at l.fn.set.keys) (take l.name-index l.name-items) (texts_at l.set.keys)
