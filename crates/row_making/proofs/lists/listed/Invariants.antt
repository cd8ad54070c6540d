use Rattle.std.proofs.Common.{◌≡◌, ◌++◌}
use Rattle.arc_base.specs.NameForms.{texts_at}
use Rattle.row_making.proofs.lists.listed.Given as goal

abbrev pub invariant-loop-name : goal.invariant-loop-name
invariant-loop-name l = l.listed.items ++ texts_at l.name-iterator ≡ texts_at l.names.keys
