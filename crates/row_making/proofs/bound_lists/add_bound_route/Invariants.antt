use Rattle.arc_base.specs.NameForms.{texts_at}
use Rattle.row_making.proofs.ListsNames.{AddsLeft}
use Rattle.row_making.proofs.bound_lists.add_bound_route.Given as goal

abbrev pub invariant-loop-list : goal.invariant-loop-list
invariant-loop-list l = AddsLeft (texts_at l.initial.list-iterator) l.fn.names.keys l.names.keys (texts_at l.list-iterator)
