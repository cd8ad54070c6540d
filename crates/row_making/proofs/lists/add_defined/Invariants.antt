use Rattle.std.proofs.Common.{◌≡◌, ℕ, List}
use Rattle.ios_config.specs.declared.settings.ListText.{ListText}
use Rattle.row_making.proofs.ListsNames.{AddsTo}
use Rattle.row_making.proofs.lists.add_defined.Given as goal

abbrev pub invariant-loop-list : goal.invariant-loop-list
invariant-loop-list l = AddsTo (λ (name : List ℕ) (list : ListText). list.name ≡ name) l.list-items l.list-index l.fn.names.keys l.names.keys
