use Rattle.std.proofs.Common.{◌≡◌, ℕ, List, take, ◌&&◌}
use Rattle.std.specs.Prelude.{find, bytes_eq}
use Rattle.ios_config.specs.declared.settings.ListText.{ListText}
use Rattle.net_rules.specs.Lists.{is_of_kind}
use Rattle.row_making.specs.ListTables.{list_at}
use Rattle.row_making.proofs.lists.by_name.Given as goal

abbrev pub invariant-loop-list : goal.invariant-loop-list
invariant-loop-list l = (name : List ℕ) → list_at l.lists name ≡ find (λ (list : ListText). bytes_eq list.name name && is_of_kind l.packet list) (take l.list-index l.list-items)
