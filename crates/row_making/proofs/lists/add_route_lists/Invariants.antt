use Rattle.std.proofs.Common.{◌≡◌, ◌++◌}
use Rattle.std.specs.List.{filter_map}
use Rattle.net_rules.specs.Lists.{route_row_at}
use Rattle.arc_base.specs.NameForms.{texts_at}
use Rattle.row_making.proofs.lists.add_route_lists.Given as goal

abbrev pub invariant-loop-name : goal.invariant-loop-name
invariant-loop-name l =
    l.rows.items ++ filter_map (route_row_at l.router l.config) (texts_at l.name-iterator) ≡ l.fn.rows.items ++ filter_map (route_row_at l.router l.config) (texts_at l.initial.name-iterator)
