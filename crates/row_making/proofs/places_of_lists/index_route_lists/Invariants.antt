use Rattle.std.proofs.Common.{◌≡◌, take}
use Rattle.std.specs.Prelude.{map}
use Rattle.net_rules.specs.Lists.{keys_at, route_list_key}
use Rattle.row_making.proofs.places_of_lists.index_route_lists.Given as goal

abbrev pub invariant-loop-list : goal.invariant-loop-list
invariant-loop-list l = keys_at l.index.keys ≡ map route_list_key (take l.list-index l.list-items)
