use Rattle.std.proofs.Common.{◌≡◌, ℕ, ◌<◌, get_or}
use Rattle.net_model.specs.declared.lists.RouteList.{RouteList}
use Rattle.net_model.specs.Lists.{route_permits}
use Rattle.class_graph.proofs.same_routes.lists_agree.Given as goal

abbrev pub invariant-loop-list : goal.invariant-loop-list
invariant-loop-list l = (k : ℕ) (d : RouteList) → k < l.list-index → route_permits (get_or l.list-items k d).entries l.one ≡ route_permits (get_or l.list-items k d).entries l.other
