use Rattle.std.proofs.Common.{[], ◌∷◌}
use Rattle.std.specs.Prelude.{map}
use Rattle.net_rules.specs.Lists.{route_list_key}
use Rattle.net_rules.specs.Rows.{AreSessions}
use Rattle.net_rules.proofs.ListKeys.{route_keys_differ}
use Rattle.net_build.specs.Order.{NeighborUnknown, NetworkNotConnected, RefusesWithin}
use Rattle.net_build.proofs.Tries.{fails_after}
use Rattle.net_build.proofs.assembly.try_sessions.Goals as goal

abbrev Done : Unit {0} → Type 0
Done done = Unit {0}

pub index_route_lists-requires : goal.index_route_lists-requires
index_route_lists-requires c = route_keys_differ c.args.configs.now c.args.net.now.route_lists c.requires.lists

pub session_rows-requires-clause-few : goal.session_rows-requires-clause-few
session_rows-requires-clause-few c = c.in_ok-lists.ensures.few

pub session_rows-requires-clause-lists : goal.session_rows-requires-clause-lists
session_rows-requires-clause-lists c = c.in_ok-lists.ensures.keys

pub session_rows-requires-clause-distinct : goal.session_rows-requires-clause-distinct
session_rows-requires-clause-distinct c = route_keys_differ c.args.configs.now c.args.net.now.route_lists c.requires.lists

pub returns-in_err-try_neighbors : goal.returns-in_err-try_neighbors
returns-in_err-try_neighbors c = λ down most doc clear base.
    fails_after (RefusesWithin down most doc c.args.configs.now) [] NeighborUnknown (NetworkNotConnected ∷ [])
    Done (AreSessions c.args.net.now.protocol c.args.configs.now c.args.net.now.links (map route_list_key c.args.net.now.route_lists))
    c.from_residual.result c.in_err-try_neighbors.field-0.0 c.from_residual.ensures.1 tt (c.in_err-try_neighbors.ensures doc base)

pub returns-in_err-try_networks : goal.returns-in_err-try_networks
returns-in_err-try_networks c = λ down most doc clear base.
    fails_after (RefusesWithin down most doc c.args.configs.now) (NeighborUnknown ∷ []) NetworkNotConnected []
    Done (AreSessions c.args.net.now.protocol c.args.configs.now c.args.net.now.links (map route_list_key c.args.net.now.route_lists))
    c.from_residual-in_err-try_networks.result c.in_err-try_networks.field-0.0 c.from_residual-in_err-try_networks.ensures.1
    ((c.in_ok-try_neighbors.ensures doc base).0, tt) c.in_err-try_networks.ensures

pub returns : goal.returns
returns c = λ down most doc clear base.
    (((c.in_ok-try_neighbors.ensures doc base).0, (c.in_ok-try_networks.ensures.0, tt)), c.in_ok-sessions.ensures doc clear base)
