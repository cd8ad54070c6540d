use Rattle.std.proofs.Common.{[], ◌++◌, Ok, Err}
use Rattle.std.proofs.lemmas.Result.{err_from_is_err_and}
use Rattle.net_rules.specs.Rows.{AreRows}
use Rattle.net_build.specs.Order.{RefusesWithin, router_tries, link_tries, network_tries}
use Rattle.net_rules.proofs.LinksApart.{names_distinct}
use Rattle.net_build.proofs.Tries.{more_fail, clear_before}
use Rattle.net_build.proofs.assembly.assemble.Goals as goal

abbrev Done : Unit {0} → Type 0
Done done = Unit {0}

pub joined-requires-clause-named : goal.joined-requires-clause-named
joined-requires-clause-named c = names_distinct c.args.configs.now (c.in_ok-try_routers.ensures c.args.down.now c.args.most_entries c.args.doc.now).0.0 c.requires.well_formed

pub try_network-requires-clause-named : goal.try_network-requires-clause-named
try_network-requires-clause-named c = (c.in_ok-try_routers.ensures c.args.down.now c.args.most_entries c.args.doc.now).0.0

pub try_network-requires-clause-joined : goal.try_network-requires-clause-joined
try_network-requires-clause-joined c = (c.in_ok-net.ensures c.args.most_entries).0.0

pub try_network-requires-clause-rows : goal.try_network-requires-clause-rows
try_network-requires-clause-rows c = (c.in_ok-net.ensures c.args.most_entries).1

pub returns-in_err-try_routers-clause-answer : goal.returns-in_err-try_routers-clause-answer
returns-in_err-try_routers-clause-answer c =
    let p = err_from_is_err_and c.from_residual.result c.from_residual.ensures.1 in
    rw (p.1, p.2) (more_fail (RefusesWithin c.args.down.now c.args.most_entries c.args.doc.now c.args.configs.now) router_tries (link_tries ++ network_tries) Done
    (AreRows c.args.doc.now c.args.configs.now) c.in_err-try_routers.field-0.0 (c.in_err-try_routers.ensures c.args.down.now c.args.most_entries c.args.doc.now))

pub returns-in_err-net-clause-answer : goal.returns-in_err-net-clause-answer
returns-in_err-net-clause-answer c =
    let p = err_from_is_err_and c.from_residual-in_err-net.result c.from_residual-in_err-net.ensures.1 in
    let Makes = RefusesWithin c.args.down.now c.args.most_entries c.args.doc.now c.args.configs.now in
    let Right = AreRows c.args.doc.now c.args.configs.now in
    let fault = c.in_err-net.field-0.0 in
    rw (p.1, p.2) (clear_before Makes router_tries (link_tries ++ network_tries) Right (Err fault) (c.in_ok-try_routers.ensures c.args.down.now c.args.most_entries c.args.doc.now).0
    (more_fail Makes link_tries network_tries Right Right fault (c.in_err-net.ensures c.args.most_entries)))

pub returns-in_err-try_network-clause-answer : goal.returns-in_err-try_network-clause-answer
returns-in_err-try_network-clause-answer c =
    let p = err_from_is_err_and c.from_residual-in_err-try_network.result c.from_residual-in_err-try_network.ensures.1 in
    let Makes = RefusesWithin c.args.down.now c.args.most_entries c.args.doc.now c.args.configs.now in
    let Right = AreRows c.args.doc.now c.args.configs.now in
    let fault = c.in_err-try_network.field-0.0 in
    rw (p.1, p.2) (clear_before Makes router_tries (link_tries ++ network_tries) Right (Err fault) (c.in_ok-try_routers.ensures c.args.down.now c.args.most_entries c.args.doc.now).0
    (clear_before Makes link_tries network_tries Right (Err fault) (c.in_ok-net.ensures c.args.most_entries).0
    (more_fail Makes network_tries [] Done Right fault (c.in_err-try_network.ensures.answer c.args.down.now))))

pub returns-clause-answer : goal.returns-clause-answer
returns-clause-answer c =
    let Makes = RefusesWithin c.args.down.now c.args.most_entries c.args.doc.now c.args.configs.now in
    let Right = AreRows c.args.doc.now c.args.configs.now in
    clear_before Makes router_tries (link_tries ++ network_tries) Right (Ok c.in_ok-net.net) (c.in_ok-try_routers.ensures c.args.down.now c.args.most_entries c.args.doc.now).0
    (clear_before Makes link_tries network_tries Right (Ok c.in_ok-net.net) (c.in_ok-net.ensures c.args.most_entries).0
    ((c.in_ok-try_network.ensures.answer c.args.down.now).0, (c.in_ok-net.ensures c.args.most_entries).1))

pub returns-clause-valid : goal.returns-clause-valid
returns-clause-valid c = c.in_ok-try_network.ensures.valid

pub returns-clause-ends : goal.returns-clause-ends
returns-clause-ends c = c.in_ok-try_network.ensures.ends
