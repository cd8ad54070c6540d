use Rattle.std.proofs.Common.{[], Err}
use Rattle.std.specs.Prelude.{map}
use Rattle.std.specs.List.{AllZip}
use Rattle.std.proofs.lemmas.Result.{err_from_is_err_and}
use Rattle.net_rules.specs.Lists.{route_list_key}
use Rattle.net_rules.specs.Rows.{IsLinkRow, AreBaseRows, AreRows, AreSessions}
use Rattle.net_rules.specs.Sites.{full_names}
use Rattle.net_build.specs.Order.{RefusesWithin, end_tries, session_tries}
use Rattle.net_build.proofs.Tries.{more_fail, clear_before}
use Rattle.net_build.proofs.assembly.joined.Goals as goal

pub try_sessions-requires-clause-lists : goal.try_sessions-requires-clause-lists
try_sessions-requires-clause-lists c = (c.in_ok-net.ensures c.args.doc.now c.in_ok-links.ensures.ends (c.in_ok-links.ensures.answer 0).1).route_lists

pub returns-in_err-links : goal.returns-in_err-links
returns-in_err-links c = λ most.
    let p = err_from_is_err_and c.from_residual.result c.from_residual.ensures.1 in
    rw (p.1, p.2) (more_fail (RefusesWithin c.args.down.now most c.args.doc.now c.args.configs.now) end_tries session_tries
    (AllZip (IsLinkRow (full_names c.args.configs.now)) c.args.doc.now.links) (AreRows c.args.doc.now c.args.configs.now) c.in_err-links.field-0.0
    (c.in_err-links.ensures.answer most))

pub returns-in_err-net-2 : goal.returns-in_err-net-2
returns-in_err-net-2 c = λ most.
    let p = err_from_is_err_and c.from_residual-in_err-net-2.result c.from_residual-in_err-net-2.ensures.1 in
    let Makes = RefusesWithin c.args.down.now most c.args.doc.now c.args.configs.now in
    let Right = AreRows c.args.doc.now c.args.configs.now in
    let net = c.in_ok-net.net in
    let fault = c.in_err-net-2.field-0.0 in
    let links = c.in_ok-links.ensures.answer most in
    let base : AreBaseRows c.args.doc.now c.args.configs.now net = c.in_ok-net.ensures c.args.doc.now c.in_ok-links.ensures.ends links.1 in
    rw (p.1, p.2) (clear_before Makes end_tries session_tries Right (Err fault) links.0
    (more_fail Makes session_tries [] (AreSessions net.protocol c.args.configs.now net.links (map route_list_key net.route_lists)) Right fault
    (c.in_err-net-2.ensures c.args.down.now most c.args.doc.now links.0.0 base)))

pub returns : goal.returns
returns c = λ most.
    let links = c.in_ok-links.ensures.answer most in
    let base : AreBaseRows c.args.doc.now c.args.configs.now c.in_ok-net.net = c.in_ok-net.ensures c.args.doc.now c.in_ok-links.ensures.ends links.1 in
    let sessions = c.in_ok-net-2.ensures c.args.down.now most c.args.doc.now links.0.0 base in (
      (links.0.0, (links.0.1.0, sessions.0)),
      record {
        base = record { protocol = base.protocol; routers = base.routers; packet_lists = base.packet_lists; faces = base.faces; links = base.links; route_lists = base.route_lists };
        sessions = sessions.1;
      },
    )
