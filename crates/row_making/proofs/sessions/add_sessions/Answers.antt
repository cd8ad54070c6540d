use Rattle.std.proofs.Common.{◌≡◌, ◌≤◌, false, List, Some, length, get_or, ap, subst, arith}
use Rattle.std.specs.Prelude.{slice_get}
use Rattle.std.proofs.lemmas.Option.{slice_get-get_or}
use Rattle.net_model.specs.declared.rows.LinkRow.{LinkRow}
use Rattle.net_rules.specs.Lists.{keys_at}
use Rattle.row_making.proofs.SessionSteps.{both_ends, all_ends}
use Rattle.row_making.proofs.sessions.add_sessions.Goals as goal

no_link : LinkRow
no_link = record { a = record { 0 = 0 }; b = record { 0 = 0 }; waypoint = false }

pub loop-link-init : goal.loop-link-init
loop-link-init c = λ configs files at are. are

pub loop-link-preserved : goal.loop-link-preserved
unfolding no_link
loop-link-preserved c = λ configs files at are.
    let items : List LinkRow = c.slice-link-items.result.now in
    let row : LinkRow = get_or items c.loop-link.link-index no_link in
    let at_link : slice_get c.args.net.now.links c.loop-link.link-index ≡ Some row =
    subst (λ (ls : List LinkRow). slice_get ls c.loop-link.link-index ≡ Some row) c.slice-link-items.ensures.items
    (slice_get-get_or items c.loop-link.link-index no_link c.loop-link-test.true) in
    both_ends configs c.args.net.now (keys_at c.args.lists.now.keys) files c.args.router c.args.config.now at c.loop-link.link-index row at_link
    c.loop-link.sessions.items c.add_session.new.sessions.items c.add_session-in-loop-link.new.sessions.items
    c.in_ok-add_session.ensures c.in_ok-add_session-2.ensures (c.loop-link.invariant configs files at are)

pub returns : goal.returns
returns c = λ configs files at are.
    let long : length c.args.net.now.links ≤ c.loop-link.link-index = omega (arith, c.loop-link-test.false, ap length c.slice-link-items.ensures.items) in
    all_ends configs c.args.net.now.links (keys_at c.args.lists.now.keys) c.args.router c.loop-link.link-index c.loop-link.sessions.items long
    (c.loop-link.invariant configs files at are)
