use Rattle.std.proofs.Common.{◌≡◌, ◌<◌, length, get_or, true, List, arith, ◌∙◌, sym, ap}
use Rattle.net_model.specs.declared.lists.PacketEntry.{PacketEntry}
use Rattle.net_model.specs.Lists.{matches}
use Rattle.net_checks.proofs.SessionPackets.{at_entry}
use Rattle.net_checks.proofs.session_packets.permits_until.Goals as goal

pub returns-then-matches-clause-denied : goal.returns-then-matches-clause-denied
returns-then-matches-clause-denied c =
    let entries : List PacketEntry = c.args.list.now.entries in
    let i = c.loop-entry.entry-index in
    let within : i < length entries = omega (arith, c.loop-entry-test.true, ap length c.slice-entry-items.ensures.items) in
    let item : c.entry-item.result ≡ get_or entries i c.entry-item.result =
    c.entry-item.is ∙ ap (λ (es : List PacketEntry). get_or es i c.entry-item.result) c.slice-entry-items.ensures.items in
    let hit : matches c.args.packet (get_or entries i c.entry-item.result) ≡ true =
    ap (matches c.args.packet) (sym item) ∙ sym c.matches.ensures ∙ c.if-matches.true in
    λ _. c.loop-entry.invariant.rest c.args.packet.service (omega arith) c.loop-entry.invariant.later
    ∙ at_entry entries i c.entry-item.result within c.args.packet true hit ∙ ap (λ (e : PacketEntry). e.permit) (sym item) ∙ c.if-entry.false
