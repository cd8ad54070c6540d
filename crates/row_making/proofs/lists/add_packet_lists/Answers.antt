use Rattle.std.specs.Map.Iter.{deref}
use Rattle.std.proofs.lemmas.List.{nil_from_length}
use Rattle.std.proofs.lemmas.Map.Iter.{rest_all}
use Rattle.net_rules.specs.Lists.{IsBoundPacketList, packet_row_at}
use Rattle.row_making.proofs.ListsNames.{in_byte_order, just_added}
use Rattle.row_making.proofs.ListsRows.{rows_added, rows_unbound}
use Rattle.row_making.proofs.lists.add_packet_lists.Goals as goal

pub returns : goal.returns
returns c =
    let keys = c.add_bound_packet.new.names.keys in
    rows_added (IsBoundPacketList c.args.config.now) (packet_row_at c.args.router c.args.config.now) c.args.rows.now.items c.loop-name.rows.items c.loop-name.name-iterator
    c.into_iter-name-iterator.result keys
    (just_added (IsBoundPacketList c.args.config.now) c.new-bound.result.keys keys c.new-bound.ensures.empty c.in_ok-add_bound_packet.ensures
    (in_byte_order keys c.into_iter-name-iterator.ensures.into_iter_gives.4))
    (rest_all deref c.loop-name.name-iterator c.next.new.self c.next.result c.in-None.is c.next.ensures.steps) c.into_iter-name-iterator.ensures.into_iter_gives.0 c.loop-name.invariant

pub returns-then-is_empty : goal.returns-then-is_empty
returns-then-is_empty c =
    rows_unbound (IsBoundPacketList c.args.config.now) (packet_row_at c.args.router c.args.config.now) c.args.rows.now.items c.new-bound.result.keys c.add_bound_packet.new.names.keys
    (nil_from_length c.add_bound_packet.new.names.keys (c.is_empty.ensures.0 c.if-is_empty.true)) c.in_ok-add_bound_packet.ensures
