use Rattle.std.proofs.Common.{length, ℕ, List, refl, sym, subst}
use Rattle.std.specs.Prelude.{All}
use Rattle.net_model.specs.declared.rows.Network.{Network}
use Rattle.net_model.specs.Validity.{IsValid}
use Rattle.edit_space.specs.declared.order.Keyed.{Keyed}
use Rattle.edit_list.specs.After.{IsAfter}
use Rattle.arc_base.specs.Numbered.{EachRow}
use Rattle.edit_space.specs.Working.{packet_keys, route_keys, IsWithin, IsPacketListFor, IsRouteListFor}
use Rattle.edit_space.proofs.Whole.{in_place, is_whole}
use Rattle.edit_space.proofs.ListKinds.{packets, routes}
use Rattle.edit_space.proofs.ListPlaces.{can_be_placed, all_within}
use Rattle.edit_space.proofs.network_after.changed.Goals as goal

pub placed_lists-requires : goal.placed_lists-requires
placed_lists-requires c =
    let net = c.args.net.now in
    let can = can_be_placed (packets net c.args.changes.now.edits.items c.requires.valid) c.requires.valid c.requires.made c.in_ok-packets.packets.items c.len.result c.len-faces.result
    c.in_ok-packets.ensures c.len.ensures c.len-faces.ensures in
    record { keys = can.0; within = can.1; sites = can.2 }

pub placed_lists-requires-2 : goal.placed_lists-requires-2
placed_lists-requires-2 c =
    let net = c.args.net.now in
    let can = can_be_placed (routes net c.args.changes.now.edits.items c.requires.valid) c.requires.valid c.requires.made c.in_ok-routes.routes.items c.len-2.result c.len-faces.result
    c.in_ok-routes.ensures c.len-2.ensures c.len-faces.ensures in
    record { keys = can.0; within = can.1; sites = can.2 }

pub routers_after-requires : goal.routers_after-requires
routers_after-requires c = c.requires.made.new_names.told

pub lists_after-requires-clause-within : goal.lists_after-requires-clause-within
lists_after-requires-clause-within c =
    let net = c.args.net.now in
    let p = in_place c.in_ok-packets.ensures c.in_ok-packets-2.ensures in
    subst (λ (l : List Keyed). All (λ (x : Keyed). IsWithin (length net.packet_lists) (length net.faces) x.site) l) (sym c.slice.ensures.items)
    (all_within (packets net c.args.changes.now.edits.items c.requires.valid) c.requires.valid c.requires.made c.in_ok-packets-2.packets p.order p.same)

pub lists_after-requires-2-clause-within : goal.lists_after-requires-2-clause-within
lists_after-requires-2-clause-within c =
    let net = c.args.net.now in
    let r = in_place c.in_ok-routes.ensures c.in_ok-routes-2.ensures in
    subst (λ (l : List Keyed). All (λ (x : Keyed). IsWithin (length net.route_lists) (length net.faces) x.site) l) (sym c.slice-2.ensures.items)
    (all_within (routes net c.args.changes.now.edits.items c.requires.valid) c.requires.valid c.requires.made c.in_ok-routes-2.routes r.order r.same)

pub returns : goal.returns
returns c =
    let net = c.args.net.now in
    let chosen = c.args.changes.now.edits.items in
    let after : Network =
    record {
      protocol = net.protocol;
      routers = c.in_ok-routers_after.field-0;
      faces = c.in_ok-faces_after.field-0;
      sessions = c.in_ok-sessions_after.field-0;
      links =
          c.in_ok-same_links.field-0;
      packet_lists = c.in_ok-lists_after.field-0;
      route_lists = c.in_ok-lists_after-2.field-0;
    } in
    let all : IsAfter net chosen after × IsValid after = is_whole net c.requires.valid chosen c.args.names.now c.args.named.now c.requires.made
    c.in_ok-packets-2.packets c.in_ok-routes-2.routes c.in_ok-packets-2.packet_places c.in_ok-routes-2.route_places
    (in_place c.in_ok-packets.ensures c.in_ok-packets-2.ensures)
    (in_place c.in_ok-routes.ensures c.in_ok-routes-2.ensures)
    after refl c.in_ok-same_links.ensures c.in_ok-routers_after.ensures c.in_ok-faces_after.ensures c.in_ok-sessions_after.ensures
    (subst (λ (l : List Keyed). EachRow (λ place. IsPacketListFor net chosen) l c.in_ok-lists_after.field-0) c.slice.ensures.items c.in_ok-lists_after.ensures)
    (subst (λ (l : List Keyed). EachRow (λ place. IsRouteListFor net chosen) l c.in_ok-lists_after-2.field-0) c.slice-2.ensures.items c.in_ok-lists_after-2.ensures) in
    record { after = all.0; valid = all.1 }
