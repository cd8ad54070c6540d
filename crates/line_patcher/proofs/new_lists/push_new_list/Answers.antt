use Rattle.std.proofs.Common.{◌≡◌, ◌∙◌, ◌<◌, List, length, ap, sym, subst, arith}
use Rattle.arc_base.specs.declared.place.Face.{Face}
use Rattle.net_model.specs.declared.rows.Network.{Network}
use Rattle.edit_list.specs.declared.edit_kinds.Edit.{Edit}
use Rattle.edit_list.specs.declared.list_kinds.NewList.{NewList}
use Rattle.edit_list.specs.Changes.{new_prefixes, new_classes, new_route_change}
use Rattle.line_patcher.specs.NewListLines.{new_route_commands, new_packet_commands, new_list_commands}
use Rattle.line_patcher.specs.Working.{face_of}
use Rattle.line_patcher.proofs.Growing.{put_same}
use Rattle.arc_base.proofs.Grouped.{things_told}
use Rattle.line_patcher.proofs.Tables.{few_put}
use Rattle.line_patcher.proofs.new_lists.push_new_list.Goals as goal

pub push_route_list-requires : goal.push_route_list-requires
push_route_list-requires c =
    let net : Network = c.args.net.now in
    let chosen : List Edit = c.args.changes.now.edits.items in
    let face : Face = c.in-Route.face in
    let low : face.0 < length net.faces = subst (λ (l : NewList). (face_of l).0 < length net.faces) c.in-Route.is c.requires.within in
    let same : c.things_at.result.now ≡ new_prefixes chosen face.0 =
    things_told c.deref.result.now (new_prefixes chosen) (length net.faces) face.0 c.things_at.result.now (c.deref.ensures.value ∙ c.requires.changes.new_routes) low c.things_at.ensures in
    omega (arith, ap length same, few_put new_route_change chosen face.0, c.requires.few)

pub returns-in-Route : goal.returns-in-Route
returns-in-Route c =
    let net : Network = c.args.net.now in
    let chosen : List Edit = c.args.changes.now.edits.items in
    let face : Face = c.in-Route.face in
    let low : face.0 < length net.faces = subst (λ (l : NewList). (face_of l).0 < length net.faces) c.in-Route.is c.requires.within in
    let same : c.things_at.result.now ≡ new_prefixes chosen face.0 =
    things_told c.deref.result.now (new_prefixes chosen) (length net.faces) face.0 c.things_at.result.now (c.deref.ensures.value ∙ c.requires.changes.new_routes) low c.things_at.ensures in
    put_same c.push_route_list.result c.args.commands.now.items c.push_route_list.new.commands.items (new_route_commands c.args.name.now c.things_at.result.now)
    (new_list_commands chosen c.args.list c.args.name.now)
    (ap (new_route_commands c.args.name.now) same ∙ ap (λ (l : NewList). new_list_commands chosen l c.args.name.now) (sym c.in-Route.is)) c.push_route_list.ensures

pub returns-in-Packet : goal.returns-in-Packet
returns-in-Packet c =
    let net : Network = c.args.net.now in
    let chosen : List Edit = c.args.changes.now.edits.items in
    let face : Face = c.in-Packet.face in
    let low : face.0 < length net.faces = subst (λ (l : NewList). (face_of l).0 < length net.faces) c.in-Packet.is c.requires.within in
    let same : c.things_at-in-Packet.result.now ≡ new_classes chosen face.0 =
    things_told c.deref-in-Packet.result.now (new_classes chosen) (length net.faces) face.0 c.things_at-in-Packet.result.now
    (c.deref-in-Packet.ensures.value ∙ c.requires.changes.new_packets) low c.things_at-in-Packet.ensures in
    put_same c.push_packet_list.result c.args.commands.now.items c.push_packet_list.new.commands.items (new_packet_commands c.args.name.now c.things_at-in-Packet.result.now)
    (new_list_commands chosen c.args.list c.args.name.now)
    (ap (new_packet_commands c.args.name.now) same ∙ ap (λ (l : NewList). new_list_commands chosen l c.args.name.now) (sym c.in-Packet.is)) c.push_packet_list.ensures
