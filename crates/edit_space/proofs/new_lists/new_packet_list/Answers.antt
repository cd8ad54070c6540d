use Rattle.std.proofs.Common.{◌∙◌, ℕ, true, false, Option, Some, List, length}
use Rattle.net_model.specs.declared.policies.Class.{Class}
use Rattle.edit_list.specs.Changes.{new_classes}
use Rattle.edit_list.specs.declared.list_kinds.NewList.{NewList}
use Rattle.edit_list.specs.declared.list_kinds.NewList.TheVariants.{Packet}
use Rattle.arc_base.proofs.Grouped.{picked_unless_empty}
use Rattle.edit_space.proofs.new_lists.new_packet_list.Goals as goal

pub returns-then-not-is_filled : goal.returns-then-not-is_filled
returns-then-not-is_filled c =
    let list : Option (ℕ × NewList) = Some (c.args.face.now.router.0, Packet (record { 0 = c.args.place })) in
    let groups : List (List Class) = c.deref.result.now in
    picked_unless_empty groups (new_classes c.args.changes.now.edits.items) (length c.args.net.now.faces) (c.args.place) c.is_filled.result false list
    (c.deref.ensures.value ∙ c.requires.changes.new_packets) (c.requires.within) c.is_filled.ensures c.if-not-is_filled.true

pub returns : goal.returns
returns c =
    let list : Option (ℕ × NewList) = Some (c.args.face.now.router.0, Packet (record { 0 = c.args.place })) in
    let groups : List (List Class) = c.deref.result.now in
    picked_unless_empty groups (new_classes c.args.changes.now.edits.items) (length c.args.net.now.faces) (c.args.place) c.is_filled.result true list
    (c.deref.ensures.value ∙ c.requires.changes.new_packets) (c.requires.within) c.is_filled.ensures c.if-not-is_filled.false
