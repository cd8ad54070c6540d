use Rattle.std.proofs.Common.{◌≡◌, ◌∙◌, ℕ, List, length, refl, ap}
use Rattle.edit_list.specs.After.{with_classes, new_packet_entries}
use Rattle.edit_list.specs.Changes.{list_classes, new_classes}
use Rattle.edit_list.specs.declared.edit_kinds.Edit.{Edit}
use Rattle.arc_base.proofs.Grouped.{things_told}
use Rattle.edit_space.proofs.list_kinds.PacketListKeyedList.list_after.Goals as goal

pub returns-in_ok-with_classes-in-Some : goal.returns-in_ok-with_classes-in-Some
returns-in_ok-with_classes-in-Some c =
    let chosen : List Edit = c.args.changes.now.edits.items in
    let id : ℕ = c.in-Bound.id.0 in
    let classes : c.things_at.result.now ≡ list_classes chosen id =
    things_told c.deref.result.now (list_classes chosen) (length c.args.net.now.packet_lists) id c.things_at.result.now (c.deref.ensures.value ∙ c.requires.changes.packet_lists)
    (rw c.in-Bound.is at c.requires.within) c.things_at.ensures in
    record {
      router = refl;
      name = c.in_ok-name.ensures ∙ c.bytes.ensures;
      entries = rw (c.in-Bound.is, ← c.in-Some.ensures.item) (refl, c.in_ok-with_classes-in-Some.ensures ∙ ap (with_classes c.in-Some.list.now.entries) classes);
    }

pub returns-in_ok-new_packet_entries-in-New : goal.returns-in_ok-new_packet_entries-in-New
returns-in_ok-new_packet_entries-in-New c =
    let chosen : List Edit = c.args.changes.now.edits.items in
    let face : ℕ = c.in-New.face.0 in
    let classes : c.things_at-in-New.result.now ≡ new_classes chosen face =
    things_told c.deref-in-New.result.now (new_classes chosen) (length c.args.net.now.faces) face c.things_at-in-New.result.now
    (c.deref-in-New.ensures.value ∙ c.requires.changes.new_packets) (rw c.in-New.is at c.requires.within) c.things_at-in-New.ensures in
    record {
      router = refl;
      name = c.in_ok-name.ensures ∙ c.bytes.ensures;
      entries = rw c.in-New.is (refl, c.in_ok-new_packet_entries-in-New.ensures ∙ ap new_packet_entries classes);
    }
