use Rattle.std.proofs.Common.{◌∙◌, ℕ, List, sym, ap}
use Rattle.net_model.specs.declared.rows.FaceRow.{FaceRow}
use Rattle.edit_list.specs.declared.edit_kinds.Edit.{Edit}
use Rattle.edit_list.specs.NewLists.{new_packet_list}
use Rattle.edit_list.proofs.Placing.{placed_picked, placed_not_picked, placed_all}
use Rattle.edit_space.proofs.new_lists.new_packet_lists.Goals as goal
use Rattle.edit_space.proofs.new_lists.new_packet_lists.Goals.{in-Some+in_ok-push, in_default}

pub loop-place-preserved : goal.loop-place-preserved
loop-place-preserved c =
    let chosen : List Edit = c.args.changes.now.edits.items in
    let faces : List FaceRow = c.args.faces.now in
    let i : ℕ = c.loop-place.place in
    let face : FaceRow = c.index-faces-place.result in
    elim c.match-new_packet_list.branch [
      | in-Some+in_ok-push w ↦
          placed_picked (new_packet_list chosen) faces i face c.loop-place-test.true c.index-faces-place.is c.loop-place.lists.items c.match-new_packet_list.lists.items w.in-Some.list
          (sym c.new_packet_list.ensures ∙ w.in-Some.is) c.loop-place.invariant (ap (λ v. v.items) w.lists-is ∙ w.in_ok-push.ensures.items)
      | in_default w ↦
          ap (λ v. v.items) w.lists-is ∙
          placed_not_picked (new_packet_list chosen) faces i face c.loop-place-test.true c.index-faces-place.is c.loop-place.lists.items
          (sym c.new_packet_list.ensures ∙ w.in_default.is) c.loop-place.invariant
    ]

pub returns : goal.returns
returns c = placed_all (new_packet_list c.args.changes.now.edits.items) c.args.faces.now c.loop-place.place c.loop-place.lists.items c.loop-place-test.false c.loop-place.invariant
