use Rattle.std.proofs.Common.{◌∙◌, sym, ap}
use Rattle.edit_space.proofs.Picking.{new_keys_more, no_new_key}
use Rattle.edit_space.proofs.list_kinds.add_new_lists.Goals as goal
use Rattle.edit_space.proofs.list_kinds.add_new_lists.Goals.{in-Some+in_ok-make+in_ok-push, in_default}

pub loop-new-preserved : goal.loop-new-preserved
loop-new-preserved g c =
    elim c.match-face.branch [
      | in-Some+in_ok-make+in_ok-push w ↦
          new_keys_more g.L.KeyedList.face c.args.named.now c.loop-new.new-index c.new-item.result c.args.keyed.now.items c.loop-new.keyed.items c.match-face.keyed.items w.in-Some.face
          w.in_ok-make.field-0
          c.loop-new-test.true c.new-item.is (sym c.face.ensures ∙ w.in-Some.is) (w.in_ok-make.ensures ∙ w.bytes.ensures) c.loop-new.invariant
          (ap (λ v. v.items) w.keyed-is ∙ w.in_ok-push.ensures.items)
      | in_default w ↦
          ap (λ v. v.items) w.keyed-is ∙
          no_new_key g.L.KeyedList.face c.args.named.now c.loop-new.new-index c.new-item.result c.args.keyed.now.items c.loop-new.keyed.items
          c.loop-new-test.true c.new-item.is (sym c.face.ensures ∙ w.in_default.is) c.loop-new.invariant
    ]
