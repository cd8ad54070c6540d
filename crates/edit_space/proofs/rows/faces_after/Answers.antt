use Rattle.std.proofs.Common.{◌≡◌, ◌∙◌, ℕ, List, map, ap}
use Rattle.std.proofs.lemmas.Result.{IfOk-weaker}
use Rattle.net_model.specs.declared.rows.FaceRow.{FaceRow}
use Rattle.arc_base.specs.Numbered.{placed}
use Rattle.edit_space.specs.Working.{face_after}
use Rattle.edit_list.proofs.Placing.{placed_mapped, placed_all_mapped}
use Rattle.edit_space.proofs.rows.faces_after.Goals as goal

pub loop-place-preserved : goal.loop-place-preserved
loop-place-preserved c =
    placed_mapped (face_after c.args.net.now.protocol c.args.changes.now.edits.items c.args.places.now) c.slice-face-items.result.now c.loop-place.place
    c.face-item.result c.loop-place.faces.items c.push.new.self.items
    c.in_ok-face_after.field-0 c.loop-place-test.true c.face-item.is c.in_ok-face_after.ensures c.loop-place.invariant c.in_ok-push.ensures.items

pub returns : goal.returns
returns c =
    let f : ℕ × FaceRow → FaceRow = face_after c.args.net.now.protocol c.args.changes.now.edits.items c.args.places.now in
    IfOk-weaker c.of.result (λ (l : List FaceRow). l ≡ c.loop-place.faces.items) (λ (l : List FaceRow). l ≡ map f (placed c.args.net.now.faces))
    (λ l e. e ∙ placed_all_mapped f c.slice-face-items.result.now c.loop-place.place c.loop-place.faces.items c.loop-place-test.false c.loop-place.invariant
    ∙ ap (λ (xs : List FaceRow). map f (placed xs)) c.slice-face-items.ensures.items) c.of.ensures.ok
