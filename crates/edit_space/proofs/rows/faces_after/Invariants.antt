use Rattle.std.proofs.Common.{◌≡◌, take, map}
use Rattle.arc_base.specs.Numbered.{placed}
use Rattle.edit_space.specs.Working.{face_after}
use Rattle.edit_space.proofs.rows.faces_after.Given as goal

abbrev pub invariant-loop-place : goal.invariant-loop-place
invariant-loop-place l = l.faces.items ≡ map (face_after l.net.protocol l.changes.edits.items l.places) (take l.place (placed l.face-items))
