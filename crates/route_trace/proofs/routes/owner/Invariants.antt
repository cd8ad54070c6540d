use Rattle.std.proofs.Common.{◌≡◌, ℕ, ◌<◌, Some}
use Rattle.std.specs.Prelude.{slice_get}
use Rattle.net_model.specs.declared.rows.FaceRow.{FaceRow}
use Rattle.route_trace.proofs.routes.owner.Given as goal

abbrev pub invariant-loop-face : goal.invariant-loop-face
invariant-loop-face l = (k : ℕ) (f : FaceRow) → k < l.face-index → slice_get l.net.faces k ≡ Some f → f.host ≡ Some l.to → ⊥
