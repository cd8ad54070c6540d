use Rattle.std.proofs.Common.{ℕ, ◌<◌, None, length}
use Rattle.std.specs.Prelude.{slice_index_or}
use Rattle.net_model.proofs.SessionPlaces.{IsFirst}
use Rattle.net_model.proofs.rows.Network.session_places.Given as goal

abbrev pub invariant-loop-place : goal.invariant-loop-place
invariant-loop-place l = (k : ℕ) → k < length l.places.items → IsFirst l.self.sessions l.place k (slice_index_or l.places.items k None)
