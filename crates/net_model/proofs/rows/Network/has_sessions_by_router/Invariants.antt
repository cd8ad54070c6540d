use Rattle.std.proofs.Common.{ℕ, ◌+◌, ◌<◌, ◌≤◌, get_or}
use Rattle.net_model.specs.declared.rows.SessionRow.{SessionRow}
use Rattle.net_model.specs.Tables.{router_at}
use Rattle.net_model.proofs.rows.Network.has_sessions_by_router.Given as goal

abbrev pub invariant-loop-place : goal.invariant-loop-place
invariant-loop-place l =
    (k : ℕ) (d : SessionRow) → k + 1 < l.place → router_at l.self (get_or l.self.sessions k d).face ≤ router_at l.self (get_or l.self.sessions (k + 1) d).face
