use Rattle.std.proofs.Common.{ℕ, ◌<◌, ◌^◌, get_or}
use Rattle.net_model.specs.declared.rows.SessionRow.{SessionRow}
use Rattle.repair_check.proofs.addresses.read_addresses.Given as goal

abbrev pub invariant-loop-session : goal.invariant-loop-session
invariant-loop-session l = (k : ℕ) (d : SessionRow) → k < l.session-index → (get_or l.net.sessions k d).peer < 2 ^ 32
