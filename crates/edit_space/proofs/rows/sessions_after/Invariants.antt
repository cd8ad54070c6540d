use Rattle.std.proofs.Common.{◌≡◌, take, map}
use Rattle.edit_space.specs.Working.{session_after}
use Rattle.edit_space.proofs.rows.sessions_after.Given as goal

abbrev pub invariant-loop-session : goal.invariant-loop-session
invariant-loop-session l = l.sessions.items ≡ map (session_after l.changes.edits.items l.places) (take l.session-index l.session-items)
