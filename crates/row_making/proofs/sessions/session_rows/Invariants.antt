use Rattle.net_rules.specs.Lists.{keys_at}
use Rattle.row_making.specs.Sessions.{AreFilesOf, AreSessionsTo}
use Rattle.row_making.proofs.sessions.session_rows.Given as goal

abbrev pub invariant-loop-router : goal.invariant-loop-router
invariant-loop-router l =
    AreFilesOf l.fn.configs l.fn.net (keys_at l.fn.lists.keys) → AreSessionsTo l.fn.configs l.fn.net.links (keys_at l.fn.lists.keys) l.router 0 l.sessions.items
