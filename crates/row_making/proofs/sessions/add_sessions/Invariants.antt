use Rattle.std.proofs.Common.{◌≡◌, ◌*◌, List, Some}
use Rattle.std.specs.Prelude.{slice_get}
use Rattle.ios_config.specs.declared.settings.Config.{Config}
use Rattle.net_rules.specs.Lists.{keys_at}
use Rattle.row_making.specs.Sessions.{AreFilesOf, AreSessionsTo}
use Rattle.row_making.proofs.sessions.add_sessions.Given as goal

abbrev pub invariant-loop-link : goal.invariant-loop-link
invariant-loop-link l =
    (configs : List Config) → AreFilesOf configs l.fn.net (keys_at l.fn.lists.keys) → slice_get configs l.fn.router ≡ Some l.fn.config →
    AreSessionsTo configs l.fn.net.links (keys_at l.fn.lists.keys) l.fn.router 0 l.fn.sessions.items →
    AreSessionsTo configs l.fn.net.links (keys_at l.fn.lists.keys) l.fn.router (2 * l.link-index) l.sessions.items
