use Rattle.std.proofs.Common.{◌≡◌, ◌++◌, take}
use Rattle.std.specs.List.{filter_map}
use Rattle.line_patcher.specs.SessionLines.{session_command}
use Rattle.line_patcher.proofs.sessions.push_session_commands.Given as goal

abbrev pub invariant-loop-face : goal.invariant-loop-face
invariant-loop-face l = l.commands.items ≡ l.fn.commands.items ++ filter_map (session_command l.net) (take l.face-index l.faces)
