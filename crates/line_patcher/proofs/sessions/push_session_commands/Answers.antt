use Rattle.std.proofs.Common.{◌≡◌, ℕ, List, get_or}
use Rattle.std.proofs.lemmas.List.{get_or_default}
use Rattle.line_patcher.specs.SessionLines.{session_command}
use Rattle.line_patcher.proofs.Growing.{picked_grown}
use Rattle.line_patcher.proofs.sessions.push_session_commands.Goals as goal

pub loop-face-preserved : goal.loop-face-preserved
loop-face-preserved c =
    let faces : List ℕ = c.args.faces.now in
    let i : ℕ = c.loop-face.face-index in
    let face : ℕ = get_or faces i 0 in
    let is : face ≡ get_or faces i face = get_or_default faces i 0 face c.loop-face-test.true in
    picked_grown (session_command c.args.net.now) faces i face c.args.commands.now.items c.loop-face.commands.items c.push_some.new.things.items c.in_ok-session_command.field-0
    c.loop-face-test.true is
    c.in_ok-session_command.ensures c.loop-face.invariant c.in_ok-push_some.ensures
