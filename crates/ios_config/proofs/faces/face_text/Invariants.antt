use Rattle.std.proofs.Common.{◌≡◌, take}
use Rattle.ios_config.specs.Seen.{commands_seen}
use Rattle.ios_config.specs.Texts.{face_text}
use Rattle.ios_config.proofs.faces.face_text.Given as goal

abbrev pub invariant-loop-command : goal.invariant-loop-command
invariant-loop-command l = l.face ≡ face_text l.fn.name l.fn.head (commands_seen (take l.command-index l.block))
