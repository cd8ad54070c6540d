use Rattle.std.proofs.Common.{◌∙◌, ap, sym, take}
use Rattle.ios_config.specs.Seen.{commands_seen}
use Rattle.ios_config.specs.Texts.{face_text}
use Rattle.ios_config.proofs.Values.{face_text-more}
use Rattle.ios_config.proofs.Pieces.{seen_more}
use Rattle.ios_config.proofs.faces.face_text.Goals as goal

pub loop-command-preserved : goal.loop-command-preserved
loop-command-preserved c =
    face_text-more c.args.name.now c.args.head (commands_seen (take c.loop-command.command-index c.args.block.now)) c.command-item.result.now
    c.loop-command.face c.set.new.face c.loop-command.invariant c.in_ok-set.ensures ∙
    ap (face_text c.args.name.now c.args.head)
    (sym (seen_more c.args.block.now c.loop-command.command-index c.command-item.result c.loop-command-test.true c.command-item.is))
