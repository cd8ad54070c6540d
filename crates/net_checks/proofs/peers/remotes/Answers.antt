use Rattle.std.proofs.Common.{List, subst, ◌↔◌}
use Rattle.std.specs.Prelude.{Contains, IsSome}
use Rattle.std.proofs.lemmas.List.{take_all}
use Rattle.ios_words.specs.declared.commands.Command.{Command}
use Rattle.ios_config.specs.declared.settings.Given.{Given}
use Rattle.net_rules.specs.Neighbors.{remote_of}
use Rattle.net_checks.proofs.PeersEnds.{remotes_more}
use Rattle.net_checks.proofs.peers.remotes.Goals as goal

pub loop-line-preserved : goal.loop-line-preserved
loop-line-preserved c =
    remotes_more c.args.lines.now c.loop-line.line-index c.line-item.result c.loop-line-test.true c.line-item.is c.loop-line.peers.keys
    c.add_remote.new.peers.keys c.loop-line.invariant c.in_ok-add_remote.ensures

pub returns : goal.returns
returns c = λ peer.
    subst (λ (lines : List (Given Command)). Contains c.loop-line.peers.keys peer ↔ IsSome (remote_of lines peer))
    (take_all c.loop-line.line-index c.args.lines.now c.loop-line-test.false) (c.loop-line.invariant peer)
