use Rattle.std.proofs.Common.{ℕ, ◌+◌, List, Option, sym, subst}
use Rattle.std.specs.Prelude.{Any}
use Rattle.ios_words.specs.declared.commands.Command.{Command}
use Rattle.ios_config.specs.declared.settings.Given.{Given}
use Rattle.ios_config.specs.Least.{FindsLeast}
use Rattle.net_rules.specs.Peers.{TellsUnconnected}
use Rattle.net_rules.proofs.Leasts.{LinesTo, least_more, least_all}
use Rattle.net_checks.proofs.peers.unconnected.Goals as goal

pub loop-line-preserved : goal.loop-line-preserved
loop-line-preserved c =
    let items : List (Given Command) = c.lines_of-line-items.result.now in
    subst (λ (found : Option ℕ). FindsLeast (LinesTo (TellsUnconnected c.args.config.now) items (c.loop-line.line-index + 1)) found) (sym c.lesser-least.ensures)
    (least_more (TellsUnconnected c.args.config.now) items c.loop-line.line-index c.line-item.result c.loop-line.least c.tells_unconnected.result c.loop-line-test.true c.line-item.is
    c.loop-line.invariant (c.tells_unconnected.ensures c.args.config.now c.in_ok-subnets.ensures))

pub returns : goal.returns
returns c =
    subst (λ (lines : List (Given Command)). FindsLeast (λ line. Any (TellsUnconnected c.args.config.now line) lines) c.loop-line.least) c.lines_of-line-items.ensures
    (least_all (TellsUnconnected c.args.config.now) c.lines_of-line-items.result.now c.loop-line.line-index c.loop-line.least c.loop-line-test.false c.loop-line.invariant)
