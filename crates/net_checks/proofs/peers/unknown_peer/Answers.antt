use Rattle.std.proofs.Common.{ℕ, ◌+◌, List, Option, sym, subst}
use Rattle.ios_words.specs.declared.commands.Command.{Command}
use Rattle.ios_config.specs.declared.settings.Given.{Given}
use Rattle.ios_config.specs.Least.{FindsLeast}
use Rattle.net_rules.specs.Peers.{NamesOther}
use Rattle.net_checks.specs.FarEnds.{IsListed}
use Rattle.net_rules.proofs.Leasts.{LinesTo, least_more, least_all}
use Rattle.net_checks.proofs.PeersEnds.{least_reached}
use Rattle.net_checks.proofs.peers.unknown_peer.Goals as goal

pub loop-line-preserved : goal.loop-line-preserved
loop-line-preserved c =
    let lines : List (Given Command) = c.lines_of-lines.result.now in
    let P : ℕ → Given Command → Type 0 = NamesOther (IsListed c.args.ends.now.keys c.in_ok-remotes.remotes.keys c.args.router) in
    subst (λ (found : Option ℕ). FindsLeast (LinesTo P lines (c.loop-line.line-index + 1)) found) (sym c.lesser-least.ensures)
    (least_more P lines c.loop-line.line-index c.line-item.result c.loop-line.least c.names_unknown.result c.loop-line-test.true c.line-item.is c.loop-line.invariant c.names_unknown.ensures)

pub returns : goal.returns
returns c =
    let lines : List (Given Command) = c.lines_of-lines.result.now in
    let remotes : List ℕ = c.in_ok-remotes.remotes.keys in
    let P : ℕ → Given Command → Type 0 = NamesOther (IsListed c.args.ends.now.keys remotes c.args.router) in
    least_reached c.args.ends.now.keys remotes c.args.router c.args.config.now lines c.loop-line.least c.lines_of-lines.ensures c.in_ok-remotes.ensures
    (least_all P lines c.loop-line.line-index c.loop-line.least c.loop-line-test.false c.loop-line.invariant)
