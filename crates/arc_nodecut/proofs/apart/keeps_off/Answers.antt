use Rattle.std.proofs.Common.{rules}
use Rattle.witness_check.specs.Cases.{ends_in}
use Rattle.witness_check.proofs.Following.{told}
use Rattle.arc_nodecut.specs.NodePaths.{KeepsOff}
use Rattle.arc_nodecut.proofs.apart.keeps_off.Goals as goal

pub returns : goal.returns
returns c =
    told c.args.case.now.net.now c.args.case.now.to (KeepsOff c.args.case.now.net.now (ends_in c.args.case.now) c.args.other.now) _ _ c.args.case.now.source.now.router.0
    c.args.links.now c.args.case.now.target.now.router.0 c.leads.result c.leads.ensures.yes c.leads.ensures.no (λ rows k. search rules) (λ rows k. search rules)
