use Rattle.std.proofs.Common.{rules}
use Rattle.witness_check.specs.Trails.{MayCarry}
use Rattle.witness_check.proofs.Following.{told}
use Rattle.witness_check.proofs.cases.Case.carries.Goals as goal

pub returns : goal.returns
returns c =
    told c.args.self.now.net.now c.args.self.now.to (MayCarry c.args.self.now.net.now c.args.kind c.args.class) _ _ c.args.self.now.source.now.router.0 c.args.links.now
    c.args.self.now.target.now.router.0 c.leads.result c.leads.ensures.yes c.leads.ensures.no (λ rows k. search rules) (λ rows k. search rules)
