use Rattle.std.proofs.Common.{false}
use Rattle.witness_check.proofs.RoutedArcs.{over_link, both_ways}
use Rattle.witness_check.proofs.cases.Case.routed_on.Goals as goal

pub returns-in-None-clause-over : goal.returns-in-None-clause-over
returns-in-None-clause-over g c = over_link c.args.link.0 false c.routed_in-in-None.result c.routed_in-in-None.ensures.over

pub returns-in-None-clause-none : goal.returns-in-None-clause-none
returns-in-None-clause-none g c =
    both_ways c.args.self.now.net.now c.args.self.now.to _ c.args.link.0 c.routed_in-in-None.result c.in-None.ensures.none c.routed_in-in-None.ensures.none
