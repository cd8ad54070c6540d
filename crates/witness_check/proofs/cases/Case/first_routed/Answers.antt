use Rattle.std.proofs.Common.{arith}
use Rattle.witness_check.proofs.RoutedArcs.{each_routed, one_more}
use Rattle.witness_check.proofs.cases.Case.first_routed.Goals as goal

pub loop-place-preserved : goal.loop-place-preserved
loop-place-preserved g c =
    one_more c.args.self.now.net.now c.args.self.now.to _ c.loop-place.place c.loop-place.invariant c.in_default.ensures.none

pub returns-clause-none : goal.returns-clause-none
returns-clause-none g c = each_routed c.args.self.now.net.now c.args.self.now.to _ (λ k less. c.loop-place.invariant k (omega arith))
