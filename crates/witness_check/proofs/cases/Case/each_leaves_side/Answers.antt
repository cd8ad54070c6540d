use Rattle.std.proofs.Common.{arith}
use Rattle.arc_base.specs.declared.place.Link.{Link}
use Rattle.witness_check.specs.Cuts.{LeavesOver}
use Rattle.witness_check.proofs.Readings.{each_more}
use Rattle.witness_check.proofs.cases.Case.each_leaves_side.Goals as goal

pub loop-link-preserved : goal.loop-link-preserved
loop-link-preserved c =
    each_more {X = Link} (λ (l : Link). LeavesOver c.args.self.now.net.now c.args.self.now.to c.args.side.now l.0) c.args.links.now c.loop-link.link-index _ (omega arith) c.loop-link.invariant
    (c.leaves_side.ensures.0 c.if-not-leaves_side.false)
