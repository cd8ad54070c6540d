use Rattle.condition_formula.specs.Writing.{used_by}
use Rattle.condition_formula.specs.declared.pick.Pick.TheVariants.{OutOf, Into}
use Rattle.condition_formula.specs.Reaching.{once_parts}
use Rattle.condition_formula.proofs.Adding.{Adds-more, row-is}
use Rattle.condition_formula.proofs.family.Family.all_at_most_one.Goals as goal

pub at_most_one-requires-clause-out_of : goal.at_most_one-requires-clause-out_of
at_most_one-requires-clause-out_of c =
    row-is c.args.self.now.q.now OutOf c.args.self.now.nodes c.loop-node.node c.args.self.now.index.now.out_of c.requires.out_of c.loop-node-test.true

pub at_most_one-requires-clause-into : goal.at_most_one-requires-clause-into
at_most_one-requires-clause-into c =
    row-is c.args.self.now.q.now Into c.args.self.now.nodes c.loop-node.node c.args.self.now.index.now.into c.requires.into c.loop-node-test.true

pub loop-node-preserved : goal.loop-node-preserved
loop-node-preserved c =
    Adds-more (once_parts c.args.self.now.q.now (used_by c.args.self.now)) c.args.out.now c.loop-node.out c.at_most_one.new.out c.loop-node.node c.loop-node.invariant c.in_ok-at_most_one.ensures
