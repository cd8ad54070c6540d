use Rattle.std.proofs.Common.{length}
use Rattle.proof_check.proofs.Unmarked.{none_marked, no_items}
use Rattle.proof_check.proofs.left.Marks.clear.Goals as goal

pub returns-else-not-is_empty-clause-none : goal.returns-else-not-is_empty-clause-none
returns-else-not-is_empty-clause-none c = none_marked (record { near = c.clear.new.self; far = c.args.self.now.far }) (length c.args.self.now.near) c.clear.ensures
    (no_items c.args.self.now.far.keys (c.is_empty.ensures.0 c.if-not-is_empty.false))
