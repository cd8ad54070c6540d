use Rattle.proof_check.proofs.Unmarked.{none_marked}
use Rattle.proof_check.proofs.left.Marks.make.Goals as goal

pub returns-clause-none : goal.returns-clause-none
returns-clause-none c = none_marked (record { near = c.in_ok-make.field-0; far = c.new.result }) c.args.codes c.in_ok-make.ensures c.new.ensures.empty
