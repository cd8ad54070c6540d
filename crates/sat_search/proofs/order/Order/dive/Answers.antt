use Rattle.sat_search.proofs.Unset.{waits_on}
use Rattle.sat_search.proofs.order.Order.dive.Goals as goal

pub walk-requires-clause-waiting : goal.walk-requires-clause-waiting
walk-requires-clause-waiting c = waits_on c.args.core.now c.begin.new.core c.args.self.now c.requires.waiting c.begin.ensures.kept.vars c.begin.ensures.stays

pub returns-in-Some-clause-waiting : goal.returns-in-Some-clause-waiting
returns-in-Some-clause-waiting c = waits_on c.args.core.now c.begin.new.core c.args.self.now c.requires.waiting c.begin.ensures.kept.vars c.begin.ensures.stays
