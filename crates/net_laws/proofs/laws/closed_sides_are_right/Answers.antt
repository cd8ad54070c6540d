use Rattle.net_laws.proofs.ClosedSides.{closed_block, closed_force_through}
use Rattle.net_laws.proofs.laws.closed_sides_are_right.Goals as goal

pub returns-clause-blocked : goal.returns-clause-blocked
returns-clause-blocked c = closed_block

pub returns-clause-through : goal.returns-clause-through
returns-clause-through c = closed_force_through
