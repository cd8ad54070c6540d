use Rattle.net_laws.proofs.RightWalks.{right_walks_are_delivered, right_walks_unblock, right_walks_bypass}
use Rattle.net_laws.proofs.laws.walks_are_right.Goals as goal

pub returns-clause-delivered : goal.returns-clause-delivered
returns-clause-delivered c = right_walks_are_delivered

pub returns-clause-blocked : goal.returns-clause-blocked
returns-clause-blocked c = right_walks_unblock

pub returns-clause-through : goal.returns-clause-through
returns-clause-through c = right_walks_bypass
