use Rattle.net_laws.proofs.SquareExample.{square_distances_are_stable, square_delivers_none, square_is_not_blocked, square_walk_is_right, square_refusal_is_right}
use Rattle.net_laws.proofs.laws.square.Goals as goal

pub returns-clause-distances : goal.returns-clause-distances
returns-clause-distances c = square_distances_are_stable

pub returns-clause-none : goal.returns-clause-none
returns-clause-none c = square_delivers_none

pub returns-clause-blocked : goal.returns-clause-blocked
returns-clause-blocked c = square_is_not_blocked

pub returns-clause-walk : goal.returns-clause-walk
returns-clause-walk c = square_walk_is_right

pub returns-clause-refused : goal.returns-clause-refused
returns-clause-refused c = square_refusal_is_right
