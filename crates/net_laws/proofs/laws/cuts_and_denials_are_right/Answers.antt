use Rattle.net_laws.proofs.RightCuts.{right_cuts_separate, right_cuts_break_reach, right_denials_break_reach}
use Rattle.net_laws.proofs.laws.cuts_and_denials_are_right.Goals as goal

pub returns-clause-separate : goal.returns-clause-separate
returns-clause-separate c = right_cuts_separate

pub returns-clause-cut : goal.returns-clause-cut
returns-clause-cut c = right_cuts_break_reach

pub returns-clause-denied : goal.returns-clause-denied
returns-clause-denied c = right_denials_break_reach
