use Rattle.net_checks.proofs.StopsEnds.{clear_stops, first_stops}
use Rattle.net_checks.proofs.stops.try_lists.Goals as goal

pub returns-in-Some : goal.returns-in-Some
returns-in-Some c = λ doc rows. first_stops doc c.args.configs.now c.args.net.now c.requires.named rows c.in-Some.refusal c.in-Some.ensures

pub returns-in-None : goal.returns-in-None
returns-in-None c = λ doc rows. (clear_stops doc c.args.configs.now c.args.net.now c.requires.named rows c.in-None.ensures, tt)
