use Rattle.std.proofs.Common.{sym, Some}
use Rattle.sat_search.proofs.Meeting.{value_false}
use Rattle.sat_search.proofs.lesson.is_false.Goals as goal

pub returns-in-Some : goal.returns-in-Some
returns-in-Some c = sym (value_false c.args.core.now c.args.lit (Some c.in-Some.value) c.requires.sound c.in-Some.ensures)
