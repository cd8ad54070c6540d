use Rattle.sat_core.proofs.Freed.{renumbered-by}
use Rattle.sat_core.proofs.forgetting.renumber.Goals as goal

pub returns-in-Some : goal.returns-in-Some
returns-in-Some c =
    renumbered-by c.args.pool.now c.renumber.new.self c.in-Some.place c.args.held.0 c.args.new.0 c.requires.sound (c.requires.live c.in-Some.place
    c.in-Some.ensures) c.renumber.ensures.new c.renumber.ensures.sound
