use Rattle.sat_core.proofs.Freed.{freed-by, some-live}
use Rattle.sat_core.proofs.forgetting.free.Goals as goal

pub free-requires : goal.free-requires
free-requires c = some-live c.args.pool.now c.in-Some.place c.args.held.0 (c.requires.placed.live c.args.held.0 c.in-Some.place c.in-Some.ensures)

pub returns-in-Some : goal.returns-in-Some
returns-in-Some c =
    freed-by c.args.pool.now c.free.new.self c.in-Some.place c.args.held.0 c.requires.sound (c.requires.placed.live c.args.held.0 c.in-Some.place
    c.in-Some.ensures) c.free.ensures.new c.free.ensures.sound
