use Rattle.std.proofs.Common.{◌-◌, arith}
use Rattle.sat_core.proofs.Placed.{freed-live}
use Rattle.sat_core.proofs.forgetting.take_out.Goals as goal

pub renumber-requires-clause-live : goal.renumber-requires-clause-live
renumber-requires-clause-live c = λ p at.
    freed-live c.args.store.now c.args.pool.now c.free.new.pool c.args.held.0 (c.len.result - 1) p c.requires.placed c.free.ensures (λ e. omega (arith, e, c.if-held-last.true)) at
