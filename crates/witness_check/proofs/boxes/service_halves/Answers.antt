use Rattle.std.proofs.Common.{◌+◌, ◌-◌, ◌/◌, arith}
use Rattle.std.proofs.lemmas.Nat.{div-add-mod', mod_below}
use Rattle.witness_check.proofs.ServiceHalves.{fewer_bits}
use Rattle.witness_check.proofs.boxes.service_halves.Goals as goal

pub returns-clause-first : goal.returns-clause-first
returns-clause-first c =
    fewer_bits c.args.whole c.args.whole.low (c.args.whole.low + (c.args.whole.high - c.args.whole.low) / 2) c.requires
    (omega (arith, div-add-mod' (c.args.whole.high - c.args.whole.low) 2))

pub returns-clause-second : goal.returns-clause-second
returns-clause-second c =
    fewer_bits c.args.whole (c.args.whole.low + (c.args.whole.high - c.args.whole.low) / 2 + 1) c.args.whole.high c.requires
    (omega (arith, div-add-mod' (c.args.whole.high - c.args.whole.low) 2, mod_below (c.args.whole.high - c.args.whole.low) 2 (omega arith)))
