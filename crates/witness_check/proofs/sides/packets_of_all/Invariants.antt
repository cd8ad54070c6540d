use Rattle.std.proofs.Common.{◌≡◌, ◌*◌, ◌^◌, ◌≤◌, take}
use Rattle.std.specs.Prelude.{sum_by}
use Rattle.net_model.specs.Packets.{packets}
use Rattle.witness_check.proofs.sides.packets_of_all.Given as goal

abbrev pub invariant-loop-shown : goal.invariant-loop-shown
invariant-loop-shown l = (l.sum ≡ sum_by (λ c. packets c.class) (take l.shown-index l.sides)) × (l.sum ≤ l.shown-index * 2 ^ 88)
