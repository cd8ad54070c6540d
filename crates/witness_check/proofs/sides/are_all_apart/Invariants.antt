use Rattle.std.proofs.Common.{drop}
use Rattle.std.specs.Prelude.{◌↔◌, AllPairs}
use Rattle.net_model.specs.Packets.{ShareNoPacket}
use Rattle.witness_check.proofs.sides.are_all_apart.Given as goal

abbrev pub invariant-loop-place : goal.invariant-loop-place
invariant-loop-place l = AllPairs (λ c d. ShareNoPacket c.class d.class) l.sides ↔ AllPairs (λ c d. ShareNoPacket c.class d.class) (drop l.place l.sides)
