use Rattle.std.proofs.Common.{◌≡◌, ℕ, ◌<◌, take, map, Some}
use Rattle.std.specs.Prelude.{All, slice_get}
use Rattle.net_model.specs.declared.policies.Class.{Class}
use Rattle.net_model.specs.Forwarding.{Ends}
use Rattle.class_graph.specs.Hosts.{IsHostPair}
use Rattle.verdicts.specs.Fixed.{IsLeastClosed, HasClosedSide}
use Rattle.verdicts.proofs.blocking.judge_blocking.Given as goal

abbrev pub invariant-loop-class : goal.invariant-loop-class
invariant-loop-class l = record {
  in_order : map (λ s. s.class) l.sides ≡ take l.class-index l.class-items;
  least : (ends : Ends) → IsHostPair l.net ends l.pair → All (λ s. IsLeastClosed l.net ends l.kind s.class s.side) l.sides;
  before : (ends : Ends) → IsHostPair l.net ends l.pair → (k : ℕ) (c : Class) → k < l.class-index → slice_get l.class-items k ≡ Some c → HasClosedSide l.net ends l.kind c;
}
