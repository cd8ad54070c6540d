-- What arcs that may each carry a class say of its packets.
use Rattle.std.proofs.Common.{List, [], ◌∷◌}
use Rattle.std.specs.List.{AllByRecursion}
use Rattle.net_model.specs.declared.lists.Packet.{Packet}
use Rattle.net_model.specs.declared.policies.Class.{Class}
use Rattle.net_model.specs.declared.policies.PolicyKind.{PolicyKind}
use Rattle.net_model.specs.declared.rows.Network.{Network}
use Rattle.net_model.specs.Packets.{IsOfClass}
use Rattle.net_model.specs.Routing.{Arc}
use Rattle.net_model.specs.Forwarding.{ArcPermits}
use Rattle.net_model.specs.Witnesses.{MayBreak}
use Rattle.witness_check.specs.Trails.{MayCarry}

module _ (net : Network) (kind : PolicyKind) (class : Class) where
  pub permitted : (arcs : List Arc) → AllByRecursion (MayCarry net kind class) arcs → (p : Packet) → IsOfClass class p → AllByRecursion (λ arc. ArcPermits net arc p) arcs
  permitted [] each p at = tt
  permitted (a ∷ arcs) each p at = (each.0.0 p at, permitted arcs each.1 p at)

  pub breaking : (arcs : List Arc) → AllByRecursion (MayCarry net kind class) arcs → AllByRecursion (MayBreak kind) arcs
  breaking [] each = tt
  breaking (a ∷ arcs) each = (each.0.1, breaking arcs each.1)

  pub carried : (arcs : List Arc) → ((p : Packet) → IsOfClass class p → AllByRecursion (λ arc. ArcPermits net arc p) arcs) → AllByRecursion (MayBreak kind) arcs →
      AllByRecursion (MayCarry net kind class) arcs
  carried [] permit breaks = tt
  carried (a ∷ arcs) permit breaks = ((λ p at. (permit p at).0, breaks.0), carried arcs (λ p at. (permit p at).1) breaks.1)
