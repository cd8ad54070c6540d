-- What a network carries, a copy that covers it carries.
use Rattle.std.proofs.Common.{ℕ, List, [], ◌∷◌, ap, subst}
use Rattle.net_model.specs.declared.lists.Packet.{Packet}
use Rattle.net_model.specs.declared.policies.Class.{Class}
use Rattle.net_model.specs.declared.rows.Network.{Network}
use Rattle.net_model.specs.Packets.{IsOfClass}
use Rattle.net_model.specs.Routing.{Arc, tail_router, head_router}
use Rattle.net_model.specs.Forwarding.{Ends, Enters, Leaves, source_router, target_router}
use Rattle.net_model.specs.Policies.{CrossesWaypoint}
use Rattle.any_forwarding_laws.specs.Forwardings.{Way, IsCarried}
use Rattle.any_forwarding_laws.specs.Copies.{HasWay, Covers}
use Rattle.any_forwarding_laws.specs.Laws.{CarriesAlike, CoveredDeliveriesAreCarried, ClosedCopiesStop, ClosedCopiesForceWaypoints, CoversInTurn}
use Rattle.net_laws.proofs.ClosedSides.{Any-here, Any-there}
use Rattle.any_forwarding_laws.proofs.Ways.{OverWaypoint, crosses_none, in_a_row, more}
use Rattle.any_forwarding_laws.proofs.ClosedSides.{blocked_carries_none, through_crosses}

module _ (copy net : Network) (copied ends : Ends) (class : Class) (covers : Covers copy copied net ends class) (p : Packet) (of : IsOfClass class p) where
  along : (arcs : List Arc) (u v : ℕ) → Way net p u arcs v → HasWay copy p (covers.place u) (covers.place v) (CrossesWaypoint arcs)
  along [] u v way = record { arcs = []; way = ap covers.place way; crosses = λ c. absurd (crosses_none c) }
  along (arc ∷ arcs) u v way =
      let here : HasWay copy p (covers.place (tail_router arc)) (covers.place (head_router arc)) (OverWaypoint arc) = covers.arcs p of arc way.1 way.2 in
      let from : HasWay copy p (covers.place u) (covers.place (head_router arc)) (OverWaypoint arc) =
      subst (λ (w : ℕ). HasWay copy p (covers.place w) (covers.place (head_router arc)) (OverWaypoint arc)) way.0 here in
      let rest : HasWay copy p (covers.place (head_router arc)) (covers.place v) (CrossesWaypoint arcs) = along arcs (head_router arc) v way.3 in
      in_a_row copy p (covers.place u) (covers.place (head_router arc)) (covers.place v) (CrossesWaypoint (arc ∷ arcs))
      (more copy p _ _ (OverWaypoint arc) (CrossesWaypoint (arc ∷ arcs)) (λ o. Any-here OverWaypoint arc arcs o) from)
      (more copy p _ _ (CrossesWaypoint arcs) (CrossesWaypoint (arc ∷ arcs)) (λ c. Any-there OverWaypoint arc arcs c) rest)

  pub carries_alike : (arcs : List Arc) → IsCarried net ends p arcs → CarriesAlike copy copied p arcs
  carries_alike arcs carried =
      let first = covers.enters p of carried.enters in
      let last = covers.leaves p of carried.leaves in
      let s : ℕ = covers.place (source_router ends) in
      let t : ℕ = covers.place (target_router ends) in
      let may : Type 0 = CrossesWaypoint arcs in
      let head : HasWay copy p (source_router copied) s may = more copy p (source_router copied) s ⊥ may (λ n. absurd n) first.1 in
      let tail : HasWay copy p t (target_router copied) may = more copy p t (target_router copied) ⊥ may (λ n. absurd n) last.1 in
      let middle : HasWay copy p s t may = along arcs (source_router ends) (target_router ends) carried.way in
      let whole : HasWay copy p (source_router copied) (target_router copied) may =
      in_a_row copy p (source_router copied) s (target_router copied) may head (in_a_row copy p s t (target_router copied) may middle tail) in
      record {
        others = whole.arcs;
        carried = record { enters = first.0; way = whole.way; leaves = last.0 };
        crosses = whole.crosses;
      }

pub covered_deliveries_are_carried : CoveredDeliveriesAreCarried
covered_deliveries_are_carried copy net copied ends class covers p of arcs carried = carries_alike copy net copied ends class covers p of arcs carried

pub closed_copies_stop : ClosedCopiesStop
closed_copies_stop copy net copied ends whole sides opened are covers shown forwarding p of arcs delivers =
    let alike : CarriesAlike copy copied p arcs = carries_alike copy net copied ends whole covers p of arcs delivers.carried in
    blocked_carries_none copy opened copied whole sides are shown p of alike.others alike.carried

pub closed_copies_force_waypoints : ClosedCopiesForceWaypoints
closed_copies_force_waypoints copy net copied ends whole sides opened are covers shown forwarding p of arcs delivers =
    let alike : CarriesAlike copy copied p arcs = carries_alike copy net copied ends whole covers p of arcs delivers.carried in
    alike.crosses (through_crosses copy opened copied whole sides are shown p of alike.others alike.carried)

-- what covers a copy covers what the copy covers
pub covers_in_turn : CoversInTurn
covers_in_turn last copy net last_ends copied ends class outer inner =
    let place : ℕ → ℕ = λ u. outer.place (inner.place u) in
    record {
      place = place;
      arcs = λ (p : Packet) (of : IsOfClass class p) arc is permits.
          let way : HasWay copy p (inner.place (tail_router arc)) (inner.place (head_router arc)) (OverWaypoint arc) = inner.arcs p of arc is permits in
          more last p (place (tail_router arc)) (place (head_router arc)) (CrossesWaypoint way.arcs) (OverWaypoint arc) way.crosses
          (along last copy last_ends copied class outer p of way.arcs (inner.place (tail_router arc)) (inner.place (head_router arc)) way.way);
      enters = λ (p : Packet) (of : IsOfClass class p) (e : Enters net ends p).
          let near = inner.enters p of e in
          let far = outer.enters p of near.0 in
          let way : HasWay copy p (source_router copied) (inner.place (source_router ends)) ⊥ = near.1 in
          let rest : HasWay last p (outer.place (source_router copied)) (place (source_router ends)) ⊥ =
          more last p (outer.place (source_router copied)) (place (source_router ends)) (CrossesWaypoint way.arcs) ⊥ way.crosses
          (along last copy last_ends copied class outer p of way.arcs (source_router copied) (inner.place (source_router ends)) way.way) in
          (far.0, in_a_row last p (source_router last_ends) (outer.place (source_router copied)) (place (source_router ends)) ⊥ far.1 rest);
      leaves = λ (p : Packet) (of : IsOfClass class p) (l : Leaves net ends p).
          let near = inner.leaves p of l in
          let far = outer.leaves p of near.0 in
          let way : HasWay copy p (inner.place (target_router ends)) (target_router copied) ⊥ = near.1 in
          let first : HasWay last p (place (target_router ends)) (outer.place (target_router copied)) ⊥ =
          more last p (place (target_router ends)) (outer.place (target_router copied)) (CrossesWaypoint way.arcs) ⊥ way.crosses
          (along last copy last_ends copied class outer p of way.arcs (inner.place (target_router ends)) (target_router copied) way.way) in
          (far.0, in_a_row last p (place (target_router ends)) (outer.place (target_router copied)) (target_router last_ends) ⊥ first far.1);
    }
