-- A route that is left gives the source a distance, and a distance comes with a route.
use Rattle.std.proofs.Common.{◌≡◌, ℕ, zero, suc, ◌+◌, ◌<◌, ◌≤◌, inl, inr, Bool, Option, Some, List, [], ◌∷◌, length, arith}
use Rattle.std.proofs.lemmas.Bool.Decides.{eqb_tells}
use Rattle.arc_base.specs.declared.prefix.Prefix.{Prefix}
use Rattle.net_model.specs.declared.policies.Class.{Class}
use Rattle.net_model.specs.declared.rows.Network.{Network}
use Rattle.net_model.specs.Packets.{first_packet}
use Rattle.net_model.specs.Routing.{Arc, IsStable, Offers, cost, head_router}
use Rattle.net_model.specs.Forwarding.{Ends, AreEnds, Enters, IsStuck, source_router, target_router}
use Rattle.net_model.specs.Policies.{IsClear}
use Rattle.net_model.specs.Validity.{IsValid}
use Rattle.net_model.specs.Witnesses.{Path}
use Rattle.net_model.proofs.Packets.{first_is_of}
use Rattle.net_laws.proofs.StableMaps.{cost-pos, head_in, reached, value_of}
use Rattle.net_laws.proofs.FailedLinks.{Alive}
use Rattle.net_laws.proofs.RightPaths.{known, not_stuck}
use Rattle.net_laws.proofs.RightCuts.{source_in, stuck_at_source}
use Rattle.net_laws.proofs.Existence.{some_stable_map}
use Rattle.net_laws.specs.Breaking.{ReachesUnder}
use Rattle.net_laws.specs.Routes.{Passes, Route, HasRoute, RoutesDecide}

-- a route is a path of which no link has failed
route_path : (net : Network) (to : Prefix) (failed : ℕ → Bool) (arcs : List Arc) (u v : ℕ) → Route net to failed u arcs v → Path net to u arcs v
route_path net to failed [] u v route = route
route_path net to failed (arc ∷ arcs) u v route =
    (route.0.is_arc, route.0.routed, route.1, route_path net to failed arcs (head_router arc) v route.2)

route_alive : (net : Network) (to : Prefix) (failed : ℕ → Bool) (arcs : List Arc) (u v : ℕ) → Route net to failed u arcs v → Alive failed arcs
route_alive net to failed [] u v route = tt
route_alive net to failed (arc ∷ arcs) u v route = (route.0.left, route_alive net to failed arcs (head_router arc) v route.2)

module _ (net : Network) (valid : IsValid net) (to : Prefix) (t : ℕ) (failed : ℕ → Bool) (d : ℕ → Option ℕ) (stable : IsStable net to t failed d) where
  -- from a router with a distance a route leads to the owner
  pub route_from : (bound u n : ℕ) → n < bound → u < length net.routers → d u ≡ Some n → (arcs : List Arc) × Route net to failed u arcs t
  route_from zero u n below within known = absurd (omega arith)
  route_from (suc bound) u n below within known =
      elim (eqb_tells u t) [
        | inl at ↦ ([], at.1)
        | inr off ↦
            let o : Offers net to failed d u n = reached net valid to t failed d stable u n within off.1 known in
            let positive : 1 ≤ cost net o.arc = cost-pos net valid o.arc o.usable.is_arc in
            let rest : (arcs : List Arc) × Route net to failed (head_router o.arc) arcs t =
            route_from bound (head_router o.arc) o.rest (omega (arith, o.sum)) (head_in net valid o.arc o.usable.is_arc) o.head in
            (o.arc ∷ rest.0, (o.usable, o.tail, rest.1))
      ]

-- where packets get through a route is left
pub route_when_reached : (net : Network) → IsValid net → (ends : Ends) (class : Class) → AreEnds net class ends → (failed : ℕ → Bool) →
    ReachesUnder net ends class failed → HasRoute net ends failed
route_when_reached net valid ends class are failed reaches =
    let map : (d : ℕ → Option ℕ) × IsStable net ends.to (target_router ends) failed d = some_stable_map net valid ends.to (target_router ends) failed in
    let got : Enters net ends (first_packet class) × ((arcs : List Arc) → ¬ IsStuck net ends failed map.0 (first_packet class) arcs) =
    reaches map.0 map.1 (first_packet class) (first_is_of class) in
    elim (value_of (map.0 (source_router ends))) [
      | inl none ↦ absurd (got.1 [] (stuck_at_source net ends failed map.0 (first_packet class) got.0 none))
      | inr n ↦ route_from net valid ends.to (target_router ends) failed map.0 map.1 (n.0 + 1) (source_router ends) n.0 (omega arith)
          (source_in net valid class ends are) n.1
    ]

-- where a route is left clear packets that enter and leave get through
pub reached_by_route : (net : Network) → IsValid net → (ends : Ends) (class : Class) → IsClear net ends class → Passes net ends class → (failed : ℕ → Bool) →
    HasRoute net ends failed → ReachesUnder net ends class failed
reached_by_route net valid ends class clear passes failed route = λ d stable p of. (
  (passes p of).0,
  not_stuck net valid ends class clear failed d stable p of (passes p of).1
      (known net valid ends.to (target_router ends) failed d stable route.0 (source_router ends)
      (route_path net ends.to failed route.0 (source_router ends) (target_router ends) route.1)
      (route_alive net ends.to failed route.0 (source_router ends) (target_router ends) route.1)),
)

pub routes_decide : (net : Network) → IsValid net → RoutesDecide net
routes_decide net valid ends class are clear passes failed = (
  route_when_reached net valid ends class are failed,
  reached_by_route net valid ends class clear passes failed,
)
