-- Under no failures every link of the network is up.
use Rattle.std.proofs.Common.{◌≡◌, ℕ, ◌<◌, ◌≤◌, Bool, true, false, List, [], ◌∷◌, length, refl, arith}
use Rattle.std.proofs.lemmas.Option.{slice_get_within}
use Rattle.arc_base.specs.declared.place.Link.{Link}
use Rattle.arc_base.specs.declared.prefix.Prefix.{Prefix}
use Rattle.net_model.specs.declared.rows.Network.{Network}
use Rattle.net_model.specs.Routing.{Arc, head_router}
use Rattle.net_model.specs.Forwarding.{failures}
use Rattle.net_model.specs.Validity.{IsValid}
use Rattle.net_laws.proofs.Counting.{ind}
use Rattle.net_laws.proofs.FailedLinks.{hits, hits-few}
use Rattle.net_laws.specs.Breaking.{no_link}
use Rattle.net_laws.specs.Routes.{Route, RoutesDecideAllUp}
use Rattle.net_laws.proofs.RightCuts.{none_failed}
use Rattle.net_laws.proofs.LeftRoutes.{route_when_reached, reached_by_route}

no_failure : (b : Bool) → ind b ≤ 0 → b ≡ false
no_failure true few = absurd (omega arith)
no_failure false few = refl

-- where none may fail no link of the network has failed
is_up : (net : Network) (failed : ℕ → Bool) → failures net failed ≤ 0 → (link : ℕ) → link < length net.links → failed link ≡ false
is_up net failed few link within =
    let one : Link = record { 0 = link } in
    let hit : hits failed (one ∷ []) ≤ failures net failed =
    hits-few net failed (one ∷ []) (within, tt) (λ i j d low high. absurd (omega arith)) in
    no_failure (failed link) (omega (arith, hit, few))

still_route : (net : Network) (to : Prefix) (failed : ℕ → Bool) → failures net failed ≤ 0 → (arcs : List Arc) (u v : ℕ) →
    Route net to no_link u arcs v → Route net to failed u arcs v
still_route net to failed few [] u v route = route
still_route net to failed few (arc ∷ arcs) u v route = (
  record {
    is_arc = route.0.is_arc;
    routed = route.0.routed;
    left = is_up net failed few arc.link (slice_get_within net.links arc.link arc.row route.0.is_arc.link);
  },
  route.1,
  still_route net to failed few arcs (head_router arc) v route.2,
)

pub routes_decide_all_up : (net : Network) → IsValid net → RoutesDecideAllUp net
routes_decide_all_up net valid ends class are clear passes = (
  λ reaches. route_when_reached net valid ends class are no_link (λ d stable p of. reaches no_link d (omega (arith, none_failed net)) stable p of),
  λ route. λ failed d few stable p of.
      reached_by_route net valid ends class clear passes failed (route.0, still_route net ends.to failed few route.0 _ _ route.1) d stable p of,
)
