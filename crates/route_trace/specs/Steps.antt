-- What the calls keep of the usable arcs: a step for each, with its link, its two routers and its
-- cost.
use Rattle.std.specs.Prelude.{◌≡◌, ℕ, ◌+◌, ◌<◌, ◌≤◌, ◌==◌, ◌&&◌, Bool, false, if◌then◌else◌, Option}
use Rattle.std.specs.Prelude.{Some, None, MatchOption, List, length, filter, map, slice_get}
use Rattle.std.specs.Prelude.{AllPairs, Contains, min, Vec}
use Rattle.std.specs.declared.alloc.Global.{Global}
use Rattle.arc_base.specs.declared.place.Link.{Link}
use Rattle.arc_base.specs.declared.prefix.Prefix.{Prefix}
use Rattle.arc_base.specs.declared.place.Router.{Router}
use Rattle.net_model.specs.declared.rows.Network.{Network}
use Rattle.net_model.specs.declared.tables.RoutedLink.{RoutedLink}
use Rattle.net_model.specs.Routing.{Arc, FailureSet, DistanceMap, IsArc, IsUsable, cost}
use Rattle.route_trace.specs.Routes.{flagged, distance_map}
use Rattle.route_trace.specs.declared.steps.Step.{Step}
use Rattle.route_trace.specs.declared.steps.End.{End}
use Rattle.route_trace.specs.declared.steps.End.TheVariants.{Tail, Head}

-- the step of an arc: its link, the routers that it leads from and to, and its cost
abbrev pub step_of : Network → Arc → Step
step_of net arc = record {
  link = record { 0 = arc.link };
  tail = arc.tail.router;
  head = arc.head.router;
  cost = cost net arc;
}

-- the step is that of an arc of the link in this direction
pub record IsStepAt (net : Network) (link : ℕ) (from_a : Bool) (step : Step) : Type 0 where
  pub arc : Arc
  pub is_arc : IsArc net arc
  pub link_is : arc.link ≡ link
  pub direction : arc.from_a ≡ from_a
  pub step_is : step ≡ step_of net arc

-- no arc of the network is over the link in this direction
abbrev pub HasNoArc : Network → ℕ → Bool → Type 0
HasNoArc net link from_a = (arc : Arc) → IsArc net arc → arc.link ≡ link → arc.from_a ≡ from_a → ⊥

-- the flag of the link's arc in this direction
abbrev pub flag_of : RoutedLink → Bool → Bool
flag_of flags from_a = if from_a then flags.from_a else flags.from_b

-- the step is that of a usable arc over a link before this place
pub record IsUsableStep (net : Network) (to : Prefix) (failed : FailureSet) (places : ℕ)
    (step : Step) : Type 0 where
  pub arc : Arc
  pub usable : IsUsable net to failed arc
  pub before : arc.link < places
  pub step_is : step ≡ step_of net arc

-- the steps are those of the usable arcs over the links before this place, and rising in their
-- links from each router
pub record AreSteps (net : Network) (to : Prefix) (failed : FailureSet) (places : ℕ)
    (steps : List Step) : Type 0 where
  pub sound : (step : Step) → Contains steps step → IsUsableStep net to failed places step
  pub complete : (arc : Arc) → IsUsable net to failed arc → arc.link < places →
      Contains steps (step_of net arc)
  pub rising : AllPairs (λ s t. s.tail.0 ≡ t.tail.0 → s.link.0 < t.link.0) steps

-- the step leads between two of the routers, and has a cost that OSPF can advertise
pub record IsFit (routers : ℕ) (step : Step) : Type 0 where
  pub tail : step.tail.0 < routers
  pub head : step.head.0 < routers
  pub cost : step.cost ≤ 65535

-- the router at this end of a step
abbrev pub end_router : End → Step → Router
end_router Tail step = step.tail
end_router Head step = step.head

-- the steps that have the router at this end
abbrev pub steps_at : End → List Step → ℕ → List Step
steps_at end steps router = filter (λ s. (end_router end s).0 == router) steps

-- the number is the least that the set holds, or none where the set is empty
abbrev pub IsLeastOf : (ℕ → Type 0) → Option ℕ → Type 0
IsLeastOf P o = MatchOption o ((n : ℕ) → P n → ⊥) (λ least. P least × ((n : ℕ) → P n → least ≤ n))

-- one of the steps leads from the router, and gives it this distance where all of them lead to a
-- router with that one
pub record IsGiven (steps : List Step) (from router distance : ℕ) : Type 0 where
  pub step : Step
  pub among : Contains steps step
  pub tail : step.tail.0 ≡ router
  pub sum : distance ≡ from + step.cost

-- the router is offered the distance: a step leads from it to a router with a distance, and this is
-- the step's cost and that distance
pub record IsOffered (steps : List Step) (d : DistanceMap) (router distance : ℕ) : Type 0 where
  pub step : Step
  pub among : Contains steps step
  pub tail : step.tail.0 ≡ router
  pub rest : ℕ
  pub head : d step.head.0 ≡ Some rest
  pub sum : distance ≡ step.cost + rest

-- the distances are stable over the steps: the owner has 0, and every other router the least that
-- it is offered
pub record IsStableOver (steps : List Step) (owner : ℕ) (d : DistanceMap) : Type 0 where
  pub at_owner : d owner ≡ Some 0
  pub elsewhere : (u : ℕ) → (u ≡ owner → ⊥) → IsLeastOf (IsOffered steps d u) (d u)

-- the groups are the steps by the router at this end: the group of each router, in order
pub record AreGroups (end : End) (steps : List Step) (routers : ℕ)
    (groups : List (Vec Step Global)) : Type 0 where
  pub whole : length groups ≡ routers
  pub each : (router : ℕ) (group : Vec Step Global) → slice_get groups router ≡ Some group →
      group.items ≡ steps_at end steps router

-- the distance that the router waits with: its own, where it is not settled
abbrev pub waiting : List (Option ℕ) → List Bool → ℕ → Option ℕ
waiting distances settled router =
    if flagged settled router then None else distance_map distances router

-- the router waits with this distance, and none waits with a lesser one
pub record IsNearest (waits : DistanceMap) (router distance : ℕ) : Type 0 where
  pub here : waits router ≡ Some distance
  pub least : (u n : ℕ) → waits u ≡ Some n → distance ≤ n

-- the lesser of two numbers, of which the one may be missing
abbrev pub lesser : Option ℕ → ℕ → ℕ
lesser None n = n
lesser (Some m) n = min m n

-- whether the one distance is the other and a cost, where both are there
abbrev pub is_sum : Option ℕ → ℕ → Option ℕ → Bool
is_sum None step rest = false
is_sum (Some n) step None = false
is_sum (Some n) step (Some rest) = n == step + rest

-- whether the step attains the distance of the router that it leads from
abbrev pub attains : DistanceMap → Step → Bool
attains d step = is_sum (d step.tail.0) step.cost (d step.head.0)

-- whether the step leads from the router and attains its distance
abbrev pub is_hop : DistanceMap → ℕ → Step → Bool
is_hop d router step = (step.tail.0 == router) && attains d step

-- the links of the steps that lead from the router and attain its distance
abbrev pub hops_of : List Step → DistanceMap → ℕ → List Link
hops_of steps d router = map (λ s. s.link) (filter (is_hop d router) steps)
