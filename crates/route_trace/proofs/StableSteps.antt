-- Distances that are stable over the steps are stable in the network, and tell which routers have a path left to the owner.
use Rattle.std.proofs.Common.{◌≡◌, ℕ, zero, suc, ◌+◌, ◌<◌, ◌≤◌, inl, inr, Option, Some, None, List, [], ◌∷◌, length, refl, sym, ◌∙◌, ap, subst, arith}
use Rattle.std.specs.Prelude.{IsSome, slice_get, ◌↔◌}
use Rattle.std.proofs.lemmas.Bool.{false≢true, cases_eq}
use Rattle.std.proofs.lemmas.Option.{slice_get_within}
use Rattle.arc_base.specs.declared.prefix.Prefix.{Prefix}
use Rattle.net_model.specs.declared.rows.FaceRow.{FaceRow}
use Rattle.net_model.specs.declared.rows.Network.{Network}
use Rattle.net_model.specs.Routing.{Arc, FailureSet, DistanceMap, Offers, IsStable, head_router, cost}
use Rattle.net_model.specs.Forwarding.{IsHostFace}
use Rattle.net_model.specs.Validity.{IsValid, IsValidFace}
use Rattle.net_model.proofs.Readings.{place_of_item}
use Rattle.net_model.proofs.Hosts.{lies_in, one_host_face}
use Rattle.route_trace.specs.declared.steps.Step.{Step}
use Rattle.net_laws.specs.Routes.{Route}
use Rattle.net_laws.proofs.StableMaps.{cost-pos, head_in}
use Rattle.route_trace.specs.Routes.{distance_map, Owns, HasPathLeft, AreDistances, TellReach}
use Rattle.route_trace.specs.Steps.{step_of, IsUsableStep, AreSteps, IsOffered, IsStableOver}
use Rattle.route_trace.proofs.Least.{same_set, has_least, holds_least}

module _ (net : Network) (to : Prefix) (failed : FailureSet) (steps : List Step) (are : AreSteps net to failed (length net.links) steps) where
  pub to_offer : (d : DistanceMap) (u k : ℕ) → IsOffered steps d u k → Offers net to failed d u k
  to_offer d u k o =
      let s : IsUsableStep net to failed (length net.links) o.step = are.sound o.step o.among in
      let cost_is : o.step.cost ≡ cost net s.arc = ap (λ (x : Step). x.cost) s.step_is in
      record {
        arc = s.arc;
        usable = s.usable;
        tail = sym (ap (λ (x : Step). x.tail.0) s.step_is) ∙ o.tail;
        rest = o.rest;
        head = sym (ap (λ (x : Step). d x.head.0) s.step_is) ∙ o.head;
        sum = omega (arith, o.sum, cost_is);
      }

  pub from_offer : (d : DistanceMap) (u k : ℕ) → Offers net to failed d u k → IsOffered steps d u k
  from_offer d u k o = record {
    step = step_of net o.arc;
    among = are.complete o.arc o.usable (slice_get_within net.links o.arc.link o.arc.row o.usable.is_arc.link);
    tail = o.tail;
    rest = o.rest;
    head = o.head;
    sum = o.sum;
  }

  pub stable_from_steps : (owner : ℕ) (d : DistanceMap) → IsStableOver steps owner d → IsStable net to owner failed d
  stable_from_steps owner d stable = record {
    at_owner = stable.at_owner;
    elsewhere = λ u within off. same_set (IsOffered steps d u) (Offers net to failed d u) (d u) (to_offer d u) (from_offer d u) (stable.elsewhere u off);
  }

pub value_of : (o : Option ℕ) → IsSome o → (n : ℕ) × (o ≡ Some n)
value_of None h = absurd (false≢true h)
value_of (Some n) h = (n, refl)

pub is_some_from : (o : Option ℕ) (n : ℕ) → o ≡ Some n → IsSome o
is_some_from o n e = subst IsSome (sym e) refl

module _ (net : Network) (valid : IsValid net) (to : Prefix) (failed : FailureSet) (owner : ℕ) (d : DistanceMap) (stable : IsStable net to owner failed d) where
  -- from the end of a path backwards each router has a distance
  along_path : (arcs : List Arc) (u : ℕ) → u < length net.routers → Route net to failed u arcs owner → IsSome (d u)
  along_path [] u within path = is_some_from (d u) 0 (ap d path ∙ stable.at_owner)
  along_path (arc ∷ arcs) u within path =
      elim (cases_eq u owner) [
        | inl at ↦ is_some_from (d u) 0 (ap d at ∙ stable.at_owner)
        | inr off ↦
            let rest : (n : ℕ) × (d (head_router arc) ≡ Some n) =
            value_of (d (head_router arc)) (along_path arcs (head_router arc) (head_in net valid arc path.0.is_arc) path.2) in
            let offer : Offers net to failed d u (cost net arc + rest.0) =
            record { arc = arc; usable = path.0; tail = path.1; rest = rest.0; head = rest.1; sum = refl } in
            let least : (m : ℕ) × (d u ≡ Some m) × Offers net to failed d u m × (m ≤ cost net arc + rest.0) =
            has_least (Offers net to failed d u) (d u) (cost net arc + rest.0) (stable.elsewhere u within off) offer in
            is_some_from (d u) least.0 least.1
      ]

  -- and from each router with a distance a path goes down to the owner
  down_path : (bound u n : ℕ) → n < bound → u < length net.routers → d u ≡ Some n → HasPathLeft net to failed u owner
  down_path zero u n below within known = absurd (omega (arith, below))
  down_path (suc bound) u n below within known =
      elim (cases_eq u owner) [
        | inl at ↦ ([], at)
        | inr off ↦
            let o : Offers net to failed d u n = (holds_least (Offers net to failed d u) (d u) n (stable.elsewhere u within off) known).0 in
            let positive : 1 ≤ cost net o.arc = cost-pos net valid o.arc o.usable.is_arc in
            let less : o.rest < bound = omega (arith, o.sum, positive, below) in
            let rest : HasPathLeft net to failed (head_router o.arc) owner =
            down_path bound (head_router o.arc) o.rest less (head_in net valid o.arc o.usable.is_arc) o.head in
            (o.arc ∷ rest.0, (o.usable, o.tail, rest.1))
      ]

  pub tells_reach : (u : ℕ) → u < length net.routers → IsSome (d u) ↔ HasPathLeft net to failed u owner
  tells_reach u within = (
    λ some. let n : (n : ℕ) × (d u ≡ Some n) = value_of (d u) some in down_path (n.0 + 1) u n.0 (omega arith) within n.1,
    λ path. along_path path.0 u within path.1,
  )

-- the owner's interface is that of the host network
owner_face : (net : Network) (to : Prefix) (u : ℕ) (owns : Owns net to u) → IsHostFace net to owns.face
owner_face net to u owns = record { is_face = owns.is_face; lies = lies_in to owns.face to owns.host (λ a holds. holds) }

-- a host network has one owner
pub one_owner : (net : Network) → IsValid net → (to : Prefix) (u v : ℕ) → Owns net to u → Owns net to v → u ≡ v
one_owner net valid to u v a b =
    let face : a.face ≡ b.face = one_host_face net valid to a.face b.face (owner_face net to u a) (owner_face net to v b) in
    sym a.router ∙ ap (λ (f : FaceRow). f.router.0) face ∙ b.router

-- the owner is a router of the network
pub owner_within : (net : Network) → IsValid net → (to : Prefix) (u : ℕ) → Owns net to u → u < length net.routers
owner_within net valid to u owns =
    let i : (i : ℕ) × (slice_get net.faces i ≡ Some owns.face) = place_of_item net.faces owns.face owns.is_face in
    let V : IsValidFace net i.0 owns.face = valid.faces i.0 owns.face i.1 in
    omega (arith, V.router, owns.router)

-- the distances over the steps are those of the network
pub are_distances : (net : Network) → IsValid net → (to : Prefix) (failed : FailureSet) (steps : List Step) (owner : ℕ) (distances : List (Option ℕ)) →
    AreSteps net to failed (length net.links) steps → Owns net to owner → length distances ≡ length net.routers →
    IsStableOver steps owner (distance_map distances) → AreDistances net to failed distances
are_distances net valid to failed steps owner distances are owns whole stable = record {
  whole = whole;
  stable = λ other also. subst (λ (v : ℕ). IsStable net to v failed (distance_map distances)) (one_owner net valid to owner other owns also)
      (stable_from_steps net to failed steps are owner (distance_map distances) stable);
}

pub tell_reach : (net : Network) → IsValid net → (to : Prefix) (failed : FailureSet) (distances : List (Option ℕ)) → AreDistances net to failed distances →
    TellReach net to failed distances
tell_reach net valid to failed distances are owner router owns within =
    tells_reach net valid to failed owner (distance_map distances) (are.stable owner owns) router within
