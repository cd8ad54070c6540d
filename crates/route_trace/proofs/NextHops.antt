-- The links of the steps that attain a router's distance are its next hops.
use Rattle.std.proofs.Common.{◌≡◌, ℕ, ◌+◌, ◌<◌, ◌≤◌, true, Option, Some, None, List, [], ◌∷◌, length, get_or, map, refl, sym, ◌∙◌, ap, subst, arith}
use Rattle.std.specs.Prelude.{slice_index, AllPairs, Contains, ◌↔◌, ◌==◌}
use Rattle.std.specs.List.{filter}
use Rattle.std.specs.List.Sorted.{IsStrictlyIncreasing}
use Rattle.std.proofs.lemmas.Bool.{false≢true, eqb-true, eq-eqb, and_parts, and_from}
use Rattle.std.proofs.lemmas.List.{get_or-map, length-map}
use Rattle.std.proofs.lemmas.List.Kept.{AllPairs-filter}
use Rattle.std.proofs.lemmas.List.Elements.{Contains-get_or}
use Rattle.std.proofs.lemmas.Option.{none-some, same_Some, slice_get_within}
use Rattle.arc_base.specs.declared.prefix.Prefix.{Prefix}
use Rattle.arc_base.specs.declared.place.Link.{Link}
use Rattle.arc_base.proofs.Items.{from_map, Contains-map, from_filter, Contains-filter}
use Rattle.net_model.specs.declared.rows.Network.{Network}
use Rattle.net_model.specs.Routing.{FailureSet, DistanceMap, tail_router, head_router, cost, IsStable}
use Rattle.net_model.specs.Validity.{IsValid}
use Rattle.net_laws.proofs.StableMaps.{cost-pos}
use Rattle.route_trace.specs.declared.steps.Step.{Step}
use Rattle.route_trace.specs.Routes.{distance_map, Owns, AreDistances, IsNextHop, AreNextHops}
use Rattle.route_trace.specs.Steps.{step_of, IsUsableStep, AreSteps, is_sum, attains, is_hop, hops_of}

-- a sum that comes out
record Sums (o : Option ℕ) (step : ℕ) (r : Option ℕ) : Type 0 where
  pub rest : ℕ
  pub head : r ≡ Some rest
  pub tail : o ≡ Some (step + rest)

sums_from : (o : Option ℕ) (step : ℕ) (r : Option ℕ) → is_sum o step r ≡ true → Sums o step r
sums_from None step r e = absurd (false≢true e)
sums_from (Some n) step None e = absurd (false≢true e)
sums_from (Some n) step (Some rest) e = record { rest = rest; head = refl; tail = ap Some (eqb-true n (step + rest) e) }

sums_to : (step rest : ℕ) (o r : Option ℕ) → r ≡ Some rest → o ≡ Some (step + rest) → is_sum o step r ≡ true
sums_to step rest o r head tail =
    ap (λ (x : Option ℕ). is_sum x step r) tail ∙ ap (λ (x : Option ℕ). is_sum (Some (step + rest)) step x) head ∙ eq-eqb (step + rest) (step + rest) refl

link_number : (hops : List Step) (k : ℕ) (s : Step) → k < length hops → slice_index (map (λ (l : Link). l.0) (map (λ (t : Step). t.link) hops)) k ≡ (get_or hops k s).link.0
link_number hops k s within =
    get_or-map (λ (l : Link). l.0) (map (λ (t : Step). t.link) hops) k s.link 0 (omega (arith, within, length-map hops (λ (t : Step). t.link)))
    ∙ ap (λ (l : Link). l.0) (get_or-map (λ (t : Step). t.link) hops k s s.link within)

-- steps of one router that rise have links that rise
rising_links : (at : ℕ) (hops : List Step) → AllPairs (λ (s t : Step). s.tail.0 ≡ t.tail.0 → s.link.0 < t.link.0) hops →
    ((s : Step) → Contains hops s → s.tail.0 ≡ at) → IsStrictlyIncreasing (map (λ (l : Link). l.0) (map (λ (s : Step). s.link) hops))
rising_links at [] pairs same k within = absurd (omega (arith, within))
rising_links at (s ∷ hops) pairs same k within =
    let inside : k + 1 < length (s ∷ hops) =
    omega (arith, within, length-map (map (λ (t : Step). t.link) (s ∷ hops)) (λ (l : Link). l.0), length-map (s ∷ hops) (λ (t : Step). t.link)) in
    let first : k < length (s ∷ hops) = omega (arith, inside) in
    let below : (get_or (s ∷ hops) k s).link.0 < (get_or (s ∷ hops) (k + 1) s).link.0 =
    pairs k (k + 1) s (omega arith) inside
    (same (get_or (s ∷ hops) k s) (Contains-get_or (s ∷ hops) k s first) ∙ sym (same (get_or (s ∷ hops) (k + 1) s) (Contains-get_or (s ∷ hops) (k + 1) s inside))) in
    omega (arith, below, link_number (s ∷ hops) k s first, link_number (s ∷ hops) (k + 1) s inside)

module _ (net : Network) (to : Prefix) (failed : FailureSet) (steps : List Step) (are : AreSteps net to failed (length net.links) steps) (d : DistanceMap) (at : ℕ) where
  from_hop : (step : Step) → Contains steps step → is_hop d at step ≡ true → IsNextHop net to failed d at step.link
  from_hop step among hop =
      let parts : ((step.tail.0 == at) ≡ true) × (attains d step ≡ true) = and_parts (step.tail.0 == at) (attains d step) hop in
      let u : IsUsableStep net to failed (length net.links) step = are.sound step among in
      let sum : Sums (d step.tail.0) step.cost (d step.head.0) = sums_from (d step.tail.0) step.cost (d step.head.0) parts.1 in
      record {
        arc = u.arc;
        attains = record {
          usable = u.usable;
          rest = sum.rest;
          head = sym (ap (λ (x : Step). d x.head.0) u.step_is) ∙ sum.head;
          tail = sym (ap (λ (x : Step). d x.tail.0) u.step_is) ∙ sum.tail ∙ ap (λ (x : Step). Some (x.cost + sum.rest)) u.step_is;
        };
        tail = sym (ap (λ (x : Step). x.tail.0) u.step_is) ∙ eqb-true step.tail.0 at parts.0;
        link_is = sym (ap (λ (x : Step). x.link.0) u.step_is);
      }

  to_hop : (link : Link) → IsNextHop net to failed d at link → Contains (hops_of steps d at) link
  to_hop link h =
      let among : Contains steps (step_of net h.arc) =
      are.complete h.arc h.attains.usable (slice_get_within net.links h.arc.link h.arc.row h.attains.usable.is_arc.link) in
      let hop : is_hop d at (step_of net h.arc) ≡ true =
      and_from (tail_router h.arc == at) (attains d (step_of net h.arc)) (eq-eqb (tail_router h.arc) at h.tail)
      (sums_to (cost net h.arc) h.attains.rest (d (tail_router h.arc)) (d (head_router h.arc)) h.attains.head h.attains.tail) in
      let same : ◌≡◌ {A = Link} (record { 0 = h.arc.link }) link = ap (λ (n : ℕ). record { 0 = n }) h.link_is in
      subst (Contains (hops_of steps d at)) same
      (Contains-map (λ (s : Step). s.link) (filter (is_hop d at) steps) (step_of net h.arc) (Contains-filter (is_hop d at) steps (step_of net h.arc) among hop))

  each_hop : (link : Link) → Contains (hops_of steps d at) link ↔ IsNextHop net to failed d at link
  each_hop link = (
    λ in_.
        let s : (s : Step) × Contains (filter (is_hop d at) steps) s × (s.link ≡ link) = from_map (λ (s : Step). s.link) (filter (is_hop d at) steps) link in_ in
        let kept : Contains steps s.0 × (is_hop d at s.0 ≡ true) = from_filter (is_hop d at) steps s.0 s.1 in
        subst (IsNextHop net to failed d at) s.2 (from_hop s.0 kept.0 kept.1),
    to_hop link,
  )

  at_router : (s : Step) → Contains (filter (is_hop d at) steps) s → s.tail.0 ≡ at
  at_router s in_ =
      let kept : Contains steps s × (is_hop d at s ≡ true) = from_filter (is_hop d at) steps s in_ in
      eqb-true s.tail.0 at (and_parts (s.tail.0 == at) (attains d s) kept.1).0

  pub hops_are_next : AreNextHops net to failed d at (hops_of steps d at)
  hops_are_next = record {
    each = each_hop;
    rising = rising_links at (filter (is_hop d at) steps) (AllPairs-filter (λ s t. s.tail.0 ≡ t.tail.0 → s.link.0 < t.link.0) (is_hop d at) steps are.rising) at_router;
  }

no_links : (links : List Link) → ((l : Link) → Contains links l → ⊥) → links ≡ []
no_links [] none = refl
no_links (l ∷ links) none = absurd (none l (0, omega arith, refl))

-- a router without a distance has no next hop
pub no_route_no_hop : (net : Network) (to : Prefix) (failed : FailureSet) (d : DistanceMap) (at : ℕ) (links : List Link) →
    AreNextHops net to failed d at links → d at ≡ None → links ≡ []
no_route_no_hop net to failed d at links are none =
    no_links links (λ l in_. let h : IsNextHop net to failed d at l = (are.each l).0 in_ in
    none-some (cost net h.arc + h.attains.rest) (sym none ∙ ap d (sym h.tail) ∙ h.attains.tail))

-- nor has the owner
pub owner_no_hop : (net : Network) → IsValid net → (to : Prefix) (failed : FailureSet) (distances : List (Option ℕ)) (at : ℕ) (links : List Link) →
    AreDistances net to failed distances → Owns net to at → AreNextHops net to failed (distance_map distances) at links → links ≡ []
owner_no_hop net valid to failed distances at links dist owns are =
    let stable : IsStable net to at failed (distance_map distances) = dist.stable at owns in
    no_links links (λ l in_. let h : IsNextHop net to failed (distance_map distances) at l = (are.each l).0 in_ in
    let positive : 1 ≤ cost net h.arc = cost-pos net valid h.arc h.attains.usable.is_arc in
    let sum : 0 ≡ cost net h.arc + h.attains.rest =
    same_Some 0 (cost net h.arc + h.attains.rest) (sym stable.at_owner ∙ ap (distance_map distances) (sym h.tail) ∙ h.attains.tail) in
    omega (arith, positive, sum))

-- the same, of what stands for the steps and the distances
pub are_next_hops : (net : Network) (to : Prefix) (failed : FailureSet) (steps : List Step) → AreSteps net to failed (length net.links) steps →
    (distances : List (Option ℕ)) (at : ℕ) (xs : List Step) (ds : List (Option ℕ)) (links : List Link) → xs ≡ steps → ds ≡ distances →
    links ≡ hops_of xs (distance_map ds) at → AreNextHops net to failed (distance_map distances) at links
are_next_hops net to failed steps are distances at xs ds links of_steps of_distances is =
    let same : links ≡ hops_of steps (distance_map distances) at =
    is ∙ ap (λ (ys : List Step). hops_of ys (distance_map ds) at) of_steps ∙ ap (λ (es : List (Option ℕ)). hops_of steps (distance_map es) at) of_distances in
    subst (AreNextHops net to failed (distance_map distances) at) (sym same) (hops_are_next net to failed steps are (distance_map distances) at)
