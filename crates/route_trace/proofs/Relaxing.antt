-- What the steps to a router that settles offer to the others.
use Rattle.std.proofs.Common.{◌≡◌, ℕ, ◌+◌, ◌<◌, ◌≤◌, ◌⊎◌, ⊎_elim, inl, inr, Option, Some, None, List, [], ◌∷◌, ◌++◌, length, take, get_or, set, sym, ◌∙◌, ap, subst}
use Rattle.std.specs.Prelude.{Contains}
use Rattle.std.proofs.lemmas.Bool.{cases_eq}
use Rattle.std.proofs.lemmas.List.{get_or_default, take_more, take_all, get_or-set_same, get_or-set_other}
use Rattle.std.proofs.lemmas.List.Elements.{Contains-push, Contains-push_cases, Contains-append_left}
use Rattle.net_model.specs.Routing.{DistanceMap}
use Rattle.route_trace.specs.declared.steps.Step.{Step}
use Rattle.route_trace.specs.Routes.{distance_map}
use Rattle.route_trace.specs.Steps.{IsGiven, IsLeastOf, lesser}
use Rattle.route_trace.proofs.Least.{same_set, one_more}

more_taken : (xs : List Step) (i : ℕ) (step : Step) → i < length xs → get_or xs i step ≡ step → take (i + 1) xs ≡ take i xs ++ (step ∷ [])
more_taken xs i step within is = take_more xs i step within ∙ ap (λ (x : Step). take i xs ++ (x ∷ [])) is

-- one step more
pub relaxed_more : (was : DistanceMap) (xs : List Step) (i : ℕ) (step : Step) (from : ℕ) (now : List (Option ℕ)) → i < length xs → get_or xs i step ≡ step →
    step.tail.0 < length now →
    ((u : ℕ) → IsLeastOf (λ n. (was u ≡ Some n) ⊎ IsGiven (take i xs) from u n) (distance_map now u)) →
    (u : ℕ) → IsLeastOf (λ n. (was u ≡ Some n) ⊎ IsGiven (take (i + 1) xs) from u n)
    (distance_map (set now step.tail.0 (Some (lesser (get_or now step.tail.0 None) (from + step.cost)))) u)
relaxed_more was xs i step from now within is inside before u =
    let grown : take (i + 1) xs ≡ take i xs ++ (step ∷ []) = more_taken xs i step within is in
    let stays : (k : ℕ) → IsGiven (take i xs) from u k → IsGiven (take (i + 1) xs) from u k =
    λ k g. record {
      step = g.step;
      among = subst (λ (ys : List Step). Contains ys g.step) (sym grown) (Contains-append_left (take i xs) (step ∷ []) g.step g.among);
      tail = g.tail;
      sum = g.sum;
    } in
    let cases : (k : ℕ) → IsGiven (take (i + 1) xs) from u k → IsGiven (take i xs) from u k ⊎ ((step.tail.0 ≡ u) × (k ≡ from + step.cost)) =
    λ k g. ⊎_elim
    (λ (old : Contains (take i xs) g.step). inl (record { step = g.step; among = old; tail = g.tail; sum = g.sum }))
    (λ (new : step ≡ g.step). inr (ap (λ (x : Step). x.tail.0) new ∙ g.tail, g.sum ∙ ap (λ (x : Step). from + x.cost) (sym new)))
    (Contains-push_cases (take i xs) step g.step (subst (λ (ys : List Step). Contains ys g.step) grown g.among)) in
    elim (cases_eq u step.tail.0) [
      | inr off ↦
          let same : distance_map (set now step.tail.0 (Some (lesser (get_or now step.tail.0 None) (from + step.cost)))) u ≡ distance_map now u =
          get_or-set_other now step.tail.0 u (Some (lesser (get_or now step.tail.0 None) (from + step.cost))) None off in
          subst (IsLeastOf (λ n. (was u ≡ Some n) ⊎ IsGiven (take (i + 1) xs) from u n)) (sym same)
          (same_set (λ n. (was u ≡ Some n) ⊎ IsGiven (take i xs) from u n) (λ n. (was u ≡ Some n) ⊎ IsGiven (take (i + 1) xs) from u n) (distance_map now u)
          (λ k h. ⊎_elim (λ (e : was u ≡ Some k). inl e) (λ (g : IsGiven (take i xs) from u k). inr (stays k g)) h)
          (λ k h. ⊎_elim (λ (e : was u ≡ Some k). inl e)
          (λ (g : IsGiven (take (i + 1) xs) from u k). ⊎_elim (λ (old : IsGiven (take i xs) from u k). inr old)
          (λ (new : (step.tail.0 ≡ u) × (k ≡ from + step.cost)). absurd (off (sym new.0))) (cases k g)) h)
          (before u))
      | inl at ↦
          let same : distance_map (set now step.tail.0 (Some (lesser (get_or now step.tail.0 None) (from + step.cost)))) u ≡
          Some (lesser (distance_map now u) (from + step.cost)) =
          ap (distance_map (set now step.tail.0 (Some (lesser (get_or now step.tail.0 None) (from + step.cost))))) at
          ∙ get_or-set_same now step.tail.0 (Some (lesser (get_or now step.tail.0 None) (from + step.cost))) None inside
          ∙ ap (λ (v : ℕ). Some (lesser (get_or now v None) (from + step.cost))) (sym at) in
          subst (IsLeastOf (λ n. (was u ≡ Some n) ⊎ IsGiven (take (i + 1) xs) from u n)) (sym same)
          (same_set (λ n. ((was u ≡ Some n) ⊎ IsGiven (take i xs) from u n) ⊎ (n ≡ from + step.cost)) (λ n. (was u ≡ Some n) ⊎ IsGiven (take (i + 1) xs) from u n)
          (Some (lesser (distance_map now u) (from + step.cost)))
          (λ k h. ⊎_elim
          (λ (old : (was u ≡ Some k) ⊎ IsGiven (take i xs) from u k). ⊎_elim (λ (e : was u ≡ Some k). inl e) (λ (g : IsGiven (take i xs) from u k). inr (stays k g)) old)
          (λ (e : k ≡ from + step.cost). inr (record {
            step = step;
            among = subst (λ (ys : List Step). Contains ys step) (sym grown) (Contains-push (take i xs) step);
            tail = sym at;
            sum = e;
          })) h)
          (λ k h. ⊎_elim (λ (e : was u ≡ Some k). inl (inl e))
          (λ (g : IsGiven (take (i + 1) xs) from u k). ⊎_elim (λ (old : IsGiven (take i xs) from u k). inl (inr old))
          (λ (new : (step.tail.0 ≡ u) × (k ≡ from + step.cost)). inr new.1) (cases k g)) h)
          (one_more (λ n. (was u ≡ Some n) ⊎ IsGiven (take i xs) from u n) (distance_map now u) (from + step.cost) (before u)))
    ]

-- the same, as the loop writes it
pub relaxed_next : (was : DistanceMap) (xs : List Step) (i : ℕ) (z : Step) (from : ℕ) (now after : List (Option ℕ)) → i < length xs →
    (get_or xs i z).tail.0 < length now →
    after ≡ set now (get_or xs i z).tail.0 (Some (lesser (distance_map now (get_or xs i z).tail.0) (from + (get_or xs i z).cost))) →
    ((u : ℕ) → IsLeastOf (λ n. (was u ≡ Some n) ⊎ IsGiven (take i xs) from u n) (distance_map now u)) →
    (u : ℕ) → IsLeastOf (λ n. (was u ≡ Some n) ⊎ IsGiven (take (i + 1) xs) from u n) (distance_map after u)
relaxed_next was xs i z from now after within inside is before =
    subst (λ (ys : List (Option ℕ)). (u : ℕ) → IsLeastOf (λ n. (was u ≡ Some n) ⊎ IsGiven (take (i + 1) xs) from u n) (distance_map ys u))
    (sym is) (relaxed_more was xs i (get_or xs i z) from now within (get_or_default xs i (get_or xs i z) z within) inside before)

-- after the last step all are gone through
pub relaxed_all : (was : DistanceMap) (xs : List Step) (i from : ℕ) (now : DistanceMap) → length xs ≤ i →
    ((u : ℕ) → IsLeastOf (λ n. (was u ≡ Some n) ⊎ IsGiven (take i xs) from u n) (now u)) →
    (u : ℕ) → IsLeastOf (λ n. (was u ≡ Some n) ⊎ IsGiven xs from u n) (now u)
relaxed_all was xs i from now past done u =
    subst (λ (ys : List Step). IsLeastOf (λ n. (was u ≡ Some n) ⊎ IsGiven ys from u n) (now u)) (take_all i xs past) (done u)
