-- What stays true while routers settle.
use Rattle.std.proofs.Common.{◌≡◌, ℕ, ◌+◌, ◌*◌, ◌^◌, ◌<◌, ◌≤◌, ◌⊎◌, inl, inr, Bool, true, false, not, Option, Some, None, List, length, set, get_or, replicate, sym, ◌∙◌, ap, subst, arith}
use Rattle.std.specs.Prelude.{All, count_by, ◌==◌, if◌then◌else◌}
use Rattle.std.proofs.lemmas.Bool.{cases_lt, cases_Bool}
use Rattle.std.proofs.lemmas.List.{length-set, length-replicate, get_or-replicate, get_or-set_same, get_or-set_other, get_or_past}
use Rattle.std.proofs.lemmas.List.Elements.{All-filter}
use Rattle.std.proofs.lemmas.List.Sums.{sum_by-set}
use Rattle.std.proofs.lemmas.Option.{none-some}
use Rattle.route_trace.specs.declared.steps.Step.{Step}
use Rattle.route_trace.specs.declared.steps.End.TheVariants.{Head}
use Rattle.route_trace.specs.Routes.{flagged, distance_map}
use Rattle.route_trace.specs.Steps.{IsFit, IsGiven, IsLeastOf, IsStableOver, IsNearest, waiting, steps_at}
use Rattle.route_trace.proofs.Settling.{IsHalfway, halfway_more, finished, small_more}

-- how many routers are still to be settled
abbrev pub unsettled : List Bool → ℕ
unsettled settled = count_by not settled

pub record IsUnderWay (steps : List Step) (routers owner : ℕ) (distances : List (Option ℕ)) (settled : List Bool) : Type 0 where
  pub whole : length distances ≡ routers
  pub flags : length settled ≡ routers
  pub half : IsHalfway steps owner (distance_map distances) (flagged settled)
  pub small : (u n : ℕ) → distance_map distances u ≡ Some n → n + 65535 * unsettled settled ≤ 65535 * routers

-- a router that waits is not settled
pub waits_open : (distances : List (Option ℕ)) (settled : List Bool) (u n : ℕ) → waiting distances settled u ≡ Some n →
    (flagged settled u ≡ false) × (distance_map distances u ≡ Some n)
waits_open distances settled u n waits =
    elim (cases_Bool (flagged settled u)) [
      | inl up ↦ absurd (none-some n (sym (ap (λ (t : Bool). if t then None else distance_map distances u) up) ∙ waits))
      | inr off ↦ (off, sym (ap (λ (t : Bool). if t then None else distance_map distances u) off) ∙ waits)
    ]

pub waits_from : (distances : List (Option ℕ)) (settled : List Bool) (u n : ℕ) → flagged settled u ≡ false → distance_map distances u ≡ Some n →
    waiting distances settled u ≡ Some n
waits_from distances settled u n off known = ap (λ (t : Bool). if t then None else distance_map distances u) off ∙ known

pub within_list : (distances : List (Option ℕ)) (u n : ℕ) → distance_map distances u ≡ Some n → u < length distances
within_list distances u n known =
    elim (cases_lt u (length distances)) [
      | inl less ↦ less
      | inr past ↦ absurd (none-some n (sym (get_or_past distances u None past) ∙ known))
    ]

pub one_fewer : (settled : List Bool) (at : ℕ) → at < length settled → flagged settled at ≡ false → unsettled (set settled at true) + 1 ≡ unsettled settled
one_fewer settled at within off =
    let f : Bool → ℕ = λ b. if not b then 1 else 0 in
    let step : unsettled (set settled at true) + f (get_or settled at false) ≡ unsettled settled + 0 = sum_by-set f settled at true false within in
    let one : f (get_or settled at false) ≡ 1 = ap f off in
    omega (arith, step, one)

-- the router with the least distance settles
pub under_way_more : (steps : List Step) (routers owner : ℕ) (old new : List (Option ℕ)) (settled : List Bool) (at n : ℕ) →
    IsUnderWay steps routers owner old settled → All (IsFit routers) steps → IsNearest (waiting old settled) at n → length new ≡ length old →
    ((u : ℕ) → IsLeastOf (λ k. (distance_map old u ≡ Some k) ⊎ IsGiven (steps_at Head steps at) n u k) (distance_map new u)) →
    IsUnderWay steps routers owner new (set settled at true)
under_way_more steps routers owner old new settled at n is fit nearest same relaxed =
    let here : (flagged settled at ≡ false) × (distance_map old at ≡ Some n) = waits_open old settled at n nearest.here in
    let inside : at < length settled = omega (arith, is.whole, is.flags, within_list old at n here.1) in
    record {
      whole = same ∙ is.whole;
      flags = length-set settled at true ∙ is.flags;
      half = halfway_more steps owner (distance_map old) (distance_map new) (flagged settled) (flagged (set settled at true)) at n is.half here.0 here.1
          (λ u m off known. nearest.least u m (waits_from old settled u m off known))
          (get_or-set_same settled at true false inside)
          (λ u off. get_or-set_other settled at u true false off)
          relaxed;
      small = small_more steps (distance_map old) (distance_map new) at n (65535 * routers) (unsettled settled) (unsettled (set settled at true)) is.small here.1
          (one_fewer settled at inside here.0) (λ k d within. let f : IsFit routers (get_or steps k d) = fit k d within in f.cost) relaxed;
    }

-- the same, as the calls write it
pub under_way_here : (steps : List Step) (routers owner : ℕ) (old mid new : List (Option ℕ)) (settled s t : List Bool) (at n : ℕ) (xs : List Step) →
    IsUnderWay steps routers owner old settled → All (IsFit routers) steps → IsNearest (waiting old settled) at n → xs ≡ steps_at Head steps at →
    mid ≡ old → s ≡ set settled at true → t ≡ s → length new ≡ length mid →
    ((u : ℕ) → IsLeastOf (λ k. (distance_map mid u ≡ Some k) ⊎ IsGiven xs n u k) (distance_map new u)) → IsUnderWay steps routers owner new t
under_way_here steps routers owner old mid new settled s t at n xs is fit nearest group same_mid same_s same_t whole relaxed =
    subst (IsUnderWay steps routers owner new) (sym (same_t ∙ same_s))
    (under_way_more steps routers owner old new settled at n is fit nearest (whole ∙ ap (λ (ys : List (Option ℕ)). length ys) same_mid)
    (λ u. subst (λ (ys : List Step). IsLeastOf (λ k. (distance_map old u ≡ Some k) ⊎ IsGiven ys n u k) (distance_map new u)) group
    (subst (λ (ys : List (Option ℕ)). IsLeastOf (λ k. (distance_map ys u ≡ Some k) ⊎ IsGiven xs n u k) (distance_map new u)) same_mid (relaxed u))))

fit_at : (steps : List Step) (routers at : ℕ) (xs : List Step) → All (IsFit routers) steps → xs ≡ steps_at Head steps at → All (IsFit routers) xs
fit_at steps routers at xs fit is = subst (All (IsFit routers)) (sym is) (All-filter (λ s. s.head.0 == at) (IsFit routers) steps fit)

-- the steps to a router lead from routers that have a place
pub tails_within : (steps : List Step) (routers at n : ℕ) (xs : List Step) → All (IsFit routers) steps → xs ≡ steps_at Head steps at → n ≡ routers →
    All (λ (s : Step). s.tail.0 < n) xs
tails_within steps routers at n xs fit is size = λ k d within.
    let f : IsFit routers (get_or xs k d) = fit_at steps routers at xs fit is k d within in omega (arith, f.tail, size)

-- and their costs can be added to any distance so far
pub sums_within : (steps : List Step) (routers owner at n : ℕ) (distances : List (Option ℕ)) (settled : List Bool) (xs : List Step) → routers < 2 ^ 32 →
    All (IsFit routers) steps → xs ≡ steps_at Head steps at → IsUnderWay steps routers owner distances settled → IsNearest (waiting distances settled) at n →
    All (λ (s : Step). n + s.cost < 2 ^ 64) xs
sums_within steps routers owner at n distances settled xs small fit is under nearest = λ k d within.
    let f : IsFit routers (get_or xs k d) = fit_at steps routers at xs fit is k d within in
    let here : (flagged settled at ≡ false) × (distance_map distances at ≡ Some n) = waits_open distances settled at n nearest.here in
    let low : n + 65535 * unsettled settled ≤ 65535 * routers = under.small at n here.1 in
    omega (arith, f.cost, low, small)

-- the router that waits has a place
pub nearest_within : (steps : List Step) (routers owner at n : ℕ) (distances : List (Option ℕ)) (settled : List Bool) →
    IsUnderWay steps routers owner distances settled → IsNearest (waiting distances settled) at n → at < routers
nearest_within steps routers owner at n distances settled under nearest =
    let here : (flagged settled at ≡ false) × (distance_map distances at ≡ Some n) = waits_open distances settled at n nearest.here in
    omega (arith, under.whole, within_list distances at n here.1)

-- where no router waits the distances are stable
pub under_way_all : (steps : List Step) (routers owner : ℕ) (distances : List (Option ℕ)) (settled : List Bool) → IsUnderWay steps routers owner distances settled →
    ((u : ℕ) → waiting distances settled u ≡ None) → IsStableOver steps owner (distance_map distances)
under_way_all steps routers owner distances settled is none =
    finished steps owner (distance_map distances) (flagged settled) is.half
    (λ u m off known. none-some m (sym (none u) ∙ waits_from distances settled u m off known))

pub none_known : (routers u : ℕ) → distance_map (replicate routers None) u ≡ None
none_known routers u =
    elim (cases_lt u routers) [
      | inl less ↦ get_or-replicate routers u None None less
      | inr past ↦ get_or_past (replicate routers None) u None (omega (arith, past, length-replicate {A = Option ℕ} routers None))
    ]
