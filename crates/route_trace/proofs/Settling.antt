-- The settling of routers one by one: the one that waits with the least distance next.
use Rattle.std.proofs.Common.{◌≡◌, ℕ, ◌+◌, ◌*◌, ◌≤◌, ◌⊎◌, ⊎_elim, inl, inr, Bool, true, false, Some, None, List, sym, ◌∙◌, ap, subst, arith}
use Rattle.std.specs.Prelude.{if◌then◌else◌, All, Contains}
use Rattle.std.proofs.lemmas.Bool.{false≢true, cases_eq, cases_Bool}
use Rattle.std.proofs.lemmas.Option.{none-some, same_Some}
use Rattle.net_model.specs.Routing.{DistanceMap}
use Rattle.route_trace.specs.declared.steps.Step.{Step}
use Rattle.route_trace.specs.declared.steps.End.TheVariants.{Head}
use Rattle.route_trace.specs.Steps.{IsGiven, IsOffered, IsLeastOf, IsStableOver, steps_at}
use Rattle.route_trace.proofs.Least.{transfer, same_set, has_least, holds_least}
use Rattle.route_trace.proofs.StepLists.{in_steps_at, from_steps_at}

-- the distances of the settled routers
abbrev pub only : (ℕ → Bool) → DistanceMap → DistanceMap
only s d u = if s u then d u else None

-- each distance is the least that settled routers offer, and settled routers have the least distances
pub record IsHalfway (steps : List Step) (owner : ℕ) (d : DistanceMap) (s : ℕ → Bool) : Type 0 where
  pub at_owner : d owner ≡ Some 0
  pub elsewhere : (u : ℕ) → (u ≡ owner → ⊥) → IsLeastOf (IsOffered steps (only s d) u) (d u)
  pub known : (u : ℕ) → s u ≡ true → (n : ℕ) × (d u ≡ Some n)
  pub order : (u v m n : ℕ) → s u ≡ true → s v ≡ false → d u ≡ Some m → d v ≡ Some n → m ≤ n

only_settled : (s : ℕ → Bool) (d : DistanceMap) (u : ℕ) → s u ≡ true → only s d u ≡ d u
only_settled s d u e = ap (λ (b : Bool). if b then d u else None) e

only_open : (s : ℕ → Bool) (d : DistanceMap) (u : ℕ) → s u ≡ false → only s d u ≡ None
only_open s d u e = ap (λ (b : Bool). if b then d u else None) e

-- a distance in the settled part is of a settled router
only_some : (s : ℕ → Bool) (d : DistanceMap) (u n : ℕ) → only s d u ≡ Some n → (s u ≡ true) × (d u ≡ Some n)
only_some s d u n e =
    elim (cases_Bool (s u)) [
      | inl settled ↦ (settled, sym (only_settled s d u settled) ∙ e)
      | inr open_ ↦ absurd (none-some n (sym (only_open s d u open_) ∙ e))
    ]

module _ (steps : List Step) (owner : ℕ) (d e : DistanceMap) (s t : ℕ → Bool) (w n : ℕ) (half : IsHalfway steps owner d s)
    (was_open : s w ≡ false) (here : d w ≡ Some n) (nearest : (u m : ℕ) → s u ≡ false → d u ≡ Some m → n ≤ m)
    (now_settled : t w ≡ true) (others : (u : ℕ) → (u ≡ w → ⊥) → t u ≡ s u)
    (relaxed : (u : ℕ) → IsLeastOf (λ k. (d u ≡ Some k) ⊎ IsGiven (steps_at Head steps w) n u k) (e u)) where
  given_no_less : (u k : ℕ) → IsGiven (steps_at Head steps w) n u k → n ≤ k
  given_no_less u k g = omega (arith, g.sum)

  -- a distance that is no more than the nearest stays
  kept : (u m : ℕ) → d u ≡ Some m → m ≤ n → e u ≡ Some m
  kept u m known low =
      let A : ℕ → Type 0 = λ k. (d u ≡ Some k) ⊎ IsGiven (steps_at Head steps w) n u k in
      let l : (k : ℕ) × (e u ≡ Some k) × A k × (k ≤ m) = has_least A (e u) m (relaxed u) (inl known) in
      let same : l.0 ≡ m = ⊎_elim (λ (q : d u ≡ Some l.0). same_Some l.0 m (sym q ∙ known))
      (λ (g : IsGiven (steps_at Head steps w) n u l.0). let more : n ≤ l.0 = given_no_less u l.0 g in omega (arith, more, low, l.3)) l.2 in
      l.1 ∙ ap Some same

  settled_low : (u m : ℕ) → s u ≡ true → d u ≡ Some m → m ≤ n
  settled_low u m settled known = half.order u w m n settled was_open known here

  settled_kept : (u m : ℕ) → s u ≡ true → d u ≡ Some m → e u ≡ Some m
  settled_kept u m settled known = kept u m known (settled_low u m settled known)

  here_kept : e w ≡ Some n
  here_kept = kept w n here (omega arith)

  -- a settled router is the new one or was settled
  settled_cases : (u : ℕ) → t u ≡ true → (u ≡ w) ⊎ (s u ≡ true)
  settled_cases u settled = elim (cases_eq u w) [ inl at ↦ inl at | inr off ↦ inr (sym (others u off) ∙ settled) ]

  stays_settled : (u : ℕ) → s u ≡ true → t u ≡ true
  stays_settled u settled =
      elim (cases_eq u w) [
        | inl at ↦ ap t at ∙ now_settled
        | inr off ↦ others u off ∙ settled
      ]

  -- a settled distance is no more than the new one
  now_low : (u m : ℕ) → t u ≡ true → e u ≡ Some m → m ≤ n
  now_low u m settled known =
      elim (settled_cases u settled) [
        | inl at ↦ let same : n ≡ m = same_Some n m (sym here_kept ∙ ap e (sym at) ∙ known) in omega (arith, same)
        | inr before ↦
            let old : (k : ℕ) × (d u ≡ Some k) = half.known u before in
            let same : old.0 ≡ m = same_Some old.0 m (sym (settled_kept u old.0 before old.1) ∙ known) in
            let low : old.0 ≤ n = settled_low u old.0 before old.1 in
            omega (arith, same, low)
      ]

  -- a distance that still waits is no less
  still_high : (u m : ℕ) → t u ≡ false → e u ≡ Some m → n ≤ m
  still_high u m waits known =
      let A : ℕ → Type 0 = λ k. (d u ≡ Some k) ⊎ IsGiven (steps_at Head steps w) n u k in
      let off : u ≡ w → ⊥ = λ at. false≢true (sym waits ∙ ap t at ∙ now_settled) in
      let was : s u ≡ false = sym (others u off) ∙ waits in
      ⊎_elim (λ (q : d u ≡ Some m). nearest u m was q) (given_no_less u m) (holds_least A (e u) m (relaxed u) known).0

  offered_still : (u k : ℕ) → IsOffered steps (only s d) u k → IsOffered steps (only t e) u k
  offered_still u k o =
      let at : (s o.step.head.0 ≡ true) × (d o.step.head.0 ≡ Some o.rest) = only_some s d o.step.head.0 o.rest o.head in
      record {
        step = o.step;
        among = o.among;
        tail = o.tail;
        rest = o.rest;
        head = only_settled t e o.step.head.0 (stays_settled o.step.head.0 at.0) ∙ settled_kept o.step.head.0 o.rest at.0 at.1;
        sum = o.sum;
      }

  given_offered : (u k : ℕ) → IsGiven (steps_at Head steps w) n u k → IsOffered steps (only t e) u k
  given_offered u k g =
      let in_ : Contains steps g.step × (g.step.head.0 ≡ w) = from_steps_at Head steps w g.step g.among in
      record {
        step = g.step;
        among = in_.0;
        tail = g.tail;
        rest = n;
        head = ap (only t e) in_.1 ∙ only_settled t e w now_settled ∙ here_kept;
        sum = omega (arith, g.sum);
      }

  -- what is offered now was offered before, or is given over the new router
  offered_cases : (u k : ℕ) → IsOffered steps (only t e) u k → IsOffered steps (only s d) u k ⊎ IsGiven (steps_at Head steps w) n u k
  offered_cases u k o =
      let at : (t o.step.head.0 ≡ true) × (e o.step.head.0 ≡ Some o.rest) = only_some t e o.step.head.0 o.rest o.head in
      elim (settled_cases o.step.head.0 at.0) [
        | inl new ↦
            let rest : n ≡ o.rest = same_Some n o.rest (sym here_kept ∙ ap e (sym new) ∙ at.1) in
            inr (record { step = o.step; among = in_steps_at Head steps w o.step o.among new; tail = o.tail; sum = omega (arith, o.sum, rest) })
        | inr before ↦
            let old : (m : ℕ) × (d o.step.head.0 ≡ Some m) = half.known o.step.head.0 before in
            let same : old.0 ≡ o.rest = same_Some old.0 o.rest (sym (settled_kept o.step.head.0 old.0 before old.1) ∙ at.1) in
            inl (record {
              step = o.step;
              among = o.among;
              tail = o.tail;
              rest = o.rest;
              head = only_settled s d o.step.head.0 before ∙ old.1 ∙ ap Some same;
              sum = o.sum;
            })
      ]

  elsewhere_now : (u : ℕ) → (u ≡ owner → ⊥) → IsLeastOf (IsOffered steps (only t e) u) (e u)
  elsewhere_now u off =
      let A : ℕ → Type 0 = λ k. (d u ≡ Some k) ⊎ IsGiven (steps_at Head steps w) n u k in
      transfer A (IsOffered steps (only t e) u) (e u)
      (λ k a. ⊎_elim (λ (q : d u ≡ Some k). offered_still u k (holds_least (IsOffered steps (only s d) u) (d u) k (half.elsewhere u off) q).0) (given_offered u k) a)
      (λ k b. elim (offered_cases u k b) [
        | inl old ↦
            let l : (m : ℕ) × (d u ≡ Some m) × IsOffered steps (only s d) u m × (m ≤ k) =
            has_least (IsOffered steps (only s d) u) (d u) k (half.elsewhere u off) old in
            (l.0, inl l.1, l.3)
        | inr new ↦ (k, inr new, omega arith)
      ])
      (relaxed u)

  known_now : (u : ℕ) → t u ≡ true → (m : ℕ) × (e u ≡ Some m)
  known_now u settled =
      elim (settled_cases u settled) [
        | inl at ↦ (n, ap e at ∙ here_kept)
        | inr before ↦ let old : (m : ℕ) × (d u ≡ Some m) = half.known u before in (old.0, settled_kept u old.0 before old.1)
      ]

  pub halfway_more : IsHalfway steps owner e t
  halfway_more = record {
    at_owner = kept owner 0 half.at_owner (omega arith);
    elsewhere = elsewhere_now;
    known = known_now;
    order = λ u v m k settled waits known later. omega (arith, now_low u m settled known, still_high v k waits later);
  }

-- where no router waits the distances are stable
pub finished : (steps : List Step) (owner : ℕ) (d : DistanceMap) (s : ℕ → Bool) → IsHalfway steps owner d s →
    ((u m : ℕ) → s u ≡ false → d u ≡ Some m → ⊥) → IsStableOver steps owner d
finished steps owner d s half none = record {
  at_owner = half.at_owner;
  elsewhere = λ u off. same_set (IsOffered steps (only s d) u) (IsOffered steps d u) (d u)
      (λ k o. record { step = o.step; among = o.among; tail = o.tail; rest = o.rest; head = (only_some s d o.step.head.0 o.rest o.head).1; sum = o.sum })
      (λ k o. record {
        step = o.step;
        among = o.among;
        tail = o.tail;
        rest = o.rest;
        head = elim (cases_Bool (s o.step.head.0)) [
          | inl settled ↦ only_settled s d o.step.head.0 settled ∙ o.head
          | inr waits ↦ absurd (none o.step.head.0 o.rest waits o.head)
        ];
        sum = o.sum;
      })
      (half.elsewhere u off);
}

-- the distances stay below what the routers that are still to be settled leave room for
pub small_more : (steps : List Step) (d e : DistanceMap) (w n total unset now : ℕ) →
    ((u m : ℕ) → d u ≡ Some m → m + 65535 * unset ≤ total) → d w ≡ Some n → now + 1 ≡ unset → All (λ s. s.cost ≤ 65535) steps →
    ((u : ℕ) → IsLeastOf (λ k. (d u ≡ Some k) ⊎ IsGiven (steps_at Head steps w) n u k) (e u)) →
    (u m : ℕ) → e u ≡ Some m → m + 65535 * now ≤ total
small_more steps d e w n total unset now small here one cheap relaxed u m known =
    let A : ℕ → Type 0 = λ k. (d u ≡ Some k) ⊎ IsGiven (steps_at Head steps w) n u k in
    ⊎_elim (λ (q : d u ≡ Some m). omega (arith, small u m q, one))
    (λ (g : IsGiven (steps_at Head steps w) n u m).
    let in_ : Contains steps g.step × (g.step.head.0 ≡ w) = from_steps_at Head steps w g.step g.among in
    let cost : g.step.cost ≤ 65535 = subst (λ (x : Step). x.cost ≤ 65535) in_.0.2 (cheap in_.0.0 g.step in_.0.1) in
    omega (arith, g.sum, cost, one, small w n here))
    (holds_least A (e u) m (relaxed u) known).0
