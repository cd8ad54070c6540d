-- Where marks cut a range of services: exactly where one of them begins or has just ended.
use Rattle.std.proofs.Common.{◌≡◌, ℕ, zero, suc, ◌+◌, ◌-◌, ◌<◌, ◌≤◌, ◌⊎◌, inl, inr, Bool, true, false, List, IsTrue, refl, sym, ◌∙◌, ap, arith}
use Rattle.std.specs.Prelude.{Contains, ◌≢◌}
use Rattle.std.proofs.lemmas.Bool.Decides.{leb_tells}
use Rattle.net_model.specs.declared.services.Service.{Service}
use Rattle.net_model.specs.Services.{serves, Serves, IsServiceInside}
use Rattle.net_model.proofs.ServiceRanges.{bounds, serve, first-serves}
use Rattle.net_model.proofs.SameService.{same_service}
use Rattle.traffic_classes.specs.ServiceLeaves.{IsCut, IsCutAt}

pub last-serves : (s : Service) → Serves s s.high
last-serves s = let p : s.low ≤ s.high = s.ordered in serve s s.high p (omega arith)

-- one range is inside another where its ends are
pub inside_ends : (s t : Service) → IsServiceInside s t → (t.low ≤ s.low) × (s.high ≤ t.high)
inside_ends s t h = ((bounds t s.low (h s.low (first-serves s))).0, (bounds t s.high (h s.high (last-serves s))).1)

pub ends_inside : (s t : Service) → t.low ≤ s.low → s.high ≤ t.high → IsServiceInside s t
ends_inside s t a b n h = let l = bounds s n h in serve t n (omega (arith, a, l.0)) (omega (arith, b, l.1))

pub inside_both : (s t : Service) → IsServiceInside s t → IsServiceInside t s → s ≡ t
inside_both s t h k =
    let one = inside_ends s t h in
    let two = inside_ends t s k in
    same_service s t (omega (arith, one.0, two.0)) (omega (arith, one.1, two.1))

pub alike : (b c : Bool) → (IsTrue b → IsTrue c) → (IsTrue c → IsTrue b) → b ≡ c
alike true true f g = refl
alike true false f g = sym (f refl)
alike false true f g = g refl
alike false false f g = refl

-- a range begins or ends between two neighbouring services, or has both or none
pub ends_or_alike : (m : Service) (n : ℕ) → ((n + 1 ≡ m.low) ⊎ (n + 1 ≡ m.high + 1)) ⊎ (serves m n ≡ serves m (n + 1))
ends_or_alike m n =
    elim (leb_tells m.low n) [
      | inl from ↦ elim (leb_tells (n + 1) m.high) [
        | inl to ↦ inr (serve m n from.1 (omega (arith, to.1)) ∙ sym (serve m (n + 1) (omega (arith, from.1)) to.1))
        | inr past ↦ elim (leb_tells n m.high) [
          | inl at ↦ inl (inr (omega (arith, past.1, at.1)))
          | inr off ↦ inr (alike (serves m n) (serves m (n + 1))
              (λ h. let b = bounds m n h in absurd (omega (arith, b.1, off.1))) (λ h. let b = bounds m (n + 1) h in absurd (omega (arith, b.1, off.1))))
        ]
      ]
      | inr before ↦ elim (leb_tells m.low (n + 1)) [
        | inl at ↦ inl (inl (omega (arith, before.1, at.1)))
        | inr off ↦ inr (alike (serves m n) (serves m (n + 1))
            (λ h. let b = bounds m n h in absurd (omega (arith, b.0, off.1))) (λ h. let b = bounds m (n + 1) h in absurd (omega (arith, b.0, off.1))))
      ]
    ]

pub ends_part : (m : Service) (n : ℕ) → (n + 1 ≡ m.low) ⊎ (n + 1 ≡ m.high + 1) → serves m n ≢ serves m (n + 1)
ends_part m n (inl e) same =
    let p : m.low ≤ m.high = m.ordered in
    let b = bounds m n (same ∙ serve m (n + 1) (omega (arith, e)) (omega (arith, e, p))) in omega (arith, b.0, e)
ends_part m n (inr e) same =
    let p : m.low ≤ m.high = m.ordered in
    let b = bounds m (n + 1) (sym same ∙ serve m n (omega (arith, e, p)) (omega (arith, e))) in omega (arith, b.1, e)

-- where the marks cut a range there is a place for a leaf to begin
pub cut_place : (marks : List Service) (s : Service) (cut : IsCut marks s) → IsCutAt marks s (cut.service + 1)
cut_place marks s cut =
    let l = bounds s cut.service cut.first in
    let h = bounds s (cut.service + 1) cut.next in
    elim (ends_or_alike cut.mark cut.service) [
      | inl end ↦ record { above = omega (arith, l.0); within = h.1; mark = cut.mark; one = cut.one; end = end }
      | inr same ↦ absurd (cut.parted same)
    ]

before : (n : ℕ) → 0 < n → (m : ℕ) × (m + 1 ≡ n)
before zero h = absurd (omega (arith, h))
before (suc m) h = (m, omega arith)

-- and a range that has both sides of such a place is cut
pub cut_at : (marks : List Service) (whole s : Service) (c : ℕ) → IsCutAt marks whole c → s.low < c → c ≤ s.high → IsCut marks s
cut_at marks whole s c at below within =
    let b = before c (omega (arith, below)) in
    let n : ℕ = b.0 in
    let e : n + 1 ≡ c = b.1 in
    record {
      mark = at.mark;
      one = at.one;
      service = n;
      first = serve s n (omega (arith, e, below)) (omega (arith, e, within));
      next = serve s (n + 1) (omega (arith, e, below)) (omega (arith, e, within));
      parted = ends_part at.mark n (elim at.end [ inl f ↦ inl (e ∙ f) | inr f ↦ inr (e ∙ f) ]);
    }

-- a mark has all services of a range that the marks do not cut, or none
module _ (marks : List Service) (mark s : Service) (there : Contains marks mark) (uncut : ¬ IsCut marks s) where
  step : (n : ℕ) → Serves s n → Serves s (n + 1) → serves mark n ≡ serves mark (n + 1)
  step n h k = elim (ends_or_alike mark n) [
    | inl end ↦ absurd (uncut (record { mark = mark; one = there; service = n; first = h; next = k; parted = ends_part mark n end }))
    | inr same ↦ same
  ]

  from_first : (k : ℕ) → s.low + k ≤ s.high → serves mark s.low ≡ serves mark (s.low + k)
  from_first zero h = let e : s.low ≡ s.low + 0 = omega arith in ap (serves mark) e
  from_first (suc k) h =
      let e : s.low + k + 1 ≡ s.low + suc k = omega arith in
      from_first k (omega (arith, h)) ∙ step (s.low + k) (serve s (s.low + k) (omega arith) (omega (arith, h))) (serve s (s.low + k + 1) (omega arith) (omega (arith, h))) ∙
      ap (serves mark) e

  from_low : (n : ℕ) → Serves s n → serves mark s.low ≡ serves mark n
  from_low n h =
      let b = bounds s n h in
      let d : ℕ = n - s.low in
      let e : s.low + d ≡ n = omega (arith, b.0) in
      from_first d (omega (arith, e, b.1)) ∙ ap (serves mark) e

  pub serves_alike : (a b : ℕ) → Serves s a → Serves s b → serves mark a ≡ serves mark b
  serves_alike a b in_a in_b = sym (from_low a in_a) ∙ from_low b in_b
