-- Leaves of two ranges that are marks are equal or apart.
use Rattle.std.proofs.Common.{◌≡◌, ℕ, ◌+◌, ◌<◌, ◌≤◌, ◌⊎◌, inl, inr, List, refl, sym, ◌∙◌, ap, subst, arith}
use Rattle.std.specs.Prelude.{Contains, AllPairs, ◌^◌}
use Rattle.std.proofs.lemmas.Bool.Decides.{leb_tells}
use Rattle.arc_base.proofs.Items.{AllPairs-among}
use Rattle.net_model.specs.declared.services.Service.{Service}
use Rattle.net_model.specs.Services.{Serves, IsServiceInside, ShareService}
use Rattle.net_model.proofs.ServiceRanges.{bounds, serve, share}
use Rattle.traffic_classes.specs.ServiceLeaves.{IsCut, IsServiceLeaf, AreServiceLeaves}
use Rattle.traffic_classes.proofs.ServiceCuts.{inside_ends, ends_inside, inside_both, serves_alike}
use Rattle.traffic_classes.proofs.Triples.{AreApart}

-- two ranges that the marks do not cut and that share a service have no cut between their ends
module _ (marks : List Service) (s t : Service) (uncut : ¬ IsCut marks s) (uncut_too : ¬ IsCut marks t) (meet : ShareService s t) where
  bounds_s : (s.low ≤ meet.0) × (meet.0 ≤ s.high)
  bounds_s = bounds s meet.0 meet.1

  bounds_t : (t.low ≤ meet.0) × (meet.0 ≤ t.high)
  bounds_t = bounds t meet.0 meet.2

  -- from the first beginning to the last end
  pub uncut_across : (h : Service) → (h.low ≡ s.low) ⊎ (h.low ≡ t.low) → (h.high ≡ s.high) ⊎ (h.high ≡ t.high) → ¬ IsCut marks h
  uncut_across h first last cut =
      let b = bounds h cut.service cut.first in
      let e = bounds h (cut.service + 1) cut.next in
      let in_s : s.low ≤ cut.service → cut.service + 1 ≤ s.high → ⊥ = λ l u. uncut (record {
        mark = cut.mark;
        one = cut.one;
        service = cut.service;
        first = serve s cut.service l (omega (arith, u));
        next = serve s (cut.service + 1) (omega (arith, l)) u;
        parted = cut.parted;
      }) in
      let in_t : t.low ≤ cut.service → cut.service + 1 ≤ t.high → ⊥ = λ l u. uncut_too (record {
        mark = cut.mark;
        one = cut.one;
        service = cut.service;
        first = serve t cut.service l (omega (arith, u));
        next = serve t (cut.service + 1) (omega (arith, l)) u;
        parted = cut.parted;
      }) in
      elim (leb_tells (cut.service + 1) meet.0) [
        | inl before ↦ elim first [
          | inl f ↦ in_s (omega (arith, b.0, f)) (omega (arith, before.1, bounds_s.1))
          | inr f ↦ in_t (omega (arith, b.0, f)) (omega (arith, before.1, bounds_t.1))
        ]
        | inr past ↦ elim last [
          | inl f ↦ in_s (omega (arith, past.1, bounds_s.0)) (omega (arith, e.1, f))
          | inr f ↦ in_t (omega (arith, past.1, bounds_t.0)) (omega (arith, e.1, f))
        ]
      ]

-- a range inside the whole that the marks do not cut and that shares a service with a leaf is inside it
inside_leaf : (marks : List Service) (whole leaf t : Service) → IsServiceLeaf marks whole leaf → IsServiceInside t whole → ¬ IsCut marks t → ShareService leaf t →
    IsServiceInside t leaf
inside_leaf marks whole leaf t is part uncut meet =
    let a = inside_ends leaf whole is.part in
    let b = inside_ends t whole part in
    let one : leaf.low ≤ leaf.high = leaf.ordered in
    let two : t.low ≤ t.high = t.ordered in
    let few : leaf.high < 2 ^ 24 = leaf.in_range in
    let few_too : t.high < 2 ^ 24 = t.in_range in
    let m = bounds leaf meet.0 meet.1 in
    let n = bounds t meet.0 meet.2 in
    let by : (h : Service) → (h.low ≡ leaf.low) ⊎ (h.low ≡ t.low) → (h.high ≡ leaf.high) ⊎ (h.high ≡ t.high) → h.low ≤ leaf.low → h.low ≤ t.low → leaf.high ≤ h.high →
    t.high ≤ h.high → whole.low ≤ h.low → h.high ≤ whole.high → IsServiceInside t leaf =
    λ h first last c d e f u v. subst (λ (x : Service). IsServiceInside t x)
    (is.longest h (ends_inside leaf h c e) (ends_inside h whole u v) (uncut_across marks leaf t is.uncut uncut meet h first last)) (ends_inside t h d f) in
    elim (leb_tells leaf.low t.low) [
      | inl l ↦ elim (leb_tells t.high leaf.high) [
        | inl u ↦ by leaf (inl refl) (inl refl) (omega arith) l.1 (omega arith) u.1 a.0 a.1
        | inr u ↦ by (record { low = leaf.low; high = t.high; ordered = omega (arith, one, u.1); in_range = few_too })
            (inl refl) (inr refl) (omega arith) l.1 (omega (arith, u.1)) (omega arith) a.0 b.1
      ]
      | inr l ↦ elim (leb_tells t.high leaf.high) [
        | inl u ↦ by (record { low = t.low; high = leaf.high; ordered = omega (arith, two, u.1); in_range = few })
            (inr refl) (inl refl) (omega (arith, l.1)) (omega arith) (omega arith) u.1 b.0 a.1
        | inr u ↦ by t (inr refl) (inr refl) (omega (arith, l.1)) (omega arith) (omega (arith, u.1)) (omega arith) b.0 b.1
      ]
    ]

turned : (s t : Service) → ShareService s t → ShareService t s
turned s t meet = (meet.0, meet.2, meet.1)

-- a range that a mark does not cut is inside the mark where it has one of its services
inside_mark : (marks : List Service) (mark s : Service) → Contains marks mark → ¬ IsCut marks s → (n : ℕ) → Serves s n → Serves mark n → IsServiceInside s mark
inside_mark marks mark s there uncut n h k m l = sym (serves_alike marks mark s there uncut n m h l) ∙ k

same_leaf : (marks : List Service) (whole other s t : Service) → Contains marks whole → Contains marks other → IsServiceLeaf marks whole s → IsServiceLeaf marks other t →
    ShareService s t → s ≡ t
same_leaf marks whole other s t marked marked_too leaf_s leaf_t meet =
    inside_both s t
    (inside_leaf marks other t s leaf_t
    (inside_mark marks other s marked_too leaf_s.uncut meet.0 meet.1 (leaf_t.part meet.0 meet.2)) leaf_s.uncut (turned s t meet))
    (inside_leaf marks whole s t leaf_s
    (inside_mark marks whole t marked leaf_t.uncut meet.0 meet.2 (leaf_s.part meet.0 meet.1)) leaf_t.uncut meet)

-- two ranges share a service, or are apart
share_or_apart : (s t : Service) → ShareService s t ⊎ AreApart s t
share_or_apart s t =
    elim (leb_tells s.low t.high) [
      | inl a ↦ elim (leb_tells t.low s.high) [
        | inl b ↦ inl (share s t a.1 b.1)
        | inr b ↦ inr (λ n h k. let l = bounds s n h in let m = bounds t n k in omega (arith, l.1, m.0, b.1))
      ]
      | inr a ↦ inr (λ n h k. let l = bounds s n h in let m = bounds t n k in omega (arith, l.0, m.1, a.1))
    ]

pub same_or_apart : (marks : List Service) (whole other s t : Service) → Contains marks whole → Contains marks other → IsServiceLeaf marks whole s → IsServiceLeaf marks other t →
    (s ≡ t) ⊎ AreApart s t
same_or_apart marks whole other s t marked marked_too leaf_s leaf_t =
    elim (share_or_apart s t) [
      | inl meet ↦ inl (same_leaf marks whole other s t marked marked_too leaf_s leaf_t meet)
      | inr off ↦ inr off
    ]

-- leaves of one range are apart
leaf_apart : (marks : List Service) (whole s t : Service) → IsServiceLeaf marks whole s → IsServiceLeaf marks whole t → s.low < t.low → AreApart s t
leaf_apart marks whole s t leaf_s leaf_t below =
    elim (share_or_apart s t) [
      | inl meet ↦
          let e : s ≡ t = inside_both s t (inside_leaf marks whole t s leaf_t leaf_s.part leaf_s.uncut (turned s t meet))
          (inside_leaf marks whole s t leaf_s leaf_t.part leaf_t.uncut meet) in
          let f : s.low ≡ t.low = ap (λ (x : Service). x.low) e in absurd (omega (arith, f, below))
      | inr off ↦ off
    ]

pub service_leaves_apart : (marks : List Service) (whole : Service) (leaves : List Service) → AreServiceLeaves marks whole leaves → AllPairs AreApart leaves
service_leaves_apart marks whole leaves are =
    AllPairs-among (λ (s : Service) (t : Service). s.low < t.low) AreApart leaves
    (λ s t in_s in_t below. leaf_apart marks whole s t ((are.each s).0 in_s) ((are.each t).0 in_t) below) are.rising
