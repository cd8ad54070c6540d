-- The first interface that overlaps one before it is found, or there is none.
use Rattle.std.proofs.Common.{◌≡◌, ◌≢◌, ℕ, zero, suc, ◌+◌, ◌<◌, ◌≤◌, ◌⊎◌, inl, inr, Option, Some, None, List, [], ◌∷◌, length, refl, sym, ◌∙◌, subst, arith}
use Rattle.std.specs.Prelude.{Any, IfSome, slice_get}
use Rattle.std.proofs.lemmas.Bool.{cases_lt}
use Rattle.std.proofs.lemmas.Bool.Decides.{eqb_tells}
use Rattle.std.proofs.lemmas.Option.{same_Some, none-some}
use Rattle.arc_base.specs.Addresses.{AreDisjoint}
use Rattle.arc_base.specs.declared.prefix.Prefix.{Prefix}
use Rattle.arc_base.proofs.Agreement.{Holds-first}
use Rattle.net_model.specs.declared.rows.FaceRow.{FaceRow}
use Rattle.net_model.specs.declared.rows.LinkRow.{LinkRow}
use Rattle.net_model.specs.declared.rows.Network.{Network}
use Rattle.net_model.specs.Validity.{AreLinked, AreApart, EndsAt}
use Rattle.net_rules.specs.Addressing.{OverlapsEarlier}
use Rattle.net_checks.specs.Claims.{ClearBelow}
use Rattle.net_rules.proofs.Distinct.{item_at}
use Rattle.net_checks.proofs.Ranges.{past, disjoint_from_order, Holds-from_range}

ends_or_not : (link : LinkRow) (face : ℕ) → EndsAt link face ⊎ (¬ EndsAt link face)
ends_or_not link face = elim (eqb_tells link.a.0 face) [
  | inl a ↦ inl (inl a.1)
  | inr not_a ↦ elim (eqb_tells link.b.0 face) [
    | inl b ↦ inl (inr b.1)
    | inr not_b ↦ inr (neither not_a.1 not_b.1)
  ]
]
  where
    neither : link.a.0 ≢ face → link.b.0 ≢ face → ¬ EndsAt link face
    neither not_a not_b (inl e) = not_a e
    neither not_a not_b (inr e) = not_b e

Joins : ℕ → ℕ → LinkRow → Type 0
Joins i j link = EndsAt link i × EndsAt link j

joins_or_not : (link : LinkRow) (i j : ℕ) → Joins i j link ⊎ (¬ Joins i j link)
unfolding Joins
joins_or_not link i j = elim (ends_or_not link i) [
  | inr not_i ↦ inr (λ h. not_i h.0)
  | inl at_i ↦ elim (ends_or_not link j) [
    | inr not_j ↦ inr (λ h. not_j h.1)
    | inl at_j ↦ inl (at_i, at_j)
  ]
]

some_joins : (links : List LinkRow) (i j : ℕ) → Any (Joins i j) links ⊎ (¬ Any (Joins i j) links)
some_joins [] i j = inr (λ some. omega (arith, some.2))
some_joins (link ∷ links) i j = by (joins_or_not link i j) (some_joins links i j)
  where
    by : Joins i j link ⊎ (¬ Joins i j link) → Any (Joins i j) links ⊎ (¬ Any (Joins i j) links) → Any (Joins i j) (link ∷ links) ⊎ (¬ Any (Joins i j) (link ∷ links))
    by (inl here) rest = inl (0, link, omega arith, refl, here)
    by (inr not_here) (inl later) = inl (suc later.0, later.1, omega (arith, later.2), later.3, later.4)
    by (inr not_here) (inr not_later) = inr none
      where
        none : ¬ Any (Joins i j) (link ∷ links)
        none (zero, x, l, e, p) = not_here (subst (Joins i j) (sym e) p)
        none (suc k, x, l, e, p) = not_later (k, x, omega (arith, l), e, p)

linked_or_not : (net : Network) (i j : ℕ) → AreLinked net i j ⊎ (¬ AreLinked net i j)
unfolding Joins
linked_or_not net i j = some_joins net.links i j

disjoint_or_not : (p q : Prefix) → AreDisjoint p q ⊎ (¬ AreDisjoint p q)
disjoint_or_not p q = elim (cases_lt q.addr (past p)) [
  | inr after ↦ inl (disjoint_from_order p q after)
  | inl q_low ↦ elim (cases_lt p.addr (past q)) [
    | inr before ↦ inl (λ address in_p in_q. disjoint_from_order q p before address in_q in_p)
    | inl p_low ↦ elim (cases_lt q.addr p.addr) [
      | inl p_inside ↦ inr (λ disjoint. disjoint p.addr (Holds-first p) (Holds-from_range q p.addr (omega (arith, p_inside)) p_low))
      | inr q_inside ↦ inr (λ disjoint. disjoint q.addr (Holds-from_range p q.addr q_inside q_low) (Holds-first q))
    ]
  ]
]

apart_or_not : (f g : FaceRow) → AreApart f g ⊎ (¬ AreApart f g)
apart_or_not f g = by f.subnet g.subnet
  where
    by : (o r : Option Prefix) → IfSome o (λ p. IfSome r (AreDisjoint p)) ⊎ (¬ IfSome o (λ p. IfSome r (AreDisjoint p)))
    by None r = inl tt
    by (Some p) None = inl tt
    by (Some p) (Some q) = disjoint_or_not p q

-- the interfaces before a place up to n are clear of the one there, or one overlaps it
search_to : (net : Network) (k : ℕ) (g : FaceRow) → slice_get net.faces k ≡ Some g → (n : ℕ) → n ≤ k →
    ((i : ℕ) (f : FaceRow) → i < n → slice_get net.faces i ≡ Some f → AreLinked net i k ⊎ AreApart f g) ⊎ OverlapsEarlier net k
search_to net k g at zero within = inl (λ i f h at_i. absurd (omega (arith, h)))
search_to net k g at (suc n) within = by (search_to net k g at n (omega arith)) (slice_get net.faces n) refl
  where
    step : ((i : ℕ) (f : FaceRow) → i < n → slice_get net.faces i ≡ Some f → AreLinked net i k ⊎ AreApart f g) → (o : Option FaceRow) → slice_get net.faces n ≡ o →
        ((f : FaceRow) → o ≡ Some f → AreLinked net n k ⊎ AreApart f g) → (i : ℕ) (f : FaceRow) → i < suc n → slice_get net.faces i ≡ Some f → AreLinked net i k ⊎ AreApart f g
    step before o is here i f h at_i = elim (cases_lt i n) [
      | inl lower ↦ before i f lower at_i
      | inr higher ↦
          let same : i ≡ n = omega (arith, h, higher) in
          subst (λ (j : ℕ). AreLinked net j k ⊎ AreApart f g) (sym same) (here f (sym is ∙ subst (λ (j : ℕ). slice_get net.faces j ≡ Some f) same at_i))
    ]

    by : ((i : ℕ) (f : FaceRow) → i < n → slice_get net.faces i ≡ Some f → AreLinked net i k ⊎ AreApart f g) ⊎ OverlapsEarlier net k → (o : Option FaceRow) → slice_get net.faces n ≡ o →
        ((i : ℕ) (f : FaceRow) → i < suc n → slice_get net.faces i ≡ Some f → AreLinked net i k ⊎ AreApart f g) ⊎ OverlapsEarlier net k
    by (inr found) o is = inr found
    by (inl before) None is = inl (step before None is (λ f e. absurd (none-some f e)))
    by (inl before) (Some f) is = elim (linked_or_not net n k) [
      | inl linked ↦ inl (step before (Some f) is (λ h e. inl linked))
      | inr not_linked ↦ elim (apart_or_not f g) [
        | inl apart ↦ inl (step before (Some f) is (λ h e. inr (subst (λ (x : FaceRow). AreApart x g) (same_Some f h e) apart)))
        | inr not_apart ↦ inr (n, omega arith, record { f = f; g = g; at_i = is; at_j = at; not_linked = not_linked; not_apart = not_apart })
      ]
    ]

-- where the interfaces before a place are clear and those up to it are not, the one there overlaps one before it
pub overlaps_there : (net : Network) (low : ℕ) → low < length net.faces → ClearBelow net low → ¬ ClearBelow net (low + 1) → OverlapsEarlier net low
overlaps_there net low within clear not_clear = by (slice_get net.faces low) refl
  where
    more : (g : FaceRow) → slice_get net.faces low ≡ Some g → ((i : ℕ) (f : FaceRow) → i < low → slice_get net.faces i ≡ Some f → AreLinked net i low ⊎ AreApart f g) → ClearBelow net (low + 1)
    more g at there i j f h lower below at_i at_j = elim (cases_lt j low) [
      | inl before ↦ clear i j f h lower before at_i at_j
      | inr here ↦
          let same : j ≡ low = omega (arith, below, here) in
          let g_is : g ≡ h = same_Some g h (sym at ∙ subst (λ (k : ℕ). slice_get net.faces k ≡ Some h) same at_j) in
          subst (λ (k : ℕ). AreLinked net i k ⊎ AreApart f h) (sym same) (subst (λ (x : FaceRow). AreLinked net i low ⊎ AreApart f x) g_is (there i f (omega (arith, lower, same)) at_i))
    ]

    by : (o : Option FaceRow) → slice_get net.faces low ≡ o → OverlapsEarlier net low
    by None is =
        let there : (f : FaceRow) × (slice_get net.faces low ≡ Some f) = item_at net.faces low within in
        absurd (none-some there.0 (sym is ∙ there.1))
    by (Some g) is = elim (search_to net low g is low (omega arith)) [
      | inl there ↦ absurd (not_clear (more g is there))
      | inr found ↦ found
    ]

pub none_earlier : (net : Network) (low : ℕ) → ClearBelow net low → (k : ℕ) → k < low → ¬ OverlapsEarlier net k
none_earlier net low clear k h (i, lower, overlap) = elim (clear i k overlap.f overlap.g lower h overlap.at_i overlap.at_j) [
  | inl linked ↦ overlap.not_linked linked
  | inr apart ↦ overlap.not_apart apart
]
