-- A range of services has one list of leaves: the parts between its cuts. Its services are those of the leaves, and so is their number.
use Rattle.std.proofs.Common.{◌≡◌, ℕ, zero, suc, ◌+◌, ◌-◌, ◌<◌, ◌≤◌, ◌⊎◌, ◌↔◌, ◌&&◌, inl, inr, Bool, true, false, List, [], ◌∷◌, IsTrue, nat_eq, if◌then◌else◌, Decides, refl, sym, ◌∙◌, subst, arith}
use Rattle.std.specs.Prelude.{Contains, AllPairs, ◌^◌, filter, sum_by, nat_lt, nat_le}
use Rattle.std.specs.List.{flat_map}
use Rattle.std.specs.Set.{is_member}
use Rattle.std.proofs.lemmas.Bool.{and_parts, and_from, leb-true, ltb-true, le-leb, lt-ltb, false≢true}
use Rattle.std.proofs.lemmas.Bool.Decides.{leb_tells, Decides-eqb}
use Rattle.std.proofs.lemmas.List.Elements.{Contains-append_left, Contains-append_right, Contains-append_cases}
use Rattle.std.proofs.lemmas.Map.Made.{is_member-Decides}
use Rattle.std.proofs.lemmas.List.Kept.{AllPairs-filter, AllPairs-cons}
use Rattle.std.proofs.lemmas.List.Sums.{sum_by-cons}
use Rattle.arc_base.proofs.Items.{Contains-head, Contains-tail, Contains-none, Contains-cases, Contains-filter, from_filter}
use Rattle.arc_base.proofs.Items.{Contains-piece, from_piece, AllPairs-rest, AllPairs-first, AllPairs-none, All-from}
use Rattle.net_model.specs.declared.services.Service.{Service}
use Rattle.net_model.specs.Services.{Serves, services}
use Rattle.net_model.proofs.ServiceRanges.{bounds, serve}
use Rattle.traffic_classes.specs.ServiceLeaves.{IsCut, AreServiceLeaves, IsCutAt}
use Rattle.traffic_classes.specs.ServiceParts.{inner_ends, RiseBetween, ArePartsBetween}
use Rattle.traffic_classes.proofs.Rising.{same_rising}
use Rattle.traffic_classes.proofs.ServiceCuts.{cut_place}
use Rattle.net_model.proofs.SameService.{same_service}
use Rattle.traffic_classes.proofs.ServiceJoins.{joined, single}

-- the list has the cuts of the whole, each once and in rising order
pub record AreCuts (marks : List Service) (whole : Service) (cuts : List ℕ) : Type 0 where
  pub rising : AllPairs (λ x y. x < y) cuts
  pub each : (c : ℕ) → Contains cuts c ↔ IsCutAt marks whole c

-- one of the ranges has the service
pub record HasService (leaves : List Service) (n : ℕ) : Type 0 where
  pub leaf : Service
  pub one : Contains leaves leaf
  pub serves : Serves leaf n

-- the ranges are the leaves of the whole, with what they add up to
pub record Tiles (marks : List Service) (whole : Service) (leaves : List Service) : Type 0 where
  pub are : AreServiceLeaves marks whole leaves
  pub sizes_sum : sum_by services leaves ≡ services whole
  pub cover : (n : ℕ) → Serves whole n → HasService leaves n

abbrev Below : ℕ → ℕ → Type 0
Below x y = x < y

one_tile : (marks : List Service) (whole p : Service) → p ≡ whole → ¬ IsCut marks whole → Tiles marks whole (p ∷ [])
one_tile marks whole p e uncut = subst (λ (q : Service). Tiles marks whole (q ∷ [])) (sym e) (record {
  are = single marks whole uncut;
  sizes_sum = sum_by-cons services whole [] ∙ (omega arith);
  cover = λ n h. record { leaf = whole; one = Contains-head whole []; serves = h };
})

-- a range with no place for a second leaf is not cut
no_cuts : (marks : List Service) (whole : Service) → AreCuts marks whole [] → ¬ IsCut marks whole
no_cuts marks whole cuts cut = Contains-none (cut.service + 1) ((cuts.each (cut.service + 1)).1 (cut_place marks whole cut))

module _ (marks : List Service) (whole : Service) (c : ℕ) (cs : List ℕ) (cuts : AreCuts marks whole (c ∷ cs)) where
  pub at_first : IsCutAt marks whole c
  at_first = (cuts.each c).0 (Contains-head c cs)

  abbrev pub upper : Service
  upper = record { low = c; high = whole.high; ordered = at_first.within; in_range = whole.in_range }

  pub upper_cuts : AreCuts marks upper cs
  upper_cuts = record {
    rising = AllPairs-rest Below c cs cuts.rising;
    each = λ x. (
      λ h. let at : IsCutAt marks whole x = (cuts.each x).0 (Contains-tail c x cs h) in
          record { above = AllPairs-first Below c x cs cuts.rising h; within = at.within; mark = at.mark; one = at.one; end = at.end },
      λ at. let low : whole.low < c = at_first.above in
          let more : c < x = at.above in
          elim (Contains-cases c x cs ((cuts.each x).1 (record { above = omega (arith, low, more); within = at.within; mark = at.mark; one = at.one; end = at.end }))) [
            | inl e ↦ absurd (omega (arith, e, more))
            | inr later ↦ later
          ],
    );
  }

  pub lower_uncut : (p : Service) → p.low ≡ whole.low → p.high + 1 ≡ c → ¬ IsCut marks p
  lower_uncut p first end cut =
      let at : IsCutAt marks p (cut.service + 1) = cut_place marks p cut in
      let l : p.low < cut.service + 1 = at.above in
      let h : cut.service + 1 ≤ p.high = at.within in
      let w : c ≤ whole.high = at_first.within in
      elim (Contains-cases c (cut.service + 1) cs ((cuts.each (cut.service + 1)).1
      (record { above = omega (arith, l, first); within = omega (arith, h, end, w); mark = at.mark; one = at.one; end = at.end }))) [
        | inl e ↦ omega (arith, e, h, end)
        | inr later ↦ let more : c < cut.service + 1 = AllPairs-first Below c (cut.service + 1) cs cuts.rising later in omega (arith, more, h, end)
      ]

  pub two_tiles : (p : Service) (ps : List Service) → p.low ≡ whole.low → p.high + 1 ≡ c → Tiles marks upper ps → Tiles marks whole (p ∷ ps)
  two_tiles p ps first end rest = record {
    are = joined marks whole p upper first end refl at_first (p ∷ []) ps (single marks p (lower_uncut p first end)) rest.are;
    sizes_sum =
        let a : p.low ≤ p.high = p.ordered in
        let w : c ≤ whole.high = at_first.within in
        omega (arith, sum_by-cons services p ps, rest.sizes_sum, first, end, a, w);
    cover = λ n h.
        let b = bounds whole n h in
        elim (leb_tells c n) [
          | inl above ↦ let t : HasService ps n = rest.cover n (serve upper n above.1 b.1) in
              record { leaf = t.leaf; one = Contains-tail p t.leaf ps t.one; serves = t.serves }
          | inr below ↦ record { leaf = p; one = Contains-head p ps; serves = serve p n (omega (arith, b.0, first)) (omega (arith, below.1, end)) }
        ];
  }

-- the parts between the cuts are the leaves
pub tiled : (marks : List Service) (cuts : List ℕ) (whole : Service) (parts : List Service) → AreCuts marks whole cuts →
    ArePartsBetween whole.low cuts whole.high parts → Tiles marks whole parts
tiled marks [] whole [] are between = absurd between
tiled marks (c ∷ cs) whole [] are between = absurd between
tiled marks [] whole (p ∷ ps) are between =
    subst (λ (l : List Service). Tiles marks whole (p ∷ l)) (sym between.2)
    (one_tile marks whole p (same_service p whole between.0 between.1) (no_cuts marks whole are))
tiled marks (c ∷ cs) whole (p ∷ ps) are between =
    two_tiles marks whole c cs are p ps between.0 between.1
    (tiled marks cs (upper marks whole c cs are) ps (upper_cuts marks whole c cs are) between.2)

-- the cuts rise between the ends
pub cuts_rise : (marks : List Service) (cuts : List ℕ) (whole : Service) → AreCuts marks whole cuts → RiseBetween whole.low cuts whole.high
cuts_rise marks [] whole are = whole.ordered
cuts_rise marks (c ∷ cs) whole are = ((at_first marks whole c cs are).above, cuts_rise marks cs (upper marks whole c cs are) (upper_cuts marks whole c cs are))

pub rise_ends : (low : ℕ) (cuts : List ℕ) (high : ℕ) → RiseBetween low cuts high → low ≤ high
rise_ends low [] high rise = rise
rise_ends low (c ∷ cs) high rise = let r : c ≤ high = rise_ends c cs high rise.1 in omega (arith, rise.0, r)

some_parts : (low : ℕ) (cuts : List ℕ) (high : ℕ) → high < 2 ^ 24 → RiseBetween low cuts high → (parts : List Service) × ArePartsBetween low cuts high parts
some_parts low [] high few rise = (record { low = low; high = high; ordered = rise; in_range = few } ∷ [], (refl, refl, refl))
some_parts low (c ∷ cs) high few rise =
    let rest = some_parts c cs high few rise.1 in
    let up : c ≤ high = rise_ends c cs high rise.1 in
    let step : low < c = rise.0 in
    (record { low = low; high = c - 1; ordered = omega (arith, step); in_range = omega (arith, up, few) } ∷ rest.0, (refl, omega (arith, step), rest.1))

-- the numbers after the one, so many
abbrev after : ℕ → ℕ → List ℕ
after low zero = []
after low (suc k) = suc low ∷ after (suc low) k

after_above : (low k c : ℕ) → Contains (after low k) c → (low < c) × (c ≤ low + k)
after_above low zero c h = absurd (Contains-none c h)
after_above low (suc k) c h =
    elim (Contains-cases (suc low) c (after (suc low) k) h) [
      | inl e ↦ (omega (arith, e), omega (arith, e))
      | inr later ↦ let r = after_above (suc low) k c later in (omega (arith, r.0), omega (arith, r.1))
    ]

after_has : (low k c : ℕ) → low < c → c ≤ low + k → Contains (after low k) c
after_has low zero c h l = absurd (omega (arith, h, l))
after_has low (suc k) c h l =
    elim (leb_tells c (suc low)) [
      | inl at ↦ let e : suc low ≡ c = omega (arith, at.1, h) in subst (λ (x : ℕ). Contains (suc low ∷ after (suc low) k) x) e (Contains-head (suc low) (after (suc low) k))
      | inr more ↦ Contains-tail (suc low) c (after (suc low) k) (after_has (suc low) k c more.1 (omega (arith, l)))
    ]

after_rises : (low k : ℕ) → AllPairs Below (after low k)
after_rises low zero = AllPairs-none Below
after_rises low (suc k) =
    AllPairs-cons Below (suc low) (after (suc low) k) (All-from (λ (c : ℕ). suc low < c) (after (suc low) k) (λ c h. (after_above (suc low) k c h).0)) (after_rises (suc low) k)

in_if : (b : Bool) (x c : ℕ) → Contains (if b then x ∷ [] else []) c → IsTrue b × (x ≡ c)
in_if true x c h = elim (Contains-cases x c [] h) [ inl e ↦ (refl, e) | inr none ↦ absurd (Contains-none c none) ]
in_if false x c h = absurd (Contains-none c h)

to_if : (b : Bool) (x : ℕ) → IsTrue b → Contains (if b then x ∷ [] else []) x
to_if true x h = Contains-head x []
to_if false x h = absurd (false≢true h)

module _ (marks : List Service) (whole : Service) where
  abbrev begins : Service → Bool
  begins m = nat_lt whole.low m.low && nat_le m.low whole.high

  abbrev ends : Service → Bool
  ends m = nat_le whole.low m.high && nat_lt m.high whole.high

  from_end : (m : Service) (c : ℕ) → Contains marks m → Contains (inner_ends whole m) c → IsCutAt marks whole c
  from_end m c one h =
      elim (Contains-append_cases (if begins m then m.low ∷ [] else []) (if ends m then (m.high + 1) ∷ [] else []) c h) [
        | inl first ↦ let r = in_if (begins m) m.low c first in
            let b = and_parts (nat_lt whole.low m.low) (nat_le m.low whole.high) r.0 in
            record { above = omega (arith, ltb-true _ _ b.0, r.1); within = omega (arith, leb-true _ _ b.1, r.1); mark = m; one = one; end = inl (sym r.1) }
        | inr last ↦ let r = in_if (ends m) (m.high + 1) c last in
            let b = and_parts (nat_le whole.low m.high) (nat_lt m.high whole.high) r.0 in
            record { above = omega (arith, leb-true _ _ b.0, r.1); within = omega (arith, ltb-true _ _ b.1, r.1); mark = m; one = one; end = inr (sym r.1) }
      ]

  to_end : (m : Service) (c : ℕ) → whole.low < c → c ≤ whole.high → (c ≡ m.low) ⊎ (c ≡ m.high + 1) → Contains (inner_ends whole m) c
  to_end m c above within (inl e) =
      Contains-append_left (if begins m then m.low ∷ [] else []) (if ends m then (m.high + 1) ∷ [] else []) c
      (subst (λ (x : ℕ). Contains (if begins m then m.low ∷ [] else []) x) (sym e)
      (to_if (begins m) m.low (and_from (nat_lt whole.low m.low) (nat_le m.low whole.high) (lt-ltb _ _ (omega (arith, above, e))) (le-leb _ _ (omega (arith, within, e))))))
  to_end m c above within (inr e) =
      Contains-append_right (if begins m then m.low ∷ [] else []) (if ends m then (m.high + 1) ∷ [] else []) c
      (subst (λ (x : ℕ). Contains (if ends m then (m.high + 1) ∷ [] else []) x) (sym e)
      (to_if (ends m) (m.high + 1) (and_from (nat_le whole.low m.high) (nat_lt m.high whole.high) (le-leb _ _ (omega (arith, above, e))) (lt-ltb _ _ (omega (arith, within, e))))))

  -- the ends of marks inside the whole are where it is cut
  pub ends_are_cuts : (c : ℕ) → Contains (flat_map (inner_ends whole) marks) c ↔ IsCutAt marks whole c
  ends_are_cuts c = (
    λ h. let piece = from_piece (inner_ends whole) marks c h in from_end piece.0 c piece.1 piece.2,
    λ at. Contains-piece (inner_ends whole) marks at.mark c at.one (to_end at.mark c at.above at.within at.end),
  )

  abbrev cut_there : ℕ → Bool
  cut_there c = is_member nat_eq (flat_map (inner_ends whole) marks) c

  decides : (c : ℕ) → Decides (cut_there c) (Contains (flat_map (inner_ends whole) marks) c)
  decides c = is_member-Decides Decides-eqb (flat_map (inner_ends whole) marks) c

  abbrev numbers : List ℕ
  numbers = after whole.low (whole.high - whole.low)

  some_cuts : AreCuts marks whole (filter cut_there numbers)
  some_cuts = record {
    rising = AllPairs-filter Below cut_there numbers (after_rises whole.low (whole.high - whole.low));
    each = λ c. (
      λ h. (ends_are_cuts c).0 ((decides c).0 (from_filter cut_there numbers c h).1),
      λ at.
          let p : whole.low ≤ whole.high = whole.ordered in
          let l : whole.low < c = at.above in
          let w : c ≤ whole.high = at.within in
          Contains-filter cut_there numbers c (after_has whole.low (whole.high - whole.low) c l (omega (arith, w, p))) ((decides c).1 ((ends_are_cuts c).1 at)),
    );
  }

  pub some_tiles : (leaves : List Service) × Tiles marks whole leaves
  some_tiles =
      let parts = some_parts whole.low (filter cut_there numbers) whole.high whole.in_range (cuts_rise marks (filter cut_there numbers) whole some_cuts) in
      (parts.0, tiled marks (filter cut_there numbers) whole parts.0 some_cuts parts.1)

pub same_service_leaves : (marks : List Service) (whole : Service) (xs ys : List Service) → AreServiceLeaves marks whole xs → AreServiceLeaves marks whole ys → xs ≡ ys
same_service_leaves marks whole xs ys one two =
    same_rising (λ (s : Service). s.low) xs ys one.rising two.rising (λ s h. (two.each s).1 ((one.each s).0 h)) (λ s h. (one.each s).1 ((two.each s).0 h))

pub leaf_tiles : (marks : List Service) (whole : Service) (leaves : List Service) → AreServiceLeaves marks whole leaves → Tiles marks whole leaves
leaf_tiles marks whole leaves are =
    let t = some_tiles marks whole in
    subst (λ (l : List Service). Tiles marks whole l) (same_service_leaves marks whole t.0 leaves t.1.are are) t.1
