-- Cutting gives the leaves of services.
use Rattle.std.proofs.Common.{◌≡◌, ℕ, ◌+◌, ◌<◌, ◌≤◌, ◌⊎◌, ◌↔◌, inl, inr, List, [], ◌∷◌, ◌++◌, sym, subst, arith}
use Rattle.std.specs.Prelude.{Contains}
use Rattle.std.proofs.lemmas.Bool.Decides.{leb_tells}
use Rattle.std.proofs.lemmas.List.Elements.{Contains-append_left, Contains-append_right, Contains-append_cases}
use Rattle.arc_base.proofs.Items.{Contains-head, Contains-none, Contains-cases, AllPairs-append, AllPairs-single}
use Rattle.net_model.specs.declared.services.Service.{Service}
use Rattle.net_model.specs.Services.{Serves, IsServiceInside}
use Rattle.net_model.proofs.ServiceRanges.{bounds, first-serves}
use Rattle.traffic_classes.specs.ServiceLeaves.{IsCut, IsServiceLeaf, AreServiceLeaves, IsCutAt, UncutIsLeaf, PartsHaveLeaves}
use Rattle.traffic_classes.proofs.ServiceCuts.{inside_ends, ends_inside, inside_both, cut_at}

pub same_inside : (s : Service) → IsServiceInside s s
same_inside s n h = h

itself : (marks : List Service) (whole : Service) → ¬ IsCut marks whole → IsServiceLeaf marks whole whole
itself marks whole uncut = record {
  part = same_inside whole;
  uncut = uncut;
  longest = λ s around part uncut_too. inside_both s whole part around;
}

pub uncut_is_leaf : UncutIsLeaf
uncut_is_leaf marks whole uncut s = (
  λ leaf. sym (leaf.longest whole leaf.part (same_inside whole) uncut),
  λ e. subst (λ t. IsServiceLeaf marks whole t) (sym e) (itself marks whole uncut),
)

module _ (marks : List Service) (whole l u : Service) (first : l.low ≡ whole.low) (meets : l.high + 1 ≡ u.low) (last : u.high ≡ whole.high) (cut : IsCutAt marks whole u.low) where
  lower_inside : IsServiceInside l whole
  lower_inside = ends_inside l whole (omega (arith, first)) (let p : u.low ≤ u.high = u.ordered in omega (arith, meets, last, p))

  upper_inside : IsServiceInside u whole
  upper_inside = ends_inside u whole (let p : l.low ≤ l.high = l.ordered in omega (arith, first, meets, p)) (omega (arith, last))

  -- a range inside the whole that the marks do not cut is inside one of the parts
  in_part : (s : Service) → IsServiceInside s whole → ¬ IsCut marks s → IsServiceInside s l ⊎ IsServiceInside s u
  in_part s part uncut =
      let e = inside_ends s whole part in
      elim (leb_tells u.low s.low) [
        | inl above ↦ inr (ends_inside s u above.1 (omega (arith, e.1, last)))
        | inr below ↦ elim (leb_tells u.low s.high) [
          | inl across ↦ absurd (uncut (cut_at marks whole s u.low cut below.1 across.1))
          | inr off ↦ inl (ends_inside s l (omega (arith, e.0, first)) (omega (arith, off.1, meets)))
        ]
      ]

  apart : (n : ℕ) → Serves l n → Serves u n → ⊥
  apart n h k = let a = bounds l n h in let b = bounds u n k in omega (arith, a.1, b.0, meets)

  from_lower : (s : Service) → IsServiceLeaf marks l s → IsServiceLeaf marks whole s
  from_lower s leaf = record {
    part = λ n h. lower_inside n (leaf.part n h);
    uncut = leaf.uncut;
    longest = λ t around part uncut. elim (in_part t part uncut) [
      | inl here ↦ leaf.longest t around here uncut
      | inr there ↦ absurd (apart s.low (leaf.part s.low (first-serves s)) (there s.low (around s.low (first-serves s))))
    ];
  }

  from_upper : (s : Service) → IsServiceLeaf marks u s → IsServiceLeaf marks whole s
  from_upper s leaf = record {
    part = λ n h. upper_inside n (leaf.part n h);
    uncut = leaf.uncut;
    longest = λ t around part uncut. elim (in_part t part uncut) [
      | inl there ↦ absurd (apart s.low (there s.low (around s.low (first-serves s))) (leaf.part s.low (first-serves s)))
      | inr here ↦ leaf.longest t around here uncut
    ];
  }

  to_part : (part s : Service) → IsServiceInside part whole → IsServiceLeaf marks whole s → IsServiceInside s part → IsServiceLeaf marks part s
  to_part part s in_whole leaf h = record {
    part = h;
    uncut = leaf.uncut;
    longest = λ t around inner uncut. leaf.longest t around (λ n k. in_whole n (inner n k)) uncut;
  }

  pub of_parts : (s : Service) → IsServiceLeaf marks whole s ↔ (IsServiceLeaf marks l s ⊎ IsServiceLeaf marks u s)
  of_parts s = (
    λ leaf. elim (in_part s leaf.part leaf.uncut) [
      | inl here ↦ inl (to_part l s lower_inside leaf here)
      | inr here ↦ inr (to_part u s upper_inside leaf here)
    ],
    λ one. elim one [
      | inl leaf ↦ from_lower s leaf
      | inr leaf ↦ from_upper s leaf
    ],
  )

  pub joined : (xs ys : List Service) → AreServiceLeaves marks l xs → AreServiceLeaves marks u ys → AreServiceLeaves marks whole (xs ++ ys)
  joined xs ys one two = record {
    rising = AllPairs-append (λ (s : Service) (t : Service). s.low < t.low) xs ys one.rising two.rising
        (λ s t in_xs in_ys.
        let a = bounds l s.low (((one.each s).0 in_xs).part s.low (first-serves s)) in
        let b = bounds u t.low (((two.each t).0 in_ys).part t.low (first-serves t)) in omega (arith, a.1, b.0, meets));
    each = λ s. (
      λ h. (of_parts s).1 (elim (Contains-append_cases xs ys s h) [ inl here ↦ inl ((one.each s).0 here) | inr here ↦ inr ((two.each s).0 here) ]),
      λ leaf. elim ((of_parts s).0 leaf) [
        | inl in_l ↦ Contains-append_left xs ys s ((one.each s).1 in_l)
        | inr in_u ↦ Contains-append_right xs ys s ((two.each s).1 in_u)
      ],
    );
  }

pub parts_have_leaves : PartsHaveLeaves
parts_have_leaves marks whole l u first meets last cut s = of_parts marks whole l u first meets last cut s

pub single : (marks : List Service) (whole : Service) → ¬ IsCut marks whole → AreServiceLeaves marks whole (whole ∷ [])
single marks whole uncut = record {
  rising = AllPairs-single (λ (s : Service) (t : Service). s.low < t.low) whole;
  each = λ s. (
    λ h. elim (Contains-cases whole s [] h) [
      | inl e ↦ (uncut_is_leaf marks whole uncut s).1 (sym e)
      | inr none ↦ absurd (Contains-none s none)
    ],
    λ leaf. subst (λ (t : Service). Contains (whole ∷ []) t) (sym ((uncut_is_leaf marks whole uncut s).0 leaf)) (Contains-head whole []),
  );
}
