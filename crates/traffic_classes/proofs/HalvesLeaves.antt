-- Halving gives the leaves.
use Rattle.std.proofs.Common.{ℕ, ◌<◌, ◌⊎◌, ◌↔◌, inl, inr, List, [], ◌∷◌, ◌++◌, sym, subst}
use Rattle.std.specs.Prelude.{Contains}
use Rattle.std.proofs.lemmas.List.Elements.{Contains-append_left, Contains-append_right, Contains-append_cases}
use Rattle.arc_base.specs.Addresses.{Holds, IsInside}
use Rattle.arc_base.specs.declared.prefix.Prefix.{Prefix}
use Rattle.arc_base.proofs.Agreement.{IsInside-len, Holds-first}
use Rattle.traffic_classes.specs.Leaves.{IsStrictlyInside, IsSplit, IsLeaf, AreLeaves}
use Rattle.traffic_classes.specs.Halves.{IsLowerHalf, IsUpperHalf, UnsplitIsLeaf, HalvesHaveLeaves}
use Rattle.arc_base.proofs.Items.{Contains-head, Contains-none, Contains-cases, AllPairs-append, AllPairs-single}
use Rattle.traffic_classes.proofs.Ranges.{inside_itself, same_or_strict}
use Rattle.traffic_classes.proofs.Splits.{in_half, lower_inside, upper_inside, apart, rise}

itself : (marks : List Prefix) (whole : Prefix) → ¬ IsSplit marks whole → IsLeaf marks whole whole
itself marks whole unsplit = record {
  part = inside_itself whole;
  unsplit = unsplit;
  largest = λ p strict h. absurd (IsInside-len p whole strict.longer h);
}

pub unsplit_is_leaf : UnsplitIsLeaf
unsplit_is_leaf marks whole unsplit p = (
  λ leaf. elim (same_or_strict p whole leaf.part) [
    | inl e ↦ e
    | inr strict ↦ absurd (unsplit (leaf.largest whole strict (inside_itself whole)))
  ],
  λ e. subst (λ q. IsLeaf marks whole q) (sym e) (itself marks whole unsplit),
)

turned : (A B : Type 0) → A ⊎ B → B ⊎ A
turned A B (inl a) = inr a
turned A B (inr b) = inl b

either : (A B C D : Type 0) → (A → C) → (B → D) → A ⊎ B → C ⊎ D
either A B C D f g (inl a) = inl (f a)
either A B C D f g (inr b) = inr (g b)

module _ (marks : List Prefix) (whole l u : Prefix) (split : IsSplit marks whole) (low : IsLowerHalf l whole) (high : IsUpperHalf u whole) where
  -- a prefix inside the whole that holds a leaf of a half, strictly, is split
  from_half : (half other p : Prefix) → IsInside half whole → ((q : Prefix) → IsStrictlyInside q whole → IsInside q half ⊎ IsInside q other) →
      ((a : ℕ) → Holds half a → Holds other a → ⊥) → IsLeaf marks half p → IsLeaf marks whole p
  from_half half other p part in_one off leaf = record {
    part = λ a h. part a (leaf.part a h);
    unsplit = leaf.unsplit;
    largest = λ q strict h. elim (same_or_strict q whole h) [
      | inl e ↦ subst (λ (r : Prefix). IsSplit marks r) (sym e) split
      | inr inner ↦ elim (in_one q inner) [
        | inl here ↦ leaf.largest q strict here
        | inr there ↦ absurd (off p.addr (leaf.part p.addr (Holds-first p)) (there p.addr (strict.part p.addr (Holds-first p))))
      ]
    ];
  }

  to_half : (half p : Prefix) → IsInside half whole → IsLeaf marks whole p → IsInside p half → IsLeaf marks half p
  to_half half p part leaf h = record {
    part = h;
    unsplit = leaf.unsplit;
    largest = λ q strict in_half_. leaf.largest q strict (λ a k. part a (in_half_ a k));
  }

  pub of_halves : (p : Prefix) → IsLeaf marks whole p ↔ (IsLeaf marks l p ⊎ IsLeaf marks u p)
  of_halves p =
      let lin : IsInside l whole = lower_inside whole l u low high in
      let uin : IsInside u whole = upper_inside whole l u low high in (
        λ leaf. elim (same_or_strict p whole leaf.part) [
          | inl e ↦ absurd (leaf.unsplit (subst (λ (r : Prefix). IsSplit marks r) (sym e) split))
          | inr strict ↦ elim (in_half whole l u low high p strict) [
            | inl h ↦ inl (to_half l p lin leaf h)
            | inr h ↦ inr (to_half u p uin leaf h)
          ]
        ],
        λ one. elim one [
          | inl leaf ↦ from_half l u p lin (in_half whole l u low high) (apart whole l u low high) leaf
          | inr leaf ↦ from_half u l p uin (λ q strict. turned (IsInside q l) (IsInside q u) (in_half whole l u low high q strict)) (λ a h k. apart whole l u low high a k h) leaf
        ],
      )

  pub joined : (xs ys : List Prefix) → AreLeaves marks l xs → AreLeaves marks u ys → AreLeaves marks whole (xs ++ ys)
  joined xs ys first second = record {
    rising = AllPairs-append (λ (p : Prefix) (q : Prefix). p.addr < q.addr) xs ys first.rising second.rising
        (λ p q in_xs in_ys. rise whole l u low high p.addr q.addr
        (((first.each p).0 in_xs).part p.addr (Holds-first p)) (((second.each q).0 in_ys).part q.addr (Holds-first q)));
    each = λ p. (
      λ h. (of_halves p).1 (either (Contains xs p) (Contains ys p) (IsLeaf marks l p) (IsLeaf marks u p) (first.each p).0 (second.each p).0 (Contains-append_cases xs ys p h)),
      λ leaf. elim ((of_halves p).0 leaf) [
        | inl in_l ↦ Contains-append_left xs ys p ((first.each p).1 in_l)
        | inr in_u ↦ Contains-append_right xs ys p ((second.each p).1 in_u)
      ],
    );
  }

pub halves_have_leaves : HalvesHaveLeaves
halves_have_leaves marks whole l u split low high p = of_halves marks whole l u split low high p

pub single : (marks : List Prefix) (whole : Prefix) → ¬ IsSplit marks whole → AreLeaves marks whole (whole ∷ [])
single marks whole unsplit = record {
  rising = AllPairs-single (λ (p : Prefix) (q : Prefix). p.addr < q.addr) whole;
  each = λ p. (
    λ h. elim (Contains-cases whole p [] h) [
      | inl e ↦ (unsplit_is_leaf marks whole unsplit p).1 (sym e)
      | inr none ↦ absurd (Contains-none p none)
    ],
    λ leaf. subst (λ (q : Prefix). Contains (whole ∷ []) q) (sym ((unsplit_is_leaf marks whole unsplit p).0 leaf)) (Contains-head whole []),
  );
}
