-- What the walk over the halves adds.
use Rattle.std.proofs.Common.{◌≡◌, ◌<◌, ◌==◌, Bool, true, false, List, [], ◌∷◌, ◌++◌, length, refl, sym, ◌∙◌, ap, subst, arith, append_assoc}
use Rattle.std.proofs.lemmas.Bool.{eqb-true, false≢true}
use Rattle.arc_base.specs.declared.prefix.Prefix.{Prefix}
use Rattle.traffic_classes.specs.Leaves.{IsSplit, AreLeaves, inner_marks}
use Rattle.traffic_classes.specs.Halves.{IsLowerHalf, IsUpperHalf, AddsLeaves}
use Rattle.traffic_classes.proofs.Splits.{inner_leaves, unsplit_inner, some_inner}
use Rattle.traffic_classes.proofs.HalvesLeaves.{single, joined}

none_from : (xs : List Prefix) → length xs ≡ 0 → xs ≡ []
none_from [] e = refl
none_from (x ∷ xs) e = absurd (omega (arith, e))

-- a prefix with no mark inside is added itself
pub adds_whole : (marks : List Prefix) (whole : Prefix) (inner old new : List Prefix) → inner ≡ inner_marks whole marks → length inner ≡ 0 →
    new ≡ old ++ whole ∷ [] → AddsLeaves marks whole old new
adds_whole marks whole inner old new is none grown = record {
  leaves = whole ∷ [];
  joined = grown;
  are = single marks whole (unsplit_inner marks whole (sym is ∙ none_from inner none));
}

-- one with a mark inside is split
pub split_of : (marks : List Prefix) (whole : Prefix) (inner : List Prefix) → inner ≡ inner_marks whole marks → 0 < length inner → IsSplit inner whole
split_of marks whole [] is some = absurd (omega (arith, some))
split_of marks whole (m ∷ rest) is some =
    subst (λ (l : List Prefix). IsSplit l whole) (sym is) (some_inner marks whole m rest (sym is))

-- and its halves' leaves are added
pub adds_halves : (marks : List Prefix) (whole l u : Prefix) (inner old mid new : List Prefix) → inner ≡ inner_marks whole marks → 0 < length inner →
    IsLowerHalf l whole → IsUpperHalf u whole → AddsLeaves inner l old mid → AddsLeaves inner u mid new → AddsLeaves marks whole old new
adds_halves marks whole l u inner old mid new is some low high one two =
    let all : AreLeaves inner whole (one.leaves ++ two.leaves) =
    joined inner whole l u (split_of marks whole inner is some) low high one.leaves two.leaves one.are two.are in
    record {
      leaves = one.leaves ++ two.leaves;
      joined = two.joined ∙ ap (λ (x : List Prefix). x ++ two.leaves) one.joined ∙ append_assoc old one.leaves two.leaves;
      are = inner_leaves marks whole (one.leaves ++ two.leaves) (subst (λ (m : List Prefix). AreLeaves m whole (one.leaves ++ two.leaves)) is all);
    }

-- what the test for an empty list says
pub none_of : (xs : List Prefix) (b : Bool) → b ≡ true → b ≡ (length xs == 0) → length xs ≡ 0
none_of xs b t e = eqb-true _ _ (sym e ∙ t)

pub some_from : (xs : List Prefix) (b : Bool) → b ≡ false → b ≡ (length xs == 0) → 0 < length xs
some_from [] b f e = absurd (false≢true (sym f ∙ e))
some_from (x ∷ xs) b f e = omega arith
