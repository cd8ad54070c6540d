-- The halves of a prefix, and what halving gives: a prefix that the marks split has the leaves of
-- its two halves, and any other is its own one leaf.
use Rattle.std.specs.Prelude.{◌≡◌, ◌+◌, ◌-◌, ◌^◌, ◌↔◌, ◌⊎◌, ◌++◌, List}
use Rattle.arc_base.specs.declared.prefix.Prefix.{Prefix}
use Rattle.traffic_classes.specs.Leaves.{IsSplit, IsLeaf, AreLeaves}

-- the one prefix is the lower half of the other: it has the same first address, and its length is
-- greater by one
pub record IsLowerHalf (half p : Prefix) : Type 0 where
  pub first : half.addr ≡ p.addr
  pub length : half.len ≡ p.len + 1

-- the one prefix is the upper half of the other: it begins behind the lower half, and is as long
pub record IsUpperHalf (half p : Prefix) : Type 0 where
  pub first : half.addr ≡ p.addr + 2 ^ (31 - p.len)
  pub length : half.len ≡ p.len + 1

-- the new list has the leaves of the whole after the old one's prefixes
pub record AddsLeaves (marks : List Prefix) (whole : Prefix) (old new : List Prefix) : Type 0 where
  pub leaves : List Prefix
  pub joined : new ≡ old ++ leaves
  pub are : AreLeaves marks whole leaves

-- a prefix that the marks do not split is its own one leaf
abbrev pub UnsplitIsLeaf : Type 0
UnsplitIsLeaf =
    (marks : List Prefix) (whole : Prefix) → ¬ IsSplit marks whole →
    (p : Prefix) → IsLeaf marks whole p ↔ (p ≡ whole)

-- a prefix that the marks split has the leaves of its halves
abbrev pub HalvesHaveLeaves : Type 0
HalvesHaveLeaves =
    (marks : List Prefix) (whole lower upper : Prefix) → IsSplit marks whole →
    IsLowerHalf lower whole → IsUpperHalf upper whole →
    (p : Prefix) → IsLeaf marks whole p ↔ (IsLeaf marks lower p ⊎ IsLeaf marks upper p)
