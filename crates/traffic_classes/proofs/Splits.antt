-- What splits a prefix splits a larger one, and what lies strictly inside a prefix lies in one of its halves.
use Rattle.std.proofs.Common.{◌≡◌, ℕ, ◌+◌, ◌-◌, ◌^◌, ◌<◌, ◌≤◌, ◌⊎◌, ◌↔◌, inl, inr, List, [], ◌∷◌, IsTrue, sym, ap, subst, arith}
use Rattle.std.specs.Prelude.{Contains}
use Rattle.std.proofs.lemmas.Bool.{cases_lt, and_parts, and_from, ltb-true, lt-ltb}
use Rattle.arc_base.specs.Addresses.{size, Holds, IsInside}
use Rattle.arc_base.specs.declared.prefix.Prefix.{Prefix}
use Rattle.arc_base.proofs.Agreement.{IsInside-shorter, Holds-first, inside-IsInside}
use Rattle.traffic_classes.specs.Leaves.{IsStrictlyInside, IsSplit, IsLeaf, AreLeaves, is_strictly_inside, inner_marks}
use Rattle.traffic_classes.specs.Halves.{IsLowerHalf, IsUpperHalf}
use Rattle.arc_base.proofs.Items.{Contains-head, Contains-none, Contains-filter, from_filter}
use Rattle.traffic_classes.proofs.Ranges.{holds_range, range_holds, size-some, size-halves, inside_longer}

pub strict_further : (m p q : Prefix) → IsStrictlyInside m p → IsInside p q → IsStrictlyInside m q
strict_further m p q s h = let l : q.len ≤ p.len = inside_longer p q h in record { part = λ a k. h a (s.part a k); longer = omega (arith, s.longer, l) }

-- a larger prefix is split too
pub split_larger : (marks : List Prefix) (p q : Prefix) → IsSplit marks p → IsInside p q → IsSplit marks q
split_larger marks p q s h = record { mark = s.mark; one = s.one; inside = strict_further s.mark p q s.inside h }

-- what is split has more than one address
pub split_short : (marks : List Prefix) (p : Prefix) → IsSplit marks p → p.len < 32
split_short marks p s = let few : s.mark.len ≤ 32 = s.mark.length in omega (arith, few, s.inside.longer)

module _ (p l u : Prefix) (low : IsLowerHalf l p) (high : IsUpperHalf u p) where
  short : p.len < 32
  short = let few : l.len ≤ 32 = l.length in omega (arith, few, low.length)

  half_size : (q : Prefix) → q.len ≡ p.len + 1 → size q ≡ 2 ^ (31 - p.len)
  half_size q e = let f : 32 - q.len ≡ 31 - p.len = omega (arith, e) in ap (λ x. 2 ^ x) f

  pub sizes : size p ≡ size l + size u
  sizes = omega (arith, size-halves p short, half_size l low.length, half_size u high.length)

  pub upper_from : u.addr ≡ l.addr + size l
  upper_from = omega (arith, high.first, low.first, half_size l low.length)

  pub lower_inside : IsInside l p
  lower_inside = IsInside-shorter l p (omega (arith, low.length)) (holds_range p l.addr (omega (arith, low.first)) (omega (arith, low.first, size-some p)))

  pub upper_inside : IsInside u p
  upper_inside =
      IsInside-shorter u p (omega (arith, high.length)) (holds_range p u.addr (omega (arith, upper_from, low.first)) (omega (arith, upper_from, low.first, sizes, size-some u)))

  pub in_one : (a : ℕ) → Holds p a → Holds l a ⊎ Holds u a
  in_one a h =
      let r = range_holds p a h in
      elim (cases_lt a u.addr) [
        | inl below ↦ inl (holds_range l a (omega (arith, r.0, low.first)) (omega (arith, below, upper_from)))
        | inr above ↦ inr (holds_range u a above (omega (arith, r.1, sizes, upper_from, low.first)))
      ]

  -- a prefix that lies strictly inside lies in one half
  pub in_half : (q : Prefix) → IsStrictlyInside q p → IsInside q l ⊎ IsInside q u
  in_half q s =
      elim (in_one q.addr (s.part q.addr (Holds-first q))) [
        | inl h ↦ inl (IsInside-shorter q l (omega (arith, low.length, s.longer)) h)
        | inr h ↦ inr (IsInside-shorter q u (omega (arith, high.length, s.longer)) h)
      ]

  pub rise : (a b : ℕ) → Holds l a → Holds u b → a < b
  rise a b h k = omega (arith, range_holds l a h, range_holds u b k, upper_from)

  pub apart : (a : ℕ) → Holds l a → Holds u a → ⊥
  apart a h k = absurd (omega (arith, rise a a h k))

-- the test on bits is right
pub strict_test : (m p : Prefix) → IsTrue (is_strictly_inside p m) → IsStrictlyInside m p
strict_test m p t = let both = and_parts _ _ t in record { part = (inside-IsInside m p).0 (both.0); longer = ltb-true _ _ (both.1) }

pub strict_tests : (m p : Prefix) → IsStrictlyInside m p → IsTrue (is_strictly_inside p m)
strict_tests m p s = and_from _ _ ((inside-IsInside m p).1 s.part) (lt-ltb _ _ s.longer)

-- among the parts of a prefix, the marks inside it split what all marks split
pub split_inner : (marks : List Prefix) (whole p : Prefix) → IsSplit (inner_marks whole marks) p → IsSplit marks p
split_inner marks whole p s = record { mark = s.mark; one = (from_filter (is_strictly_inside whole) marks s.mark s.one).0; inside = s.inside }

pub inner_split : (marks : List Prefix) (whole p : Prefix) → IsInside p whole → IsSplit marks p → IsSplit (inner_marks whole marks) p
inner_split marks whole p h s = record {
  mark = s.mark;
  one = Contains-filter (is_strictly_inside whole) marks s.mark s.one (strict_tests s.mark whole (strict_further s.mark p whole s.inside h));
  inside = s.inside;
}

pub inner_leaf : (marks : List Prefix) (whole p : Prefix) → IsLeaf (inner_marks whole marks) whole p ↔ IsLeaf marks whole p
inner_leaf marks whole p = (
  λ leaf. record {
    part = leaf.part;
    unsplit = λ s. leaf.unsplit (inner_split marks whole p leaf.part s);
    largest = λ q strict h. split_inner marks whole q (leaf.largest q strict h);
  },
  λ leaf. record {
    part = leaf.part;
    unsplit = λ s. leaf.unsplit (split_inner marks whole p s);
    largest = λ q strict h. inner_split marks whole q h (leaf.largest q strict h);
  },
)

pub inner_leaves : (marks : List Prefix) (whole : Prefix) (leaves : List Prefix) → AreLeaves (inner_marks whole marks) whole leaves → AreLeaves marks whole leaves
inner_leaves marks whole leaves are = record {
  rising = are.rising;
  each = λ p. (λ h. (inner_leaf marks whole p).0 ((are.each p).0 h), λ leaf. (are.each p).1 ((inner_leaf marks whole p).1 leaf));
}

-- where no mark is inside, the marks do not split the prefix
pub unsplit_inner : (marks : List Prefix) (whole : Prefix) → inner_marks whole marks ≡ [] → ¬ IsSplit marks whole
unsplit_inner marks whole e s =
    let s2 : IsSplit (inner_marks whole marks) whole = inner_split marks whole whole (λ a h. h) s in
    Contains-none s2.mark (subst (λ l. Contains l s2.mark) e s2.one)

-- and where one is, they do
pub some_inner : (marks : List Prefix) (whole m : Prefix) (rest : List Prefix) → inner_marks whole marks ≡ m ∷ rest → IsSplit (inner_marks whole marks) whole
some_inner marks whole m rest e =
    let there : Contains (inner_marks whole marks) m = subst (λ l. Contains l m) (sym e) (Contains-head m rest) in
    record { mark = m; one = there; inside = strict_test m whole (from_filter (is_strictly_inside whole) marks m there).1 }
