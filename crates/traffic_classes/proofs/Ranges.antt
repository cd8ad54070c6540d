-- A prefix is a range of addresses, from its first address on, and of two prefixes with a common address one lies inside the other.
use Rattle.std.proofs.Common.{◌≡◌, ℕ, suc, ◌+◌, ◌-◌, ◌*◌, ◌/◌, ◌%◌, ◌^◌, ◌<◌, ◌≤◌, ◌⊎◌, inl, inr, refl, sym, ◌∙◌, ap, subst, arith, eq-eqb}
use Rattle.std.proofs.Math.Pow.{pow_pos}
use Rattle.std.proofs.Math.Nat.{pow-suc, mul-mod_left, mul-le-mul_right, lt_of_mul-lt-mul_right}
use Rattle.std.proofs.lemmas.Nat.{pow-add, div-mul-add, div-add-mod'}
use Rattle.std.proofs.lemmas.Bool.{eqb-true, cases_lt}
use Rattle.arc_base.specs.Addresses.{size, Holds, IsInside}
use Rattle.arc_base.specs.declared.prefix.Prefix.{Prefix}
use Rattle.arc_base.proofs.Agreement.{IsInside-shorter, IsInside-len, Holds-first, common_address}
use Rattle.arc_base.proofs.SamePrefix.{same_prefix}
use Rattle.traffic_classes.specs.Leaves.{IsStrictlyInside}
use Rattle.traffic_classes.specs.Halves.{IsLowerHalf, IsUpperHalf}

range_from : (a b s : ℕ) → 0 < s → b % s ≡ 0 → b ≤ a → a < b + s → a / s ≡ b / s
range_from a b s some clear low high =
    let whole : b / s * s + b % s ≡ b = div-add-mod' b s in
    let r : a ≡ b / s * s + (a - b) = omega (arith, whole, clear) in
    ap (λ x. x / s) r ∙ div-mul-add (b / s) s (a - b) (omega arith)

range_to : (a b s : ℕ) → 0 < s → b % s ≡ 0 → a / s ≡ b / s → (b ≤ a) × (a < b + s)
range_to a b s some clear e =
    let whole : b / s * s + b % s ≡ b = div-add-mod' b s in
    let other : a / s * s + a % s ≡ a = div-add-mod' a s in
    let same : a / s * s ≡ b / s * s = ap (λ x. x * s) e in
    (omega (arith, whole, other, same, clear), omega (arith, whole, other, same, clear))

pub size-some : (p : Prefix) → 0 < size p
size-some p = pow_pos (32 - p.len)

-- an address of the range is one of the prefix's
pub holds_range : (p : Prefix) (a : ℕ) → p.addr ≤ a → a < p.addr + size p → Holds p a
holds_range p a low high = eq-eqb _ _ (range_from a p.addr (size p) (size-some p) p.clear low high)

-- and the other way round
pub range_holds : (p : Prefix) (a : ℕ) → Holds p a → (p.addr ≤ a) × (a < p.addr + size p)
range_holds p a h = range_to a p.addr (size p) (size-some p) p.clear (eqb-true _ _ h)

-- of two prefixes with a common address, the longer lies inside the other
pub longer_inside : (p q : Prefix) (a : ℕ) → q.len ≤ p.len → Holds p a → Holds q a → IsInside p q
longer_inside p q a h in_p in_q = IsInside-shorter p q h (common_address q p a h in_q in_p)

pub inside_longer : (p q : Prefix) → IsInside p q → q.len ≤ p.len
inside_longer p q h = elim (cases_lt p.len q.len) [ inl l ↦ absurd (IsInside-len p q l h) | inr l ↦ l ]

pub inside_itself : (p : Prefix) → IsInside p p
inside_itself p = λ a h. h

pub inside_inside : (p q r : Prefix) → IsInside p q → IsInside q r → IsInside p r
inside_inside p q r h k = λ a m. k a (h a m)

-- prefixes of one length with a common address are the same
pub same_length : (p q : Prefix) (a : ℕ) → p.len ≡ q.len → Holds p a → Holds q a → p ≡ q
same_length p q a e in_p in_q =
    let there = range_holds q p.addr (longer_inside p q a (omega arith) in_p in_q p.addr (Holds-first p)) in
    let back = range_holds p q.addr (longer_inside q p a (omega arith) in_q in_p q.addr (Holds-first q)) in
    same_prefix p q (omega (arith, there.0, back.0)) e

-- a prefix inside another is the same, or lies strictly inside
pub same_or_strict : (p q : Prefix) → IsInside p q → (p ≡ q) ⊎ IsStrictlyInside p q
same_or_strict p q h =
    elim (cases_lt q.len p.len) [
      | inl longer ↦ inr (record { part = h; longer = longer })
      | inr l ↦ let e : p.len ≡ q.len = omega (arith, inside_longer p q h, l) in inl (same_length p q p.addr e (Holds-first p) (h p.addr (Holds-first p)))
    ]

-- two prefixes with a common address are inside one another
pub nested : (p q : Prefix) (a : ℕ) → Holds p a → Holds q a → IsInside p q ⊎ IsStrictlyInside q p
nested p q a in_p in_q =
    elim (cases_lt p.len q.len) [
      | inl l ↦ inr (record { part = longer_inside q p a (omega arith) in_q in_p; longer = l })
      | inr l ↦ inl (longer_inside p q a l in_p in_q)
    ]

-- a prefix of more than one address has two halves of one size
pub size-halves : (p : Prefix) → p.len < 32 → size p ≡ 2 ^ (31 - p.len) + 2 ^ (31 - p.len)
size-halves p h =
    let e : 32 - p.len ≡ suc (31 - p.len) = omega arith in
    let power : 2 ^ (32 - p.len) ≡ 2 ^ (31 - p.len) * 2 = ap (λ x. 2 ^ x) e ∙ pow-suc 2 (31 - p.len) in
    omega (arith, power)

double : (c h : ℕ) → c * (h + h) ≡ (c * 2) * h
double c h = omega arith

even_blocks : (a s h : ℕ) → s ≡ h + h → a % s ≡ 0 → a ≡ (a / s * 2) * h
even_blocks a s h e clear =
    let whole : a / s * s + a % s ≡ a = div-add-mod' a s in
    let split : a / s * s ≡ a / s * (h + h) = ap (λ x. a / s * x) e in
    let twice : a / s * (h + h) ≡ (a / s * 2) * h = double (a / s) h in
    omega (arith, whole, split, twice, clear)

half_bits : (p : Prefix) → 2 ^ (32 - (p.len + 1)) ≡ 2 ^ (31 - p.len)
half_bits p = let e : 32 - (p.len + 1) ≡ 31 - p.len = omega arith in ap (λ x. 2 ^ x) e

-- the bits past a half's length are 0
pub lower_clear : (p : Prefix) → p.len < 32 → p.addr % 2 ^ (32 - (p.len + 1)) ≡ 0
lower_clear p h =
    let e : p.addr ≡ (p.addr / size p * 2) * 2 ^ (31 - p.len) = even_blocks p.addr (size p) (2 ^ (31 - p.len)) (size-halves p h) p.clear in
    ap (λ x. p.addr % x) (half_bits p) ∙ ap (λ x. x % 2 ^ (31 - p.len)) e ∙ mul-mod_left (p.addr / size p * 2) (2 ^ (31 - p.len))

one_more : (c h a : ℕ) → a ≡ c * h → a + h ≡ (c + 1) * h
one_more c h a e = omega (arith, e)

pub upper_clear : (p : Prefix) → p.len < 32 → (p.addr + 2 ^ (31 - p.len)) % 2 ^ (32 - (p.len + 1)) ≡ 0
upper_clear p h =
    let e : p.addr ≡ (p.addr / size p * 2) * 2 ^ (31 - p.len) = even_blocks p.addr (size p) (2 ^ (31 - p.len)) (size-halves p h) p.clear in
    let f : p.addr + 2 ^ (31 - p.len) ≡ (p.addr / size p * 2 + 1) * 2 ^ (31 - p.len) = one_more (p.addr / size p * 2) (2 ^ (31 - p.len)) p.addr e in
    ap (λ x. (p.addr + 2 ^ (31 - p.len)) % x) (half_bits p) ∙ ap (λ x. x % 2 ^ (31 - p.len)) f ∙ mul-mod_left (p.addr / size p * 2 + 1) (2 ^ (31 - p.len))

whole_blocks : (a s m : ℕ) → a % s ≡ 0 → a < m * s → a + s ≤ m * s
whole_blocks a s m clear below =
    let whole : a / s * s + a % s ≡ a = div-add-mod' a s in
    let fewer : a / s < m = lt_of_mul-lt-mul_right s (omega (arith, whole, clear, below)) in
    let more : (a / s + 1) * s ≤ m * s = mul-le-mul_right s (omega (arith, fewer)) in
    omega (arith, whole, clear, more)

-- a prefix ends before the addresses do
pub ends_below : (p : Prefix) → p.addr + size p ≤ 2 ^ 32
ends_below p =
    let few : p.len ≤ 32 = p.length in
    let bits : 32 ≡ p.len + (32 - p.len) = omega arith in
    let split : 2 ^ 32 ≡ 2 ^ p.len * 2 ^ (32 - p.len) = ap (λ (x : ℕ). 2 ^ x) bits ∙ pow-add 2 p.len (32 - p.len) in
    subst (λ x. p.addr + size p ≤ x) (sym split) (whole_blocks p.addr (size p) (2 ^ p.len) p.clear (subst (λ x. p.addr < x) split p.in_range))

pub upper_below : (p : Prefix) → p.len < 32 → p.addr + 2 ^ (31 - p.len) < 2 ^ 32
upper_below p h = let some : 0 < 2 ^ (31 - p.len) = pow_pos (31 - p.len) in omega (arith, ends_below p, size-halves p h, some)

pub lower : (p : Prefix) → p.len < 32 → Prefix
lower p h = record { addr = p.addr; len = p.len + 1; in_range = p.in_range; length = omega arith; clear = lower_clear p h }

pub upper : (p : Prefix) → p.len < 32 → Prefix
upper p h = record { addr = p.addr + 2 ^ (31 - p.len); len = p.len + 1; in_range = upper_below p h; length = omega arith; clear = upper_clear p h }

pub lower_half : (p : Prefix) (h : p.len < 32) → IsLowerHalf (lower p h) p
unfolding lower
lower_half p h = record { first = refl; length = refl }

pub upper_half : (p : Prefix) (h : p.len < 32) → IsUpperHalf (upper p h) p
unfolding upper
upper_half p h = record { first = refl; length = refl }
