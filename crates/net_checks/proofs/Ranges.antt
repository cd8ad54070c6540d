-- Prefixes as ranges of addresses.
use Rattle.std.proofs.Common.{◌≡◌, ℕ, ◌+◌, ◌-◌, ◌*◌, ◌/◌, ◌^◌, ◌<◌, ◌≤◌, inl, inr, ap, ◌∙◌, arith}
use Rattle.std.proofs.Math.Pow.{pow_pos}
use Rattle.std.proofs.lemmas.Nat.{div-mul-add}
use Rattle.std.proofs.lemmas.Bool.{eqb-true, eq-eqb, cases_lt}
use Rattle.arc_base.specs.Addresses.{Holds, AreDisjoint}
use Rattle.arc_base.specs.declared.prefix.Prefix.{Prefix}
use Rattle.arc_base.proofs.Agreement.{Holds-first}

-- the address after the last one of a prefix
abbrev pub past : Prefix → ℕ
past p = p.addr + 2 ^ (32 - p.len)

-- a prefix holds the addresses from its first one on
pub Holds-range : (p : Prefix) (a : ℕ) → Holds p a → (p.addr ≤ a) × (a < past p)
Holds-range p a h =
    let same : a / 2 ^ (32 - p.len) ≡ p.addr / 2 ^ (32 - p.len) = eqb-true _ _ h in
    let block : 2 ^ (32 - p.len) * (a / 2 ^ (32 - p.len)) ≡ 2 ^ (32 - p.len) * (p.addr / 2 ^ (32 - p.len)) = ap (λ x. 2 ^ (32 - p.len) * x) same in
    (omega (arith, pow_pos (32 - p.len), p.clear, block), omega (arith, pow_pos (32 - p.len), p.clear, block))

pub Holds-from_range : (p : Prefix) (a : ℕ) → p.addr ≤ a → a < past p → Holds p a
Holds-from_range p a low high =
    let whole : a ≡ p.addr / 2 ^ (32 - p.len) * 2 ^ (32 - p.len) + (a - p.addr) = omega (arith, pow_pos (32 - p.len), p.clear, low) in
    let rest : a - p.addr < 2 ^ (32 - p.len) = omega (arith, low, high) in
    eq-eqb _ _ (ap (λ x. x / 2 ^ (32 - p.len)) whole ∙ div-mul-add (p.addr / 2 ^ (32 - p.len)) (2 ^ (32 - p.len)) (a - p.addr) rest)

-- prefixes are disjoint where one begins after the other's end
pub disjoint_from_order : (p q : Prefix) → past p ≤ q.addr → AreDisjoint p q
disjoint_from_order p q after a in_p in_q =
    let of_p : (p.addr ≤ a) × (a < past p) = Holds-range p a in_p in
    let of_q : (q.addr ≤ a) × (a < past q) = Holds-range q a in_q in
    absurd (omega (arith, of_p.1, of_q.0, after))

pub order_from_disjoint : (p q : Prefix) → p.addr ≤ q.addr → AreDisjoint p q → past p ≤ q.addr
order_from_disjoint p q order disjoint =
    elim (cases_lt q.addr (past p)) [
      | inl h ↦ absurd (disjoint q.addr (Holds-from_range p q.addr order h) (Holds-first q))
      | inr h ↦ h
    ]
