-- Classes of which each comes before the next share no packet.
use Rattle.std.proofs.Common.{◌≡◌, ℕ, zero, suc, ◌+◌, ◌-◌, ◌*◌, ◌/◌, ◌%◌, ◌<◌, ◌≤◌, inl, inr, List, length, get_or, sym, ◌∙◌, ap, subst, arith}
use Rattle.std.specs.Prelude.{AllPairs}
use Rattle.std.proofs.Math.Pow.{pow_pos}
use Rattle.std.proofs.lemmas.Bool.{cases_lt, eqb-true}
use Rattle.std.proofs.lemmas.List.{get_or_default}
use Rattle.std.proofs.lemmas.Nat.{div-add-mod'}
use Rattle.arc_base.specs.Addresses.{size, Holds, AreDisjoint}
use Rattle.arc_base.specs.declared.prefix.Prefix.{Prefix}
use Rattle.net_model.specs.declared.policies.Class.{Class}
use Rattle.net_model.specs.declared.services.Service.{Service}
use Rattle.net_model.specs.declared.verdicts.ClassSide.{ClassSide}
use Rattle.net_model.specs.Packets.{ShareNoPacket}
use Rattle.net_model.specs.Services.{Serves}
use Rattle.net_model.proofs.ServiceRanges.{meet}
use Rattle.witness_check.specs.Order.{IsBelow, GoesBefore, ComesBefore}

range_of : (a b s : ℕ) → 0 < s → b % s ≡ 0 → a / s ≡ b / s → (b ≤ a) × (a < b + s)
range_of a b s some clear e =
    let whole : b / s * s + b % s ≡ b = div-add-mod' b s in
    let other : a / s * s + a % s ≡ a = div-add-mod' a s in
    let same : a / s * s ≡ b / s * s = ap (λ x. x * s) e in
    (omega (arith, whole, other, same, clear), omega (arith, whole, other, same, clear))

-- an address of a prefix lies in its range
in_range : (p : Prefix) (a : ℕ) → Holds p a → (p.addr ≤ a) × (a < p.addr + size p)
in_range p a h = range_of a p.addr (size p) (pow_pos (32 - p.len)) p.clear (eqb-true _ _ h)

below_apart : (p q : Prefix) → IsBelow p q → AreDisjoint p q
below_apart p q below a in_p in_q =
    let first : a < p.addr + size p = (in_range p a in_p).1 in
    let second : q.addr ≤ a = (in_range q a in_q).0 in
    absurd (omega (arith, below, first, second))

services_apart : (s t : Service) → s.high < t.low → (service : ℕ) → Serves s service → Serves t service → ⊥
services_apart s t below service in_s in_t =
    absurd (omega (arith, below, (meet s t (service, in_s, in_t)).1))

before_apart : (c d : Class) → ComesBefore c d → ShareNoPacket c d
before_apart c d (inl from) p in_c in_d = below_apart c.from d.from from p.from in_c.0 in_d.0
before_apart c d (inr (same, inl to)) p in_c in_d = below_apart c.to d.to to p.to in_c.1 in_d.1
before_apart c d (inr (same, inr (too, services))) p in_c in_d = services_apart c.service d.service services p.service in_c.2 in_d.2

below_below : (p q r : Prefix) → IsBelow p q → IsBelow q r → IsBelow p r
below_below p q r first second = omega (arith, first, second)

goes_goes : (c d e : Class) → GoesBefore c d → GoesBefore d e → GoesBefore c e
goes_goes c d e (inl f) (inl g) = inl (below_below c.to d.to e.to f g)
goes_goes c d e (inl f) (inr (same, g)) = inl (subst (λ (p : Prefix). IsBelow c.to p) same f)
goes_goes c d e (inr (same, f)) (inl g) = inl (subst (λ (p : Prefix). IsBelow p e.to) (sym same) g)
goes_goes c d e (inr (same, f)) (inr (too, g)) = inr (same ∙ too, omega (arith, f, g, d.service.ordered))

before_before : (c d e : Class) → ComesBefore c d → ComesBefore d e → ComesBefore c e
before_before c d e (inl f) (inl g) = inl (below_below c.from d.from e.from f g)
before_before c d e (inl f) (inr (same, g)) = inl (subst (λ (p : Prefix). IsBelow c.from p) same f)
before_before c d e (inr (same, f)) (inl g) = inl (subst (λ (p : Prefix). IsBelow p e.from) (sym same) g)
before_before c d e (inr (same, f)) (inr (too, g)) = inr (same ∙ too, goes_goes c d e f g)

-- the next two neighbours
pub next_more : (sides : List ClassSide) (n : ℕ) (x y : ClassSide) → 1 ≤ n → n < length sides → ComesBefore (get_or sides (n - 1) x).class (get_or sides n y).class →
    ((k : ℕ) → k + 1 < n → (d : ClassSide) → ComesBefore (get_or sides k d).class (get_or sides (k + 1) d).class) →
    (k : ℕ) → k + 1 < n + 1 → (d : ClassSide) → ComesBefore (get_or sides k d).class (get_or sides (k + 1) d).class
next_more sides n x y some within before next k less d = elim (cases_lt (k + 1) n) [
  | inl earlier ↦ next k earlier d
  | inr last ↦
      let here : n - 1 ≡ k = omega (arith, less, last, some) in
      let there : n ≡ k + 1 = omega (arith, less, last) in
      let first : get_or sides (n - 1) x ≡ get_or sides k d = ap (λ (m : ℕ). get_or sides m x) here ∙ get_or_default sides k x d (omega (arith, within, there)) in
      let second : get_or sides n y ≡ get_or sides (k + 1) d = ap (λ (m : ℕ). get_or sides m y) there ∙ get_or_default sides (k + 1) y d (omega (arith, within, there)) in
      subst (λ (s : ClassSide). ComesBefore s.class (get_or sides (k + 1) d).class) first (subst (λ (s : ClassSide). ComesBefore (get_or sides (n - 1) x).class s.class) second before)
]

module _ (sides : List ClassSide) (n : ℕ) (next : (k : ℕ) → k + 1 < n → (d : ClassSide) → ComesBefore (get_or sides k d).class (get_or sides (k + 1) d).class) where
  chain : (i j : ℕ) (d : ClassSide) → i < j → j < n → ComesBefore (get_or sides i d).class (get_or sides j d).class
  chain i zero d less within = absurd (omega (arith, less))
  chain i (suc j) d less within =
      let step : ComesBefore (get_or sides j d).class (get_or sides (suc j) d).class =
      subst (λ (k : ℕ). ComesBefore (get_or sides j d).class (get_or sides k d).class) (let e : j + 1 ≡ suc j = omega arith in e) (next j (omega (arith, within)) d) in
      elim (cases_lt i j) [
        | inl below ↦ before_before (get_or sides i d).class (get_or sides j d).class (get_or sides (suc j) d).class (chain i j d below (omega (arith, within))) step
        | inr at ↦ let same : j ≡ i = omega (arith, less, at) in
            subst (λ (k : ℕ). ComesBefore (get_or sides k d).class (get_or sides (suc j) d).class) same step
      ]

  pub all_apart : length sides ≤ n → AllPairs (λ c d. ShareNoPacket c.class d.class) sides
  all_apart past i j d less within = before_apart (get_or sides i d).class (get_or sides j d).class (chain i j d less (omega (arith, past, within)))
