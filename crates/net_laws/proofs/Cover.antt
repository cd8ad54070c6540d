-- Classes that share no packet, and have as many packets as the whole that they lie in, have them all.
use Rattle.std.proofs.Common.{◌≡◌, ℕ, suc, ◌+◌, ◌-◌, ◌*◌, ◌^◌, ◌<◌, ◌≤◌, ◌⊎◌, inl, inr, List, [], ◌∷◌, ap, refl, sym, ◌∙◌, subst, arith}
use Rattle.std.specs.Prelude.{AllPairs, All, sum_by}
use Rattle.std.proofs.Math.Nat.{div-lt_iff_lt-mul}
use Rattle.std.proofs.Math.Pow.{pow_pos}
use Rattle.std.proofs.lemmas.Nat.{pow-add}
use Rattle.std.proofs.lemmas.List.Sums.{sum_by-cons}
use Rattle.std.proofs.lemmas.Bool.{eqb-true, cases_Bool}
use Rattle.std.proofs.lemmas.List.Elements.{All-head, All-tail}
use Rattle.arc_base.specs.Addresses.{holds, Holds, size, first_bits}
use Rattle.arc_base.specs.declared.prefix.Prefix.{Prefix}
use Rattle.arc_base.proofs.Items.{AllPairs-rest}
use Rattle.net_model.specs.declared.lists.Packet.{Packet}
use Rattle.net_model.specs.declared.policies.Class.{Class}
use Rattle.net_model.specs.declared.verdicts.ClassSide.{ClassSide}
use Rattle.net_model.specs.declared.services.Service.{Service}
use Rattle.net_model.specs.Services.{serves, Serves, services}
use Rattle.net_model.specs.Packets.{IsOfClass, LiesIn, ShareNoPacket, packets}
use Rattle.net_model.proofs.ServiceRanges.{bounds}
use Rattle.net_laws.proofs.Counting.{total, ind, addresses}
use Rattle.net_laws.proofs.Triples.{triples, triples-none, triples-sum, triples-product, triples-tight, counted_services}

-- whether the class has the packet from a to b of the service s, as a number
abbrev pub count_in : Class → ℕ → ℕ → ℕ → ℕ
count_in c a b s = ind (holds c.from a) * ind (holds c.to b) * ind (serves c.service s)

-- the class has the packet, or counts it as 0
in_or_zero : (c : Class) (p : Packet) → IsOfClass c p ⊎ (count_in c p.from p.to p.service ≡ 0)
in_or_zero c p =
    elim (cases_Bool (holds c.from p.from)) [
      | inl from ↦ elim (cases_Bool (holds c.to p.to)) [
        | inl to ↦ elim (cases_Bool (serves c.service p.service)) [
          | inl served ↦ inl (from, to, served)
          | inr off ↦
              let z : ind (serves c.service p.service) ≡ 0 = ap ind off in
              inr (omega (arith, ap (λ (x : ℕ). ind (holds c.from p.from) * ind (holds c.to p.to) * x) z))
        ]
        | inr off ↦
            let z : ind (holds c.to p.to) ≡ 0 = ap ind off in
            inr (omega (arith, ap (λ (x : ℕ). ind (holds c.from p.from) * x * ind (serves c.service p.service)) z))
      ]
      | inr off ↦
          let z : ind (holds c.from p.from) ≡ 0 = ap ind off in
          inr (omega (arith, ap (λ (x : ℕ). x * ind (holds c.to p.to) * ind (serves c.service p.service)) z))
    ]

in_is_one : (c : Class) (p : Packet) → IsOfClass c p → count_in c p.from p.to p.service ≡ 1
in_is_one c p of =
    let x : ind (holds c.from p.from) ≡ 1 = ap ind of.0 in
    let y : ind (holds c.to p.to) ≡ 1 = ap ind of.1 in
    let z : ind (serves c.service p.service) ≡ 1 = ap ind of.2 in
    ap (λ (k : ℕ). k * ind (holds c.to p.to) * ind (serves c.service p.service)) x
    ∙ ap (λ (k : ℕ). 1 * k * ind (serves c.service p.service)) y ∙ ap (λ (k : ℕ). 1 * 1 * k) z

-- a class has as many packets as it counts
packets_counted : (n m : ℕ) → n ≡ 2 ^ 32 → m ≡ 2 ^ 24 → (c : Class) → triples n m (count_in c) ≡ packets c
packets_counted n m addresses_all services_all c =
    let from : total n (λ a. ind (holds c.from a)) ≡ size c.from = addresses n c.from addresses_all in
    let to : total n (λ b. ind (holds c.to b)) ≡ size c.to = addresses n c.to addresses_all in
    let served : total m (λ s. ind (serves c.service s)) ≡ services c.service = counted_services m c.service services_all in
    triples-product n m (λ a. ind (holds c.from a)) (λ b. ind (holds c.to b)) (λ s. ind (serves c.service s))
    ∙ ap (λ (x : ℕ). x * total n (λ b. ind (holds c.to b)) * total m (λ s. ind (serves c.service s))) from
    ∙ ap (λ (x : ℕ). size c.from * x * total m (λ s. ind (serves c.service s))) to
    ∙ ap (λ (x : ℕ). size c.from * size c.to * x) served

-- how many of the classes have the packet from a to b of the service s
abbrev pub count_all : List ClassSide → ℕ → ℕ → ℕ → ℕ
count_all [] a b s = 0
count_all (c ∷ cs) a b s = count_in c.class a b s + count_all cs a b s

all_counted : (n m : ℕ) → n ≡ 2 ^ 32 → m ≡ 2 ^ 24 → (cs : List ClassSide) → triples n m (count_all cs) ≡ sum_by (λ c. packets c.class) cs
all_counted n m addresses_all services_all [] = triples-none n m
all_counted n m addresses_all services_all (c ∷ cs) =
    let first : triples n m (count_in c.class) ≡ packets c.class = packets_counted n m addresses_all services_all c.class in
    let rest : triples n m (count_all cs) ≡ sum_by (λ c. packets c.class) cs = all_counted n m addresses_all services_all cs in
    triples-sum n m (count_in c.class) (count_all cs)
    ∙ ap (λ (x : ℕ). x + triples n m (count_all cs)) first ∙ ap (λ (x : ℕ). packets c.class + x) rest
    ∙ sym (sum_by-cons (λ (c : ClassSide). packets c.class) c cs)

abbrev pub Apart : ClassSide → ClassSide → Type 0
Apart c d = ShareNoPacket c.class d.class

pub AllPairs-first : {X : Type 0} (R : X → X → Type 0) (x : X) (xs : List X) → AllPairs R (x ∷ xs) → All (R x) xs
AllPairs-first R x xs h = λ k d l. h 0 (suc k) d (omega arith) (omega arith)

-- where one class has the packet, those apart from it do not
none_else : (c : ClassSide) (cs : List ClassSide) → All (Apart c) cs → (p : Packet) → IsOfClass c.class p → count_all cs p.from p.to p.service ≡ 0
none_else c [] apart p of = refl
none_else c (d ∷ cs) apart p of =
    let rest : count_all cs p.from p.to p.service ≡ 0 = none_else c cs (All-tail (Apart c) d cs apart) p of in
    elim (in_or_zero d.class p) [
      | inl other ↦ absurd (All-head (Apart c) d cs apart p of other)
      | inr off ↦ omega (arith, off, rest)
    ]

-- no packet is counted more often than by the whole
no_more_than_whole : (whole : Class) (cs : List ClassSide) → AllPairs Apart cs → All (λ c. LiesIn c.class whole) cs → (p : Packet) →
    count_all cs p.from p.to p.service ≤ count_in whole p.from p.to p.service
no_more_than_whole whole [] apart part p = omega arith
no_more_than_whole whole (c ∷ cs) apart part p =
    let rest : count_all cs p.from p.to p.service ≤ count_in whole p.from p.to p.service =
    no_more_than_whole whole cs (AllPairs-rest Apart c cs apart) (All-tail (λ (x : ClassSide). LiesIn x.class whole) c cs part) p in
    elim (in_or_zero c.class p) [
      | inl of ↦
          let lies : LiesIn c.class whole = All-head (λ (x : ClassSide). LiesIn x.class whole) c cs part in
          let one : count_in c.class p.from p.to p.service ≡ 1 = in_is_one c.class p of in
          let top : count_in whole p.from p.to p.service ≡ 1 = in_is_one whole p (lies.0 p.from of.0, lies.1 p.to of.1, lies.2 p.service of.2) in
          let none : count_all cs p.from p.to p.service ≡ 0 = none_else c cs (AllPairs-first Apart c cs apart) p of in
          omega (arith, one, top, none)
      | inr off ↦ omega (arith, off, rest)
    ]

-- an address that a prefix holds is below 2 ^ 32
pub Holds-below : (p : Prefix) (a : ℕ) → Holds p a → a < 2 ^ 32
Holds-below p a h =
    let few : p.len ≤ 32 = p.length in
    let in_all : p.addr < 2 ^ 32 = p.in_range in
    let bits : 32 ≡ p.len + (32 - p.len) = omega arith in
    let split : 2 ^ 32 ≡ 2 ^ p.len * 2 ^ (32 - p.len) = ap (λ (x : ℕ). 2 ^ x) bits ∙ pow-add 2 p.len (32 - p.len) in
    let below : p.addr < 2 ^ p.len * 2 ^ (32 - p.len) = subst (λ (x : ℕ). p.addr < x) split in_all in
    let quotient : first_bits p.len p.addr < 2 ^ p.len = (div-lt_iff_lt-mul (pow_pos (32 - p.len))).1 below in
    let same : first_bits p.len p.addr ≡ first_bits p.len a = sym (eqb-true _ _ h) in
    let other : first_bits p.len a < 2 ^ p.len = subst (λ (x : ℕ). x < 2 ^ p.len) same quotient in
    let within : a < 2 ^ p.len * 2 ^ (32 - p.len) = (div-lt_iff_lt-mul (pow_pos (32 - p.len))).0 other in
    subst (λ (x : ℕ). a < x) (sym split) within

-- a service of a range is below 2 ^ 24
pub Serves-below : (s : Service) (n : ℕ) → Serves s n → n < 2 ^ 24
Serves-below s n h = let top : s.high < 2 ^ 24 = s.in_range in omega (arith, top, (bounds s n h).1)

-- a class that is counted has the packet
found : (Q : ClassSide → Type 0) (cs : List ClassSide) → All Q cs → (p : Packet) → 1 ≤ count_all cs p.from p.to p.service → (c : ClassSide) × Q c × IsOfClass c.class p
found Q [] all p some = absurd (omega arith)
found Q (c ∷ cs) all p some =
    elim (in_or_zero c.class p) [
      | inl of ↦ (c, All-head Q c cs all, of)
      | inr off ↦ found Q cs (All-tail Q c cs all) p (omega (arith, off, some))
    ]

module _ (n m : ℕ) (addresses_all : n ≡ 2 ^ 32) (services_all : m ≡ 2 ^ 24) (whole : Class) (cs : List ClassSide) (apart : AllPairs Apart cs)
    (part : All (λ c. LiesIn c.class whole) cs) (same : sum_by (λ c. packets c.class) cs ≡ packets whole) where
  bounded : (a b s : ℕ) → count_all cs a b s ≤ count_in whole a b s
  bounded a b s = no_more_than_whole whole cs apart part (record { from = a; to = b; service = s })

  all_there : triples n m (count_in whole) ≤ triples n m (count_all cs)
  all_there = omega (arith, all_counted n m addresses_all services_all cs, packets_counted n m addresses_all services_all whole, same)

  tight : (a b s : ℕ) → a < n → b < n → s < m → count_in whole a b s ≤ count_all cs a b s
  tight = triples-tight n m (count_in whole) (count_all cs) bounded all_there

-- each packet of the whole is of one of the classes
pub covered : (whole : Class) (cs : List ClassSide) (Q : ClassSide → Type 0) → AllPairs Apart cs → All (λ c. LiesIn c.class whole) cs → All Q cs →
    sum_by (λ c. packets c.class) cs ≡ packets whole → (p : Packet) → IsOfClass whole p → (c : ClassSide) × Q c × IsOfClass c.class p
covered whole cs Q apart part all same p of =
    let one : count_in whole p.from p.to p.service ≡ 1 = in_is_one whole p of in
    let enough : count_in whole p.from p.to p.service ≤ count_all cs p.from p.to p.service =
    tight (2 ^ 32) (2 ^ 24) refl refl whole cs apart part same p.from p.to p.service
    (Holds-below whole.from p.from of.0) (Holds-below whole.to p.to of.1) (Serves-below whole.service p.service of.2) in
    found Q cs all p (omega (arith, one, enough))
