-- Two prefixes share no address, or the shorter one holds the other; so with classes.
use Rattle.std.proofs.Common.{◌≡◌, ℕ, ◌≤◌, inl, inr, true, false, sym, ◌∙◌, subst, arith}
use Rattle.std.specs.Prelude.{nat_lt, nat_le, ◌&&◌, ◌||◌}
use Rattle.std.proofs.lemmas.Bool.{false≢true, and_parts, and_from, and_cases, or_parts, or_cases, leb-true, le-leb, ltb-false, eqb-true, eq-eqb, cases_lt}
use Rattle.arc_base.specs.Addresses.{first_bits, holds, inside, Holds, IsInside, AreDisjoint}
use Rattle.arc_base.specs.declared.prefix.Prefix.{Prefix}
use Rattle.arc_base.proofs.Agreement.{common_address, IsInside-shorter, Holds-first}
use Rattle.net_model.specs.declared.lists.Packet.{Packet}
use Rattle.net_model.specs.declared.policies.Class.{Class}
use Rattle.net_model.specs.Packets.{LiesIn, ShareNoPacket}
use Rattle.net_model.specs.Services.{ShareService, services_meet}
use Rattle.witness_check.specs.Boxes.{prefixes_meet, classes_meet, splits_services, splits, AreServiceHalves, MakeUp}
use Rattle.witness_check.proofs.ServiceHalves.{services_apart, common_service, services_within}

inside_from : (p q : Prefix) → q.len ≤ p.len → Holds q p.addr → inside p q ≡ true
inside_from p q short first = and_from _ _ (le-leb q.len p.len short) first

pub prefixes_apart : (p q : Prefix) → prefixes_meet p q ≡ false → AreDisjoint p q
prefixes_apart p q off a in_p in_q =
    let both : (inside p q ≡ false) × (inside q p ≡ false) = or_parts _ _ off in
    elim (cases_lt q.len p.len) [
      | inl h ↦ absurd (false≢true (sym (both.0) ∙ inside_from p q (omega arith) (common_address q p a (omega arith) in_q in_p)))
      | inr h ↦ absurd (false≢true (sym (both.1) ∙ inside_from q p h (common_address p q a h in_p in_q)))
    ]

-- an address that both have
pub common : (p q : Prefix) → prefixes_meet p q ≡ true → (a : ℕ) × Holds p a × Holds q a
common p q meet =
    elim (or_cases (inside p q) (inside q p) meet) [
      | inl h ↦ (p.addr, Holds-first p, (and_parts _ _ h).1)
      | inr h ↦ (q.addr, (and_parts _ _ h).1, Holds-first q)
    ]

-- a prefix that is no shorter than one that it meets lies inside it
pub within : (p q : Prefix) → prefixes_meet p q ≡ true → nat_lt p.len q.len ≡ false → IsInside p q
within p q meet short =
    let len : q.len ≤ p.len = ltb-false p.len q.len short in
    elim (or_cases (inside p q) (inside q p) meet) [
      | inl h ↦ IsInside-shorter p q len (and_parts _ _ h).1
      | inr h ↦
          let both : (nat_le p.len q.len ≡ true) × (holds p q.addr ≡ true) = and_parts _ _ h in
          let same : p.len ≡ q.len = omega (arith, leb-true p.len q.len both.0) in
          let bits : first_bits p.len q.addr ≡ first_bits p.len p.addr = eqb-true _ _ both.1 in
          let P : ℕ → Type 0 = λ l. first_bits l p.addr ≡ first_bits l q.addr in
          IsInside-shorter p q len (eq-eqb _ _ (subst P same (sym bits)))
    ]

pub classes_apart : (c d : Class) → classes_meet c d ≡ false → ShareNoPacket c d
classes_apart c d off p in_c in_d =
    elim (and_cases (prefixes_meet c.from d.from && prefixes_meet c.to d.to) (services_meet c.service d.service) off) [
      | inl h ↦ elim (and_cases (prefixes_meet c.from d.from) (prefixes_meet c.to d.to) h) [
        | inl from ↦ prefixes_apart c.from d.from from p.from in_c.0 in_d.0
        | inr to ↦ prefixes_apart c.to d.to to p.to in_c.1 in_d.1
      ]
      | inr h ↦ services_apart c.service d.service h p.service in_c.2 in_d.2
    ]

-- of two classes that meet, each part meets the other's
meet_parts : (c d : Class) → classes_meet c d ≡ true → (prefixes_meet c.from d.from ≡ true) × (prefixes_meet c.to d.to ≡ true) × (services_meet c.service d.service ≡ true)
meet_parts c d meet =
    let outer = and_parts (prefixes_meet c.from d.from && prefixes_meet c.to d.to) (services_meet c.service d.service) meet in
    let inner = and_parts (prefixes_meet c.from d.from) (prefixes_meet c.to d.to) outer.0 in
    (inner.0, inner.1, outer.1)

pub classes_overlap : (c d : Class) → classes_meet c d ≡ true → ShareNoPacket c d → ⊥
classes_overlap c d meet apart =
    let each = meet_parts c d meet in
    let a : (a : ℕ) × Holds c.from a × Holds d.from a = common c.from d.from each.0 in
    let b : (b : ℕ) × Holds c.to b × Holds d.to b = common c.to d.to each.1 in
    let s : ShareService c.service d.service = common_service c.service d.service each.2 in
    apart (record { from = a.0; to = b.0; service = s.0 }) (a.1, b.1, s.1) (a.2, b.2, s.2)

pub class_within : (c d : Class) → classes_meet c d ≡ true → splits c d ≡ false → LiesIn c d
class_within c d meet short =
    let each = meet_parts c d meet in
    let outer = or_parts (nat_lt c.from.len d.from.len || nat_lt c.to.len d.to.len) (splits_services c.service d.service) short in
    let lens = or_parts (nat_lt c.from.len d.from.len) (nat_lt c.to.len d.to.len) outer.0 in
    (within c.from d.from each.0 lens.0, within c.to d.to each.1 lens.1, services_within c.service d.service each.2 outer.1)

abbrev Source : Packet → Prefix → Type 0
Source p q = Holds q p.from

abbrev Goal : Packet → Prefix → Type 0
Goal p q = Holds q p.to

pub service_halves : (c d e : Class) → AreServiceHalves c.service d.service e.service → d.from ≡ c.from → e.from ≡ c.from → d.to ≡ c.to → e.to ≡ c.to → MakeUp c d e
service_halves c d e halves from_d from_e to_d to_e = (
  λ p at. elim (halves.0 p.service at.2) [
    | inl h ↦ inl (subst (Source p) (sym from_d) at.0, subst (Goal p) (sym to_d) at.1, h)
    | inr h ↦ inr (subst (Source p) (sym from_e) at.0, subst (Goal p) (sym to_e) at.1, h)
  ],
  λ p at. (subst (Source p) from_d at.0, subst (Goal p) to_d at.1, halves.1 p.service at.2),
  λ p at. (subst (Source p) from_e at.0, subst (Goal p) to_e at.1, halves.2 p.service at.2),
)
