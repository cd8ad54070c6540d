-- After edits for a document the marks of services cut the same ranges. What the entry for a class marks begins and ends where
-- marks did before: a class is a leaf of services, and a mark inside of a protocol has the whole protocol for a mark too.
use Rattle.std.proofs.Common.{◌≡◌, ◌≢◌, ℕ, zero, suc, ◌+◌, ◌*◌, ◌/◌, ◌%◌, ◌^◌, ◌<◌, ◌≤◌, ◌↔◌, ◌⊎◌, inl}
use Rattle.std.proofs.Common.{inr, Bool, true, false, nat_eq, List, [], ◌∷◌, ◌++◌, refl, sym, ◌∙◌, ap, subst, arith, if◌then◌else◌}
use Rattle.std.specs.Prelude.{Contains}
use Rattle.std.specs.List.{flat_map}
use Rattle.std.proofs.lemmas.Bool.{false≢true, eq-eqb, ne_eqb}
use Rattle.std.proofs.lemmas.Bool.Decides.{eqb_tells}
use Rattle.std.proofs.lemmas.List.Elements.{Contains-append_left, Contains-append_right, Contains-append_cases}
use Rattle.arc_base.proofs.Items.{Contains-head, Contains-tail, Contains-cases, Contains-none, Contains-piece, from_piece}
use Rattle.net_model.specs.declared.lists.PacketEntry.{PacketEntry}
use Rattle.net_model.specs.declared.policies.Class.{Class}
use Rattle.net_model.specs.declared.policies.Document.{Document}
use Rattle.net_model.specs.declared.policies.Policy.{Policy}
use Rattle.net_model.specs.declared.rows.Network.{Network}
use Rattle.net_model.specs.declared.services.Service.{Service}
use Rattle.net_model.specs.Services.{whole_service}
use Rattle.net_model.proofs.ServiceRanges.{bounds, serve}
use Rattle.traffic_classes.specs.Classes.{service_marks, marks_of, whole_protocol}
use Rattle.traffic_classes.specs.ServiceLeaves.{IsCut, IsServiceLeaf, AreServiceLeaves}
use Rattle.traffic_classes.proofs.ServiceCuts.{ends_or_alike, ends_part, ends_inside, inside_ends}
use Rattle.traffic_classes.proofs.Uniform.{entry_services}
use Rattle.edit_list.specs.declared.edit_kinds.Edit.{Edit}
use Rattle.edit_list.specs.After.{IsAfter}
use Rattle.edit_list.specs.EditLists.{AreEdits}
use Rattle.edit_list.specs.Prices.{chosen_of}
use Rattle.network_edit_laws.proofs.KeptEntries.{IsEntry, entry_was, entry_stays}

-- marks that cut the same ranges give the same leaves
module _ (marks others : List Service) (same : (s : Service) → IsCut marks s ↔ IsCut others s) where
  leaf_too : (whole leaf : Service) → IsServiceLeaf marks whole leaf → IsServiceLeaf others whole leaf
  leaf_too whole leaf is = record {
    part = is.part;
    uncut = λ cut. is.uncut ((same leaf).1 cut);
    longest = λ s around inside uncut. is.longest s around inside (λ cut. uncut ((same s).0 cut));
  }

pub same_service_leaves : (marks others : List Service) → ((s : Service) → IsCut marks s ↔ IsCut others s) → (whole : Service) (leaves : List Service) →
    AreServiceLeaves marks whole leaves → AreServiceLeaves others whole leaves
same_service_leaves marks others same whole leaves are = record {
  rising = are.rising;
  each = λ s. (
    λ there. leaf_too marks others same whole s ((are.each s).0 there),
    λ leaf. (are.each s).1 (leaf_too others marks (λ t. ((same t).1, (same t).0)) whole s leaf),
  );
}

-- the range begins at this number, or has just ended
abbrev EndsAt : Service → ℕ → Type 0
EndsAt m n = (n ≡ m.low) ⊎ (n ≡ m.high + 1)

-- one of the marks begins at this number, or has just ended
record HasEnd (marks : List Service) (n : ℕ) : Type 0 where
  mark : Service
  one : Contains marks mark
  end : EndsAt mark n

ends_tell : (m : Service) (n : ℕ) → EndsAt m n ⊎ (EndsAt m n → ⊥)
ends_tell m n = elim (eqb_tells n m.low) [
  | inl low ↦ inl (inl low.1)
  | inr not_low ↦ elim (eqb_tells n (m.high + 1)) [
    | inl high ↦ inl (inr high.1)
    | inr not_high ↦ inr (λ h. elim h [ inl e ↦ not_low.1 e | inr e ↦ not_high.1 e ])
  ]
]

has_end_or_not : (marks : List Service) (n : ℕ) → HasEnd marks n ⊎ (HasEnd marks n → ⊥)
has_end_or_not [] n = inr (λ h. Contains-none h.mark h.one)
has_end_or_not (m ∷ ms) n = elim (ends_tell m n) [
  | inl end ↦ inl (record { mark = m; one = Contains-head m ms; end = end })
  | inr off ↦ elim (has_end_or_not ms n) [
    | inl has ↦ inl (record { mark = has.mark; one = Contains-tail m has.mark ms has.one; end = has.end })
    | inr none ↦ inr (λ h. elim (Contains-cases m h.mark ms h.one) [
      | inl same ↦ off (subst (λ (x : Service). EndsAt x n) (sym same) h.end)
      | inr later ↦ none (record { mark = h.mark; one = later; end = h.end })
    ])
  ]
]

-- a range is cut exactly where a mark begins or has just ended after its first service
cut_from : (marks : List Service) (s : Service) (n : ℕ) → HasEnd marks n → s.low < n → n ≤ s.high → IsCut marks s
cut_from marks s zero has above within = absurd (omega (arith, above))
cut_from marks s (suc n) has above within =
    let e : n + 1 ≡ suc n = omega arith in
    record {
      mark = has.mark;
      one = has.one;
      service = n;
      first = serve s n (omega (arith, above)) (omega (arith, within));
      next = serve s (n + 1) (omega (arith, above)) (omega (arith, within));
      parted = ends_part has.mark n (elim has.end [ inl f ↦ inl (e ∙ f) | inr f ↦ inr (e ∙ f) ]);
    }

-- such a place
record IsPlaceIn (marks : List Service) (s : Service) (n : ℕ) : Type 0 where
  above : s.low < n
  within : n ≤ s.high
  has : HasEnd marks n

place_of : (marks : List Service) (s : Service) (cut : IsCut marks s) → IsPlaceIn marks s (cut.service + 1)
place_of marks s cut =
    let l = bounds s cut.service cut.first in
    let h = bounds s (cut.service + 1) cut.next in
    elim (ends_or_alike cut.mark cut.service) [
      | inl end ↦ record { above = omega (arith, l.0); within = h.1; has = record { mark = cut.mark; one = cut.one; end = end } }
      | inr same ↦ absurd (cut.parted same)
    ]

predecessor : (n : ℕ) → 0 < n → (m : ℕ) × (m + 1 ≡ n)
predecessor zero some = absurd (omega (arith, some))
predecessor (suc m) some = (m, omega arith)

-- a leaf of a marked whole begins where a mark begins or has just ended, and ends so
module _ (marks : List Service) (whole leaf : Service) (marked : Contains marks whole) (is : IsServiceLeaf marks whole leaf) where
  leaf_low : HasEnd marks leaf.low
  leaf_low =
      let ordered : leaf.low ≤ leaf.high = leaf.ordered in
      let bound : leaf.high < 2 ^ 24 = leaf.in_range in
      let ends = inside_ends leaf whole is.part in
      elim (has_end_or_not marks leaf.low) [
        | inl has ↦ has
        | inr none ↦ elim (eqb_tells whole.low leaf.low) [
          | inl first ↦ record { mark = whole; one = marked; end = inl (sym first.1) }
          | inr later ↦
              let before : (m : ℕ) × (m + 1 ≡ leaf.low) = predecessor leaf.low (omega (arith, ends.0, later.1)) in
              let longer : Service = record { low = before.0; high = leaf.high; ordered = omega (arith, before.1, ordered); in_range = bound } in
              let uncut : ¬ IsCut marks longer = λ cut. let at = place_of marks longer cut in elim (eqb_tells (cut.service + 1) leaf.low) [
                | inl here ↦ none (subst (HasEnd marks) here.1 at.has)
                | inr past ↦ is.uncut (cut_from marks leaf (cut.service + 1) at.has (omega (arith, at.above, past.1, before.1)) at.within)
              ] in
              let same : longer ≡ leaf = is.longest longer (ends_inside leaf longer (omega (arith, before.1)) (omega arith))
              (ends_inside longer whole (omega (arith, before.1, ends.0, later.1)) ends.1) uncut in
              absurd (omega (arith, before.1, ap (λ (s : Service). s.low) same))
        ]
      ]

  leaf_high : HasEnd marks (leaf.high + 1)
  leaf_high =
      let ordered : leaf.low ≤ leaf.high = leaf.ordered in
      let ends = inside_ends leaf whole is.part in
      let bound : whole.high < 2 ^ 24 = whole.in_range in
      elim (has_end_or_not marks (leaf.high + 1)) [
        | inl has ↦ has
        | inr none ↦ elim (eqb_tells leaf.high whole.high) [
          | inl last ↦ record { mark = whole; one = marked; end = inr (ap (λ (n : ℕ). n + 1) last.1) }
          | inr before ↦
              let longer : Service = record { low = leaf.low; high = leaf.high + 1; ordered = omega (arith, ordered); in_range = omega (arith, ends.1, before.1, bound) } in
              let uncut : ¬ IsCut marks longer = λ cut. let at = place_of marks longer cut in elim (eqb_tells (cut.service + 1) (leaf.high + 1)) [
                | inl here ↦ none (subst (HasEnd marks) here.1 at.has)
                | inr past ↦ is.uncut (cut_from marks leaf (cut.service + 1) at.has at.above (omega (arith, at.within, past.1)))
              ] in
              let same : longer ≡ leaf = is.longest longer (ends_inside leaf longer (omega arith) (omega arith))
              (ends_inside longer whole ends.0 (omega (arith, ends.1, before.1))) uncut in
              absurd (omega (arith, ap (λ (s : Service). s.high) same))
        ]
      ]

-- what a range of services marks: itself, and the protocol inside of which it begins, or ends
abbrev IsAround : Service → ℕ → Type 0
IsAround m n = (m.low ≡ n / 65536 * 65536) × (m.high ≡ n / 65536 * 65536 + 65535)

abbrev MarksAs : Service → Service → Type 0
MarksAs s m = (s ≡ m) ⊎ (((s.low % 65536 ≢ 0) × IsAround m s.low) ⊎ ((s.high % 65536 ≢ 65535) × IsAround m s.high))

begin_marks : (s : Service) (n : ℕ) (l : n < 2 ^ 24) (b : Bool) (m : Service) → nat_eq (n % 65536) 0 ≡ b → Contains (if b then [] else whole_protocol n l ∷ []) m →
    (n % 65536 ≢ 0) × IsAround m n
begin_marks s n l true m e there = absurd (Contains-none m there)
begin_marks s n l false m e there = elim (Contains-cases (whole_protocol n l) m [] there) [
  | inl same ↦ (λ z. false≢true (sym e ∙ eq-eqb (n % 65536) 0 z), subst (λ (x : Service). IsAround x n) same (refl, refl))
  | inr none ↦ absurd (Contains-none m none)
]

end_marks : (s : Service) (n : ℕ) (l : n < 2 ^ 24) (b : Bool) (m : Service) → nat_eq (n % 65536) 65535 ≡ b → Contains (if b then [] else whole_protocol n l ∷ []) m →
    (n % 65536 ≢ 65535) × IsAround m n
end_marks s n l true m e there = absurd (Contains-none m there)
end_marks s n l false m e there = elim (Contains-cases (whole_protocol n l) m [] there) [
  | inl same ↦ (λ z. false≢true (sym e ∙ eq-eqb (n % 65536) 65535 z), subst (λ (x : Service). IsAround x n) same (refl, refl))
  | inr none ↦ absurd (Contains-none m none)
]

-- the first service of a range is one of all
abbrev below_all : (s : Service) → s.low < 2 ^ 24
below_all s = let a : s.low ≤ s.high = s.ordered in let b : s.high < 2 ^ 24 = s.in_range in omega (arith, a, b)

-- the two lists that a range adds to itself
abbrev low_marks : Service → List Service
low_marks s = if nat_eq (s.low % 65536) 0 then [] else whole_protocol s.low (below_all s) ∷ []

abbrev high_marks : Service → List Service
high_marks s = if nat_eq (s.high % 65536) 65535 then [] else whole_protocol s.high s.in_range ∷ []

marks_as : (s m : Service) → Contains (marks_of s) m → MarksAs s m
marks_as s m there = elim (Contains-cases s m (low_marks s ++ high_marks s) there) [
  | inl same ↦ inl same
  | inr more ↦ elim (Contains-append_cases (low_marks s) (high_marks s) m more) [
    | inl low ↦ inr (inl (begin_marks s s.low (below_all s) (nat_eq (s.low % 65536) 0) m refl low))
    | inr high ↦ inr (inr (end_marks s s.high s.in_range (nat_eq (s.high % 65536) 65535) m refl high))
  ]
]

-- a range that begins inside of a protocol marks all of it, and so does one that ends there
record MarksAround (s : Service) (n : ℕ) : Type 0 where
  mark : Service
  one : Contains (marks_of s) mark
  around : IsAround mark n

around_low : (s : Service) → s.low % 65536 ≢ 0 → MarksAround s s.low
around_low s inside = record {
  mark = whole_protocol s.low (below_all s);
  one = Contains-tail s (whole_protocol s.low (below_all s)) (low_marks s ++ high_marks s)
      (Contains-append_left (low_marks s) (high_marks s) (whole_protocol s.low (below_all s))
      (subst (λ (b : Bool). Contains (if b then [] else whole_protocol s.low (below_all s) ∷ []) (whole_protocol s.low (below_all s)))
      (sym (ne_eqb (s.low % 65536) 0 inside)) (Contains-head (whole_protocol s.low (below_all s)) [])));
  around = (refl, refl);
}

around_high : (s : Service) → s.high % 65536 ≢ 65535 → MarksAround s s.high
around_high s inside = record {
  mark = whole_protocol s.high s.in_range;
  one = Contains-tail s (whole_protocol s.high s.in_range) (low_marks s ++ high_marks s)
      (Contains-append_right (low_marks s) (high_marks s) (whole_protocol s.high s.in_range)
      (subst (λ (b : Bool). Contains (if b then [] else whole_protocol s.high s.in_range ∷ []) (whole_protocol s.high s.in_range))
      (sym (ne_eqb (s.high % 65536) 65535 inside)) (Contains-head (whole_protocol s.high s.in_range) [])));
  around = (refl, refl);
}

-- the range is the service of an entry, or of a policy
abbrev IsSaid : Network → List Policy → Service → Type 0
IsSaid net policies s = ((e : PacketEntry) × IsEntry net e × (e.service ≡ s)) ⊎ ((p : Policy) × Contains policies p × (p.service ≡ s))

module _ (net : Network) (policies : List Policy) where
  abbrev marks : List Service
  marks = service_marks net policies

  said_mark : (s m : Service) → IsSaid net policies s → Contains (marks_of s) m → Contains marks m
  said_mark s m (inl (e, is, same)) there =
      Contains-append_left (flat_map entry_services net.packet_lists) (flat_map (λ (p : Policy). marks_of p.service) policies) m
      (Contains-piece entry_services net.packet_lists is.list m is.one
      (Contains-piece (λ (x : PacketEntry). marks_of x.service) is.list.entries e m is.there (subst (λ (x : Service). Contains (marks_of x) m) (sym same) there)))
  said_mark s m (inr (p, one, same)) there =
      Contains-append_right (flat_map entry_services net.packet_lists) (flat_map (λ (p : Policy). marks_of p.service) policies) m
      (Contains-piece (λ (x : Policy). marks_of x.service) policies p m one (subst (λ (x : Service). Contains (marks_of x) m) (sym same) there))

  mark_said : (m : Service) → Contains marks m → (s : Service) × IsSaid net policies s × Contains (marks_of s) m
  mark_said m there =
      elim (Contains-append_cases (flat_map entry_services net.packet_lists) (flat_map (λ (p : Policy). marks_of p.service) policies) m there) [
        | inl entry ↦
            let list = from_piece entry_services net.packet_lists m entry in
            let one = from_piece (λ (x : PacketEntry). marks_of x.service) list.0.entries m list.2 in
            (one.0.service, inl (one.0, record { list = list.0; one = list.1; there = one.1 }, refl), one.2)
        | inr policy ↦
            let one = from_piece (λ (x : Policy). marks_of x.service) policies m policy in
            (one.0.service, inr (one.0, one.1, refl), one.2)
      ]

  -- where a mark begins or has just ended inside of a protocol, all of this protocol is a mark
  protocol_marked : (n : ℕ) → n % 65536 ≢ 0 → HasEnd marks n → (m : Service) × Contains marks m × IsAround m n
  protocol_marked n inside has =
      let from = mark_said has.mark has.one in
      elim (marks_as from.0 has.mark from.2) [
        | inl same ↦ elim has.end [
          | inl low ↦
              let at : n ≡ from.0.low = low ∙ ap (λ (x : Service). x.low) (sym same) in
              let around = around_low from.0 (λ z. inside (ap (λ (k : ℕ). k % 65536) at ∙ z)) in
              (around.mark, said_mark from.0 around.mark from.1 around.one, subst (IsAround around.mark) (sym at) around.around)
          | inr high ↦
              let at : n ≡ from.0.high + 1 = high ∙ ap (λ (x : Service). x.high + 1) (sym same) in
              let around = around_high from.0 (λ z. inside (omega (arith, at, z))) in
              (around.mark, said_mark from.0 around.mark from.1 around.one, (omega (arith, around.around.0, at, inside), omega (arith, around.around.1, at, inside)))
        ]
        | inr (inl low) ↦ absurd (elim has.end [
          | inl e ↦ inside (omega (arith, e, low.1.0))
          | inr e ↦ inside (omega (arith, e, low.1.1))
        ])
        | inr (inr high) ↦ absurd (elim has.end [
          | inl e ↦ inside (omega (arith, e, high.1.0))
          | inr e ↦ inside (omega (arith, e, high.1.1))
        ])
      ]

module _ (net after : Network) (doc : Document) (list : List Edit) (flags : List Bool) (are : AreEdits net doc list) (is : IsAfter net (chosen_of list flags) after)
    (leaf : (c : Class) → Contains are.classes c → (policy : Policy) × Contains doc.policies policy × IsServiceLeaf (service_marks net doc.policies) policy.service c.service) where
  abbrev before : List Service
  before = service_marks net doc.policies

  class_low : (c : Class) → Contains are.classes c → HasEnd before c.service.low
  class_low c one =
      let of = leaf c one in
      leaf_low before of.0.service c.service (said_mark net doc.policies of.0.service of.0.service (inr (of.0, of.1, refl)) (Contains-head of.0.service _)) of.2

  class_high : (c : Class) → Contains are.classes c → HasEnd before (c.service.high + 1)
  class_high c one =
      let of = leaf c one in
      leaf_high before of.0.service c.service (said_mark net doc.policies of.0.service of.0.service (inr (of.0, of.1, refl)) (Contains-head of.0.service _)) of.2

  -- the ends of all of a protocol, inside of which a mark begins or has just ended
  around_end : (n k : ℕ) (m : Service) → n % 65536 ≢ 0 → HasEnd before n → IsAround m n → EndsAt m k → HasEnd before k
  around_end n k m inside has around end =
      let marked = protocol_marked net doc.policies n inside has in
      record {
        mark = marked.0;
        one = marked.1;
        end = elim end [
          | inl e ↦ inl (e ∙ around.0 ∙ sym marked.2.0)
          | inr e ↦ inr (e ∙ ap (λ (x : ℕ). x + 1) (around.1 ∙ sym marked.2.1))
        ];
      }

  -- what the entry for a class marks begins and ends where marks did before
  class_end : (c : Class) → Contains are.classes c → (m : Service) (n : ℕ) → MarksAs c.service m → EndsAt m n → HasEnd before n
  class_end c one m n (inl same) (inl low) = subst (HasEnd before) (ap (λ (x : Service). x.low) same ∙ sym low) (class_low c one)
  class_end c one m n (inl same) (inr high) = subst (HasEnd before) (ap (λ (x : Service). x.high + 1) same ∙ sym high) (class_high c one)
  class_end c one m n (inr (inl (inside, around))) end = around_end c.service.low n m inside (class_low c one) around end
  class_end c one m n (inr (inr (inside, around))) end =
      around_end (c.service.high + 1) n m (λ z. inside (omega (arith, z))) (class_high c one) (omega (arith, around.0, inside), omega (arith, around.1, inside)) end

  -- what a new list's last entry marks begins at the first service and ends at the last
  whole_end : (m : Service) (n : ℕ) → MarksAs whole_service m → EndsAt m n → 0 < n → n < 2 ^ 24 → HasEnd before n
  whole_end m n (inl same) (inl low) some few = absurd (omega (arith, low, ap (λ (x : Service). x.low) same, some))
  whole_end m n (inl same) (inr high) some few = absurd (omega (arith, high, ap (λ (x : Service). x.high) same, few))
  whole_end m n (inr (inl (inside, around))) end some few = absurd (inside refl)
  whole_end m n (inr (inr (inside, around))) end some few = absurd (inside refl)

  end_was : (m : Service) → Contains (service_marks after doc.policies) m → (n : ℕ) → EndsAt m n → 0 < n → n < 2 ^ 24 → HasEnd before n
  end_was m there n end some few =
      let from = mark_said after doc.policies m there in
      elim from.1 [
        | inl (e, now, same) ↦
            let marked : MarksAs e.service m = marks_as e.service m (subst (λ (x : Service). Contains (marks_of x) m) (sym same) from.2) in
            elim (entry_was net after doc list flags are is e now) [
              | inl old ↦ record { mark = m; one = said_mark net doc.policies from.0 m (inl (e, old, same)) from.2; end = end }
              | inr (inl for) ↦ class_end for.class for.one m n (subst (λ (x : PacketEntry). MarksAs x.service m) (sym for.same) marked) end
              | inr (inr last) ↦ whole_end m n (subst (λ (x : PacketEntry). MarksAs x.service m) (sym last) marked) end some few
            ]
        | inr policy ↦ record { mark = m; one = said_mark net doc.policies from.0 m (inr policy) from.2; end = end }
      ]

  mark_stays : (m : Service) → Contains before m → Contains (service_marks after doc.policies) m
  mark_stays m there =
      let from = mark_said net doc.policies m there in
      elim from.1 [
        | inl (e, old, same) ↦ said_mark after doc.policies from.0 m (inl (e, entry_stays net after doc list flags are is e old, same)) from.2
        | inr policy ↦ said_mark after doc.policies from.0 m (inr policy) from.2
      ]

  cut_was : (s : Service) → IsCut (service_marks after doc.policies) s → IsCut before s
  cut_was s cut =
      let at = place_of (service_marks after doc.policies) s cut in
      let bound : s.high < 2 ^ 24 = s.in_range in
      cut_from before s (cut.service + 1) (end_was at.has.mark at.has.one (cut.service + 1) at.has.end (omega arith) (omega (arith, at.within, bound))) at.above at.within

  pub same_cuts : (s : Service) → IsCut (service_marks net doc.policies) s ↔ IsCut (service_marks after doc.policies) s
  same_cuts s = (
    λ cut. record { mark = cut.mark; one = mark_stays cut.mark cut.one; service = cut.service; first = cut.first; next = cut.next; parted = cut.parted },
    cut_was s,
  )
