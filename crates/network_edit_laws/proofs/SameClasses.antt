-- After edits for a document its policies have the same classes: what the new entries mark is a leaf already.
use Rattle.std.proofs.Common.{◌≡◌, ◌↔◌, ◌⊎◌, inl, inr, Bool, List, [], ◌∷◌, ◌++◌, map, refl, sym, ◌∙◌, ap, subst, arith}
use Rattle.std.specs.Prelude.{Contains}
use Rattle.std.specs.List.{flat_map, AllZip}
use Rattle.std.proofs.lemmas.List.Elements.{Contains-append_left, Contains-append_right, Contains-append_cases}
use Rattle.arc_base.proofs.Agreement.{Holds-first}
use Rattle.arc_base.proofs.Items.{Contains-map, from_map, Contains-piece, from_piece}
use Rattle.arc_base.specs.declared.prefix.Prefix.{Prefix}
use Rattle.net_model.specs.declared.lists.PacketEntry.{PacketEntry}
use Rattle.net_model.specs.declared.lists.PacketList.{PacketList}
use Rattle.net_model.specs.declared.policies.Class.{Class}
use Rattle.net_model.specs.declared.policies.Document.{Document}
use Rattle.net_model.specs.declared.policies.Policy.{Policy}
use Rattle.net_model.specs.declared.rows.Network.{Network}
use Rattle.net_model.specs.declared.services.Service.{Service}
use Rattle.traffic_classes.specs.Classes.{source_marks, destination_marks, service_marks, AreClasses}
use Rattle.traffic_classes.specs.Leaves.{IsStrictlyInside, IsSplit, IsLeaf, AreLeaves}
use Rattle.traffic_classes.specs.ServiceLeaves.{IsCut, IsServiceLeaf}
use Rattle.traffic_classes.specs.Parts.{IsClassOf}
use Rattle.traffic_classes.proofs.MakingUp.{from_leaf, to_leaf, service_leaf}
use Rattle.traffic_classes.proofs.Ranges.{nested}
use Rattle.traffic_classes.proofs.Unions.{comes_from, tell_apart}
use Rattle.edit_list.specs.declared.edit_kinds.Edit.{Edit}
use Rattle.edit_list.specs.After.{any, class_entry, every_packet, IsAfter}
use Rattle.edit_list.specs.EditLists.{AreEdits}
use Rattle.network_edit_laws.specs.Kept.{ClassesStay, AllClassesStay, ListsStayUniform}
use Rattle.edit_list.specs.Prices.{chosen_of}
use Rattle.network_edit_laws.proofs.KeptEntries.{IsEntry, entry_was, entry_stays}
use Rattle.network_edit_laws.proofs.SameServices.{same_cuts, same_service_leaves}

-- marks that split the same prefixes give the same leaves
module _ (marks others : List Prefix) (same : (p : Prefix) → IsSplit marks p ↔ IsSplit others p) where
  leaf_too : (whole leaf : Prefix) → IsLeaf marks whole leaf → IsLeaf others whole leaf
  leaf_too whole leaf is = record {
    part = is.part;
    unsplit = λ split. is.unsplit ((same leaf).1 split);
    largest = λ p strict inside. (same p).0 (is.largest p strict inside);
  }

abbrev Split : List Prefix → List Prefix → Type 0
Split marks others = (p : Prefix) → IsSplit marks p ↔ IsSplit others p

turned : (marks others : List Prefix) → Split marks others → Split others marks
turned marks others same p = ((same p).1, (same p).0)

leaves_too : (marks others : List Prefix) → Split marks others → (whole : Prefix) (leaves : List Prefix) → AreLeaves marks whole leaves → AreLeaves others whole leaves
leaves_too marks others same whole leaves are = record {
  rising = are.rising;
  each = λ p. (
    λ there. leaf_too marks others same whole p ((are.each p).0 there),
    λ leaf. (are.each p).1 (leaf_too others marks (turned marks others same) whole p leaf),
  );
}

-- one side of packets: sources or destinations
module _ (side : PacketEntry → Prefix) (side_of : Class → Prefix) (end_of : Policy → Prefix) where
  abbrev marks_of : Network → List Policy → List Prefix
  marks_of net policies = flat_map (λ l. map side l.entries) net.packet_lists ++ map end_of policies

  entry_mark : (net : Network) (policies : List Policy) (e : PacketEntry) → IsEntry net e → Contains (marks_of net policies) (side e)
  entry_mark net policies e is =
      Contains-append_left (flat_map (λ (l : PacketList). map side l.entries) net.packet_lists) (map end_of policies) (side e)
      (Contains-piece (λ (l : PacketList). map side l.entries) net.packet_lists is.list (side e) is.one (Contains-map side is.list.entries e is.there))

  policy_mark : (net : Network) (policies : List Policy) (m : Prefix) → Contains (map end_of policies) m → Contains (marks_of net policies) m
  policy_mark net policies m there = Contains-append_right (flat_map (λ (l : PacketList). map side l.entries) net.packet_lists) (map end_of policies) m there

  -- a mark is the side of an entry, or a policy's
  mark_from : (net : Network) (policies : List Policy) (m : Prefix) → Contains (marks_of net policies) m →
      ((e : PacketEntry) × IsEntry net e × (side e ≡ m)) ⊎ Contains (map end_of policies) m
  mark_from net policies m there =
      elim (Contains-append_cases (flat_map (λ (l : PacketList). map side l.entries) net.packet_lists) (map end_of policies) m there) [
        | inl entry ↦
            let from = from_piece (λ (l : PacketList). map side l.entries) net.packet_lists m entry in
            let one = from_map side from.0.entries m from.2 in
            inl (one.0, record { list = from.0; one = from.1; there = one.1 }, one.2)
        | inr policy ↦ inr policy
      ]

  module _ (fits : (b : Bool) (c : Class) → side (class_entry b c) ≡ side_of c) (free : side every_packet ≡ any)
      (net after : Network) (doc : Document) (list : List Edit) (flags : List Bool) (are : AreEdits net doc list) (is : IsAfter net (chosen_of list flags) after)
      (leaf : (c : Class) → Contains are.classes c → (policy : Policy) × Contains doc.policies policy × IsLeaf (marks_of net doc.policies) (end_of policy) (side_of c)) where
    -- a mark of the network after the edits is one of the network before, the side of a class, or all addresses
    abbrev Marks : Prefix → Type 0
    Marks m = Contains (marks_of net doc.policies) m ⊎ (((c : Class) × Contains are.classes c × (side_of c ≡ m)) ⊎ (m ≡ any))

    entry_was_mark : (e : PacketEntry) → IsEntry after e → Marks (side e)
    entry_was_mark e now = elim (entry_was net after doc list flags are is e now) [
      | inl old ↦ inl (entry_mark net doc.policies e old)
      | inr (inl for) ↦ inr (inl (for.class, for.one, sym (fits for.permit for.class) ∙ ap side for.same))
      | inr (inr last) ↦ inr (inr (ap side (sym last) ∙ free))
    ]

    mark_was : (m : Prefix) → Contains (marks_of after doc.policies) m → Marks m
    mark_was m there = elim (mark_from after doc.policies m there) [
      | inl (e, now, same) ↦ subst Marks same (entry_was_mark e now)
      | inr policy ↦ inl (policy_mark net doc.policies m policy)
    ]

    mark_stays : (m : Prefix) → Contains (marks_of net doc.policies) m → Contains (marks_of after doc.policies) m
    mark_stays m there = elim (mark_from net doc.policies m there) [
      | inl (e, old, same) ↦ subst (λ (q : Prefix). Contains (marks_of after doc.policies) q) same (entry_mark after doc.policies e (entry_stays net after doc list flags are is e old))
      | inr policy ↦ policy_mark after doc.policies m policy
    ]

    -- a prefix that a class lies strictly inside of is split already
    class_splits : (c : Class) (p : Prefix) → Contains are.classes c → IsStrictlyInside (side_of c) p → IsSplit (marks_of net doc.policies) p
    class_splits c p one strict =
        let of = leaf c one in
        elim (nested p (end_of of.0) (side_of c).addr (strict.part (side_of c).addr (Holds-first (side_of c))) (of.2.part (side_of c).addr (Holds-first (side_of c)))) [
          | inl inside ↦ of.2.largest p strict inside
          | inr whole ↦ record {
            mark = end_of of.0;
            one = policy_mark net doc.policies (end_of of.0) (Contains-map end_of doc.policies of.0 of.1);
            inside = whole;
          }
        ]

    by_mark : (p m : Prefix) → IsStrictlyInside m p → Marks m → IsSplit (marks_of net doc.policies) p
    by_mark p m strict (inl old) = record { mark = m; one = old; inside = strict }
    by_mark p m strict (inr (inl (c, one, same))) = class_splits c p one (subst (λ (q : Prefix). IsStrictlyInside q p) (sym same) strict)
    by_mark p m strict (inr (inr same)) = absurd (omega (arith, strict.longer, ap (λ (q : Prefix). q.len) same))

    pub same_splits : (p : Prefix) → IsSplit (marks_of net doc.policies) p ↔ IsSplit (marks_of after doc.policies) p
    same_splits p = (
      λ split. record { mark = split.mark; one = mark_stays split.mark split.one; inside = split.inside },
      λ split. by_mark p split.mark split.inside (mark_was split.mark split.one),
    )

module _ (net after : Network) (doc : Document) (list : List Edit) (flags : List Bool) (are : AreEdits net doc list) (is : IsAfter net (chosen_of list flags) after) where
  source_leaf : (c : Class) → Contains are.classes c → (policy : Policy) × Contains doc.policies policy × IsLeaf (source_marks net doc.policies) policy.from c.from
  source_leaf c one =
      let of : IsClassOf net doc.policies doc.policies c = comes_from net doc.policies doc.policies are.classes are.classes_are c one in
      (of.policy, of.one, from_leaf net doc.policies of.policy of.classes of.are c of.there)

  destination_leaf : (c : Class) → Contains are.classes c → (policy : Policy) × Contains doc.policies policy × IsLeaf (destination_marks net doc.policies) policy.to c.to
  destination_leaf c one =
      let of : IsClassOf net doc.policies doc.policies c = comes_from net doc.policies doc.policies are.classes are.classes_are c one in
      (of.policy, of.one, to_leaf net doc.policies of.policy of.classes of.are c of.there)

  sources : Split (source_marks net doc.policies) (source_marks after doc.policies)
  sources = same_splits (λ e. e.from) (λ c. c.from) (λ p. p.from) (λ b c. refl) refl net after doc list flags are is source_leaf

  destinations : Split (destination_marks net doc.policies) (destination_marks after doc.policies)
  destinations = same_splits (λ e. e.to) (λ c. c.to) (λ p. p.to) (λ b c. refl) refl net after doc list flags are is destination_leaf

  service_leaf_of : (c : Class) → Contains are.classes c → (policy : Policy) × Contains doc.policies policy × IsServiceLeaf (service_marks net doc.policies) policy.service c.service
  service_leaf_of c one =
      let of : IsClassOf net doc.policies doc.policies c = comes_from net doc.policies doc.policies are.classes are.classes_are c one in
      (of.policy, of.one, service_leaf net doc.policies of.policy of.classes of.are c of.there)

  services : (s : Service) → IsCut (service_marks net doc.policies) s ↔ IsCut (service_marks after doc.policies) s
  services = same_cuts net after doc list flags are is service_leaf_of

  pub classes_now : (policy : Policy) (classes : List Class) → AreClasses net doc.policies policy classes → AreClasses after doc.policies policy classes
  classes_now policy classes c = record {
    sources = c.sources;
    destinations = c.destinations;
    sources_are = leaves_too (source_marks net doc.policies) (source_marks after doc.policies) sources policy.from c.sources c.sources_are;
    destinations_are = leaves_too (destination_marks net doc.policies) (destination_marks after doc.policies) destinations policy.to c.destinations c.destinations_are;
    services = c.services;
    services_are = same_service_leaves (service_marks net doc.policies) (service_marks after doc.policies) services policy.service c.services c.services_are;
    triples = c.triples;
  }

  pub classes_before : (policy : Policy) (classes : List Class) → AreClasses after doc.policies policy classes → AreClasses net doc.policies policy classes
  classes_before policy classes c = record {
    sources = c.sources;
    destinations = c.destinations;
    sources_are = leaves_too (source_marks after doc.policies) (source_marks net doc.policies)
        (turned (source_marks net doc.policies) (source_marks after doc.policies) sources) policy.from c.sources c.sources_are;
    destinations_are =
        leaves_too (destination_marks after doc.policies) (destination_marks net doc.policies)
        (turned (destination_marks net doc.policies) (destination_marks after doc.policies) destinations) policy.to c.destinations c.destinations_are;
    services = c.services;
    services_are =
        same_service_leaves (service_marks after doc.policies) (service_marks net doc.policies) (λ s. ((services s).1, (services s).0)) policy.service c.services c.services_are;
    triples = c.triples;
  }

zip_along : {X Y : Type 0} (R S : X → Y → Type 0) → ((x : X) (y : Y) → R x y → S x y) → (xs : List X) (ys : List Y) → AllZip R xs ys → AllZip S xs ys
zip_along R S along [] [] z = tt
zip_along R S along [] (y ∷ ys) z = absurd z
zip_along R S along (x ∷ xs) [] z = absurd z
zip_along R S along (x ∷ xs) (y ∷ ys) z = (along x y z.0, zip_along R S along xs ys z.1)

pub classes_stay : ClassesStay
classes_stay net after doc list flags are is policy classes = (classes_now net after doc list flags are is policy classes, classes_before net after doc list flags are is policy classes)

pub all_classes_stay : AllClassesStay
all_classes_stay net after doc list flags are is some classes = (
  λ all. record {
    lists = all.lists;
    are = zip_along (AreClasses net doc.policies) (AreClasses after doc.policies) (classes_now net after doc list flags are is) some all.lists all.are;
    once = all.once;
  },
  λ all. record {
    lists = all.lists;
    are = zip_along (AreClasses after doc.policies) (AreClasses net doc.policies)
        (classes_before net after doc list flags are is) some all.lists all.are;
    once = all.once;
  },
)

pub lists_stay_uniform : ListsStayUniform
lists_stay_uniform net after doc list flags are is classes all = (tell_apart after doc.policies classes ((all_classes_stay net after doc list flags are is doc.policies classes).0 all)).uniform
