-- The classes of a policy make up its packets, and those of two policies are equal or disjoint.
use Rattle.std.proofs.Common.{◌≡◌, ℕ, ◌*◌, ◌<◌, ◌⊎◌, inl, inr, Bool, true, false, List, map, refl, sym, ◌∙◌, ap, subst, arith}
use Rattle.std.specs.Prelude.{Contains, AllPairs, sum_by}
use Rattle.std.specs.List.{flat_map}
use Rattle.std.proofs.lemmas.Bool.{false≢true}
use Rattle.std.proofs.lemmas.List.Elements.{Contains-append_right}
use Rattle.arc_base.specs.Addresses.{size, holds, Holds, AreDisjoint}
use Rattle.arc_base.specs.declared.prefix.Prefix.{Prefix}
use Rattle.arc_base.proofs.Agreement.{AreDisjoint-firsts, Holds-first}
use Rattle.net_model.specs.declared.lists.PacketEntry.{PacketEntry}
use Rattle.net_model.specs.declared.lists.PacketList.{PacketList}
use Rattle.net_model.specs.declared.policies.Class.{Class}
use Rattle.net_model.specs.declared.policies.Policy.{Policy}
use Rattle.net_model.specs.declared.rows.Network.{Network}
use Rattle.net_model.specs.declared.services.Service.{Service}
use Rattle.net_model.specs.Packets.{LiesIn, ShareNoPacket, packets, subject}
use Rattle.net_model.specs.Services.{services}
use Rattle.net_model.specs.Witnesses.{IsUniformFor}
use Rattle.traffic_classes.specs.Leaves.{IsStrictlyInside, IsLeaf, AreLeaves}
use Rattle.traffic_classes.specs.ServiceLeaves.{IsServiceLeaf}
use Rattle.traffic_classes.specs.Classes.{source_marks, destination_marks, service_marks, marks_of, all_triples, AreClasses}
use Rattle.traffic_classes.specs.Parts.{MakeUp}
use Rattle.traffic_classes.specs.Laws.{HasOneListOfClasses, ClassesMakeUp, ClassesAreEqualOrDisjoint}
use Rattle.arc_base.proofs.Items.{Contains-map, Contains-piece, AllPairs-among, All-from}
use Rattle.traffic_classes.proofs.Ranges.{nested, same_or_strict}
use Rattle.traffic_classes.proofs.OneList.{HasAddress, tiles, same_leaves, leaf_holds, leaf_sizes}
use Rattle.traffic_classes.proofs.ServiceTiles.{HasService, same_service_leaves, some_tiles, leaf_tiles}
use Rattle.traffic_classes.proofs.Triples.{AreApart, triple, of_triples, in_triples, sum_triples, disjoint_triples}
use Rattle.traffic_classes.proofs.ServiceApart as services_of
use Rattle.traffic_classes.proofs.Uniform.{uniform_on, entry_services, own_mark}

abbrev Below : Prefix → Prefix → Type 0
Below p q = p.addr < q.addr

-- an address that both prefixes hold
pub record Meet (p q : Prefix) : Type 0 where
  pub address : ℕ
  pub first : Holds p address
  pub second : Holds q address

by_tests : (p q : Prefix) (b c : Bool) → holds p q.addr ≡ b → holds q p.addr ≡ c → Meet p q ⊎ AreDisjoint p q
by_tests p q true c e f = inl (record { address = q.addr; first = e; second = Holds-first q })
by_tests p q false true e f = inl (record { address = p.addr; first = Holds-first p; second = f })
by_tests p q false false e f = inr (AreDisjoint-firsts p q (λ h. false≢true (sym e ∙ h)) (λ h. false≢true (sym f ∙ h)))

-- two prefixes meet, or are disjoint
meet_or_apart : (p q : Prefix) → Meet p q ⊎ AreDisjoint p q
meet_or_apart p q = by_tests p q (holds p q.addr) (holds q p.addr) refl refl

-- no leaf lies strictly inside a leaf of the same whole, or of another whole where the first one is a mark
no_leaf_inside : (marks : List Prefix) (whole other p q : Prefix) → Contains marks whole → IsLeaf marks whole p → IsLeaf marks other q → IsStrictlyInside p q → ⊥
no_leaf_inside marks whole other p q marked leaf_p leaf_q strict =
    elim (nested q whole p.addr (strict.part p.addr (Holds-first p)) (leaf_p.part p.addr (Holds-first p))) [
      | inl part ↦ leaf_q.unsplit (leaf_p.largest q strict part)
      | inr around ↦ leaf_q.unsplit (record { mark = whole; one = marked; inside = around })
    ]

same_leaf : (marks : List Prefix) (whole other p q : Prefix) → Contains marks whole → Contains marks other → IsLeaf marks whole p → IsLeaf marks other q → Meet p q → p ≡ q
same_leaf marks whole other p q marked marked_too leaf_p leaf_q meet =
    elim (nested p q meet.address meet.first meet.second) [
      | inl part ↦ elim (same_or_strict p q part) [
        | inl e ↦ e
        | inr strict ↦ absurd (no_leaf_inside marks whole other p q marked leaf_p leaf_q strict)
      ]
      | inr strict ↦ absurd (no_leaf_inside marks other whole q p marked_too leaf_q leaf_p strict)
    ]

-- leaves of two marks are equal or disjoint
pub same_or_apart : (marks : List Prefix) (whole other p q : Prefix) → Contains marks whole → Contains marks other → IsLeaf marks whole p → IsLeaf marks other q →
    (p ≡ q) ⊎ AreDisjoint p q
same_or_apart marks whole other p q marked marked_too leaf_p leaf_q =
    elim (meet_or_apart p q) [
      | inl meet ↦ inl (same_leaf marks whole other p q marked marked_too leaf_p leaf_q meet)
      | inr off ↦ inr off
    ]

-- two leaves of one prefix with different first addresses are disjoint
leaf_apart : (marks : List Prefix) (whole p q : Prefix) → IsLeaf marks whole p → IsLeaf marks whole q → p.addr < q.addr → AreDisjoint p q
leaf_apart marks whole p q leaf_p leaf_q below a in_p in_q =
    elim (nested p q a in_p in_q) [
      | inl part ↦ elim (same_or_strict p q part) [
        | inl e ↦ let f : p.addr ≡ q.addr = ap (λ (r : Prefix). r.addr) e in absurd (omega (arith, f, below))
        | inr strict ↦ leaf_q.unsplit (leaf_p.largest q strict leaf_q.part)
      ]
      | inr strict ↦ leaf_p.unsplit (leaf_q.largest p strict leaf_p.part)
    ]

leaves_apart : (marks : List Prefix) (whole : Prefix) (leaves : List Prefix) → AreLeaves marks whole leaves → AllPairs AreDisjoint leaves
leaves_apart marks whole leaves are =
    AllPairs-among Below AreDisjoint leaves (λ p q in_p in_q below. leaf_apart marks whole p q ((are.each p).0 in_p) ((are.each q).0 in_q) below) are.rising

module _ (net : Network) (policies : List Policy) (policy : Policy) (classes : List Class) (are : AreClasses net policies policy classes) where
  in_triple : (c : Class) → Contains classes c → Contains are.sources c.from × Contains are.destinations c.to × Contains are.services c.service
  in_triple c h = of_triples are.sources are.destinations are.services c (subst (λ (l : List Class). Contains l c) are.triples h)

  pub from_leaf : (c : Class) → Contains classes c → IsLeaf (source_marks net policies) policy.from c.from
  from_leaf c h = (are.sources_are.each c.from).0 ((in_triple c h).0)

  pub to_leaf : (c : Class) → Contains classes c → IsLeaf (destination_marks net policies) policy.to c.to
  to_leaf c h = (are.destinations_are.each c.to).0 ((in_triple c h).1)

  pub service_leaf : (c : Class) → Contains classes c → IsServiceLeaf (service_marks net policies) policy.service c.service
  service_leaf c h = (are.services_are.each c.service).0 ((in_triple c h).2)

  pub disjoint_classes : AllPairs ShareNoPacket classes
  disjoint_classes =
      subst (λ (l : List Class). AllPairs ShareNoPacket l) (sym are.triples)
      (disjoint_triples are.sources are.destinations are.services
      (leaves_apart (source_marks net policies) policy.from are.sources are.sources_are)
      (leaves_apart (destination_marks net policies) policy.to are.destinations are.destinations_are)
      (services_of.service_leaves_apart (service_marks net policies) policy.service are.services are.services_are))

  sizes_sum : sum_by packets classes ≡ packets (subject policy)
  sizes_sum =
      ap (λ (l : List Class). sum_by packets l) are.triples ∙ sum_triples are.sources are.destinations are.services ∙
      ap (λ (x : ℕ). x * sum_by size are.destinations * sum_by services are.services) (leaf_sizes (source_marks net policies) policy.from are.sources are.sources_are) ∙
      ap (λ (x : ℕ). size policy.from * x * sum_by services are.services) (leaf_sizes (destination_marks net policies) policy.to are.destinations are.destinations_are) ∙
      ap (λ (x : ℕ). size policy.from * size policy.to * x) (leaf_tiles (service_marks net policies) policy.service are.services are.services_are).sizes_sum

  pub make_up : MakeUp net (subject policy) classes
  make_up = record {
    parts = All-from (λ (c : Class). LiesIn c (subject policy)) classes (λ c h. ((from_leaf c h).part, (to_leaf c h).part, (service_leaf c h).part));
    uniform = All-from (IsUniformFor net) classes (λ c h. uniform_on net policies c (from_leaf c h).unsplit (to_leaf c h).unsplit (service_leaf c h).uncut);
    disjoint = disjoint_classes;
    cover = λ p of. let s : HasAddress are.sources p.from = leaf_holds (source_marks net policies) policy.from are.sources are.sources_are p.from of.0 in
        let d : HasAddress are.destinations p.to = leaf_holds (destination_marks net policies) policy.to are.destinations are.destinations_are p.to of.1 in
        let v : HasService are.services p.service = (leaf_tiles (service_marks net policies) policy.service are.services are.services_are).cover p.service of.2 in
        record {
          class = triple s.leaf d.leaf v.leaf;
          one = subst (λ (l : List Class). Contains l (triple s.leaf d.leaf v.leaf)) (sym are.triples)
              (in_triples are.sources are.destinations are.services s.leaf d.leaf v.leaf s.one d.one v.one);
          is_of = (s.holds, d.holds, v.serves);
        };
    sizes = sizes_sum;
  }

pub classes_make_up : ClassesMakeUp
classes_make_up net policies policy classes are = make_up net policies policy classes are

pub one_list : (net : Network) (policies : List Policy) (policy : Policy) (xs ys : List Class) → AreClasses net policies policy xs → AreClasses net policies policy ys → xs ≡ ys
one_list net policies policy xs ys one two =
    one.triples ∙ ap (λ (l : List Prefix). all_triples l one.destinations one.services)
    (same_leaves (source_marks net policies) policy.from one.sources two.sources one.sources_are two.sources_are) ∙
    ap (λ (l : List Prefix). all_triples two.sources l one.services)
    (same_leaves (destination_marks net policies) policy.to one.destinations two.destinations one.destinations_are two.destinations_are) ∙
    ap (λ (l : List Service). all_triples two.sources two.destinations l)
    (same_service_leaves (service_marks net policies) policy.service one.services two.services one.services_are two.services_are) ∙ sym two.triples

-- the leaves of its two prefixes and of its services give a policy its classes
pub some_list : (net : Network) (policies : List Policy) (policy : Policy) → (classes : List Class) × AreClasses net policies policy classes
some_list net policies policy =
    let sources = tiles (source_marks net policies) policy.from in
    let destinations = tiles (destination_marks net policies) policy.to in
    let of_services = some_tiles (service_marks net policies) policy.service in (
      all_triples sources.leaves destinations.leaves of_services.0,
      record {
        sources = sources.leaves;
        destinations = destinations.leaves;
        services = of_services.0;
        sources_are = sources.are;
        destinations_are = destinations.are;
        services_are = of_services.1.are;
        triples = refl;
      },
    )

pub has_one_list : HasOneListOfClasses
has_one_list net policies policy = (some_list net policies policy, one_list net policies policy)

pub policy_source : (net : Network) (policies : List Policy) (policy : Policy) → Contains policies policy → Contains (source_marks net policies) policy.from
policy_source net policies policy h =
    Contains-append_right (flat_map (λ (l : PacketList). map (λ (e : PacketEntry). e.from) l.entries) net.packet_lists) (map (λ (p : Policy). p.from) policies) policy.from
    (Contains-map (λ (p : Policy). p.from) policies policy h)

pub policy_destination : (net : Network) (policies : List Policy) (policy : Policy) → Contains policies policy → Contains (destination_marks net policies) policy.to
policy_destination net policies policy h =
    Contains-append_right (flat_map (λ (l : PacketList). map (λ (e : PacketEntry). e.to) l.entries) net.packet_lists) (map (λ (p : Policy). p.to) policies) policy.to
    (Contains-map (λ (p : Policy). p.to) policies policy h)

pub policy_service : (net : Network) (policies : List Policy) (policy : Policy) → Contains policies policy → Contains (service_marks net policies) policy.service
policy_service net policies policy h =
    Contains-append_right (flat_map entry_services net.packet_lists) (flat_map (λ (p : Policy). marks_of p.service) policies) policy.service
    (Contains-piece (λ (p : Policy). marks_of p.service) policies policy policy.service h (own_mark policy.service))

by_parts : (c d : Class) → (c.from ≡ d.from) ⊎ AreDisjoint c.from d.from → (c.to ≡ d.to) ⊎ AreDisjoint c.to d.to → (c.service ≡ d.service) ⊎ AreApart c.service d.service →
    (c ≡ d) ⊎ ShareNoPacket c d
by_parts c d (inl e) (inl f) (inl g) = inl (λ i. record { from = e i; to = f i; service = g i })
by_parts c d (inr off) f g = inr (λ p h k. off p.from h.0 k.0)
by_parts c d (inl e) (inr off) g = inr (λ p h k. off p.to h.1 k.1)
by_parts c d (inl e) (inl f) (inr off) = inr (λ p h k. off p.service h.2 k.2)

pub equal_or_disjoint : ClassesAreEqualOrDisjoint
equal_or_disjoint net policies policy other xs ys in_policies in_too one two c d in_c in_d =
    by_parts c d
    (same_or_apart (source_marks net policies) policy.from other.from c.from d.from (policy_source net policies policy in_policies) (policy_source net policies other in_too)
    (from_leaf net policies policy xs one c in_c) (from_leaf net policies other ys two d in_d))
    (same_or_apart (destination_marks net policies) policy.to other.to c.to d.to (policy_destination net policies policy in_policies) (policy_destination net policies other in_too)
    (to_leaf net policies policy xs one c in_c) (to_leaf net policies other ys two d in_d))
    (services_of.same_or_apart (service_marks net policies) policy.service other.service c.service d.service
    (policy_service net policies policy in_policies) (policy_service net policies other in_too)
    (service_leaf net policies policy xs one c in_c) (service_leaf net policies other ys two d in_d))
