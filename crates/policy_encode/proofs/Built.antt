-- The question of a policy stands for the network after any edits, and is one over the network.
use Rattle.std.proofs.Common.{◌≡◌, ℕ, ◌<◌, ◌↔◌, Bool, true, false, IsTrue, Option, Some, List, length, map, refl, sym, ◌∙◌, ap, subst, arith}
use Rattle.std.specs.Prelude.{Contains, IsSomeAnd, slice_get, if◌then◌else◌}
use Rattle.std.proofs.lemmas.Bool.{false≢true}
use Rattle.std.proofs.lemmas.List.{length-map, get_or-map}
use Rattle.std.proofs.lemmas.List.Elements.{All-contains}
use Rattle.std.proofs.lemmas.Option.{slice_get_within, get_or_from_slice_get}
use Rattle.arc_base.specs.Addresses.{IsInside}
use Rattle.arc_base.specs.declared.prefix.Prefix.{Prefix}
use Rattle.arc_base.proofs.Items.{All-from}
use Rattle.net_model.specs.declared.lists.Packet.{Packet}
use Rattle.net_model.specs.declared.policies.Class.{Class}
use Rattle.net_model.specs.declared.policies.Document.{Document}
use Rattle.net_model.specs.declared.policies.Policy.{Policy}
use Rattle.net_model.specs.declared.policies.PolicyKind.{PolicyKind}
use Rattle.net_model.specs.declared.policies.PolicyKind.TheVariants as kinds
use Rattle.net_model.specs.declared.rows.FaceRow.{FaceRow}
use Rattle.net_model.specs.declared.rows.Network.{Network}
use Rattle.net_model.specs.Packets.{IsOfClass, LiesIn, subject}
use Rattle.net_model.specs.Routing.{Arc, IsArc, tail_router, head_router, tail_face, head_face}
use Rattle.net_model.specs.Forwarding.{Ends, AreEnds, Enters, Leaves, ListPermits}
use Rattle.net_model.specs.Policies.{Meets, MeetsAs}
use Rattle.net_model.specs.Validity.{IsValid, IsValidFace}
use Rattle.net_model.proofs.Hosts.{one_pair_of_ends}
use Rattle.net_model.proofs.Readings.{place_of_item, item_at_place}
use Rattle.traffic_classes.specs.Classes.{AreClasses}
use Rattle.traffic_classes.specs.Parts.{MakeUp, HasPacket, TellApart}
use Rattle.traffic_classes.proofs.MakingUp.{classes_make_up, has_one_list}
use Rattle.traffic_classes.proofs.Unions.{tell_apart}
use Rattle.graph_flow.specs.Paths as graphs
use Rattle.condition_formula.specs.declared.condition.Condition.{Condition}
use Rattle.condition_formula.specs.declared.condition.Condition.TheVariants.{Always, Never}
use Rattle.condition_formula.specs.declared.condition.ClassEnds.{ClassEnds}
use Rattle.condition_formula.specs.declared.network.ConditionArc.{ConditionArc}
use Rattle.condition_formula.specs.declared.network.Question.{Question}
use Rattle.condition_formula.specs.Conditions.{comes_true, ends_of, bare, IsMet, MeetsDemand, IsSound, IsAboutEdits}
use Rattle.condition_formula.specs.Laws.{chosen_in}
use Rattle.edit_list.specs.declared.edit_kinds.Edit.{Edit}
use Rattle.edit_list.specs.After.{IsFaceAfter}
use Rattle.edit_list.specs.Prices.{chosen_of}
use Rattle.edit_list.proofs.RowFacts.{item_of, row_now}
use Rattle.policy_encode.specs.Answers.{inbound_condition, outbound_condition, class_ends}
use Rattle.policy_encode.specs.Laws.{IsEdited}
use Rattle.policy_encode.specs.Questions.{arcs_to, demand_of, question_of, IsQuestion}
use Rattle.policy_encode.proofs.Arcs.{Stands, to_arc, from_arc}
use Rattle.policy_encode.proofs.Blocking.{IsIn, kept_off_blocks, kept_off_through, blocks_keep_off, through_keeps_off}
use Rattle.policy_encode.specs.Mirrors.{Mirrors}
use Rattle.policy_encode.proofs.Packets.{inbound_value, outbound_value}
use Rattle.policy_encode.proofs.Reaching.{reached_meets, meets_reached}
use Rattle.policy_encode.proofs.Shapes.{has_edits, of_link, is_graph, ends_of_edits}

-- the question of a policy is one over the network
pub is_sound : (net : Network) (policies : List Policy) (list : List Edit) (policy : Policy) (q : Question) → IsValid net →
    IsQuestion net policies list policy q → IsSound (length net.routers) (length net.links) (length list) q
is_sound net policies list policy q valid is =
    let s : IsValidFace net is.source.0 is.source_is.face = valid.faces is.source.0 is.source_is.face is.source_is.at_place in
    let t : IsValidFace net is.target.0 is.target_is.face = valid.faces is.target.0 is.target_is.face is.target_is.at_place in
    subst (IsSound (length net.routers) (length net.links) (length list)) (sym is.is) (record {
      source = s.router;
      target = t.router;
      graph = is_graph net list is.to is.classes valid;
      of_links = All-from (λ (arc : ConditionArc). arc.link.0 < length net.links) (arcs_to net list is.to is.classes) (of_link net list is.to is.classes);
      arcs = All-from (IsAboutEdits (length list)) (arcs_to net list is.to is.classes) (has_edits net list is.to is.classes);
      ends = ends_of_edits net list is.source is.source_is.face is.target_is.face is.classes;
    })

module _ (net : Network) (doc : Document) (list : List Edit) (flags : List Bool) (after : Network) (ed : IsEdited net doc list flags after) (policy : Policy)
    (member : Contains doc.policies policy) (q : Question) (is : IsQuestion net doc.policies list policy q) where
  abbrev chosen : ℕ → Bool
  chosen = chosen_in flags

  source_now : (y : FaceRow) × (slice_get after.faces is.source.0 ≡ Some y) × IsFaceAfter net (chosen_of list flags) after is.source.0 is.source_is.face y
  source_now = row_now (IsFaceAfter net (chosen_of list flags) after) net.faces after.faces ed.is_after.faces is.source.0 is.source_is.face is.source_is.at_place

  target_now : (y : FaceRow) × (slice_get after.faces is.target.0 ≡ Some y) × IsFaceAfter net (chosen_of list flags) after is.target.0 is.target_is.face y
  target_now = row_now (IsFaceAfter net (chosen_of list flags) after) net.faces after.faces ed.is_after.faces is.target.0 is.target_is.face is.target_is.at_place

  ends : Ends
  ends = record { source = source_now.0; target = target_now.0; to = is.to }

  make_up : MakeUp net (subject policy) is.classes
  make_up = classes_make_up net doc.policies policy is.classes is.classes_are

  known : (k : ℕ) (class : Class) → slice_get is.classes k ≡ Some class → Contains ed.edits.classes class
  known k class at =
      let tell : TellApart net doc.policies ed.edits.classes = tell_apart net doc.policies ed.edits.classes ed.edits.classes_are in
      (tell.each class).1 (record { policy = policy; one = member; classes = is.classes; are = is.classes_are; there = item_at_place is.classes k class at })

  parts : (k : ℕ) (class : Class) → slice_get is.classes k ≡ Some class → LiesIn class (subject policy)
  parts k class at = All-contains (λ (c : Class). LiesIn c (subject policy)) is.classes class make_up.parts (item_at_place is.classes k class at)

  cover : (p : Packet) → IsOfClass (subject policy) p → IsIn is.classes p
  cover p of_p =
      let has : HasPacket is.classes p = make_up.cover p of_p in
      let at = place_of_item is.classes has.class has.one in
      record { place = at.0; class = has.class; at = at.1; is_of = has.is_of }

  are_ends : AreEnds after (subject policy) ends
  unfolding ends source_now target_now
  are_ends = record {
    source = item_at_place after.faces is.source.0 source_now.0 source_now.1;
    from = subst (λ (o : Option Prefix). IsSomeAnd o (IsInside policy.from)) (sym (ap (λ (f : FaceRow). f.host) source_now.2.same)) is.source_is.lies;
    target = item_at_place after.faces is.target.0 target_now.0 target_now.1;
    host = ap (λ (f : FaceRow). f.host) target_now.2.same ∙ is.to_is;
    to = subst (λ (o : Option Prefix). IsSomeAnd o (IsInside policy.to)) is.to_is is.target_is.lies;
  }

  abbrev asked : Question
  asked = question_of net list policy.kind is.source is.source_is.face is.target_is.face is.to is.classes

  ends_are : (k : ℕ) (class : Class) → slice_get is.classes k ≡ Some class → ends_of asked k ≡ class_ends net list is.source is.source_is.face is.target_is.face class
  ends_are k class at =
      get_or-map (class_ends net list is.source is.source_is.face is.target_is.face) is.classes k class (record { enter = Always; leave = Always }) (slice_get_within is.classes k class at) ∙
      ap (class_ends net list is.source is.source_is.face is.target_is.face) (get_or_from_slice_get is.classes k class class at)

  if_up : (b : Bool) (c : Condition) (up : Bool) (P : Type 0) → up ≡ b → (P ↔ IsTrue (comes_true chosen c)) → (IsTrue up × P) ↔ IsTrue (comes_true chosen (if b then c else Never))
  if_up true c up P e value = (λ h. value.0 h.1, λ h. (e, value.1 h))
  if_up false c up P e value = (λ h. absurd (false≢true (sym e ∙ h.0)), λ h. absurd (false≢true h))

  enters : (k : ℕ) (class : Class) → slice_get is.classes k ≡ Some class → (p : Packet) → IsOfClass class p → Enters after ends p ↔ IsTrue (comes_true chosen (ends_of asked k).enter)
  unfolding ends source_now
  enters k class at p of_p =
      let value = if_up is.source_is.face.up (inbound_condition net list class is.source is.source_is.face.list_in) source_now.0.up (ListPermits after source_now.0.list_in p)
      (ap (λ (f : FaceRow). f.up) source_now.2.same)
      (inbound_value net doc list flags after ed class (known k class at) p of_p is.source is.source_is.face is.source_is.at_place source_now.0.list_in source_now.2.list_in) in
      let E : ClassEnds → Type 0 = λ e. IsTrue (comes_true chosen e.enter) in
      (λ h. subst E (sym (ends_are k class at)) (value.0 h), λ h. value.1 (subst E (ends_are k class at) h))

  leaves : (k : ℕ) (class : Class) → slice_get is.classes k ≡ Some class → (p : Packet) → IsOfClass class p → Leaves after ends p ↔ IsTrue (comes_true chosen (ends_of asked k).leave)
  unfolding ends target_now
  leaves k class at p of_p =
      let value = if_up is.target_is.face.up (outbound_condition net list class is.target_is.face.list_out) target_now.0.up (ListPermits after target_now.0.list_out p)
      (ap (λ (f : FaceRow). f.up) target_now.2.same)
      (outbound_value net doc list flags after ed class (known k class at) p of_p is.target_is.face.list_out target_now.0.list_out target_now.2.list_out) in
      let E : ClassEnds → Type 0 = λ e. IsTrue (comes_true chosen e.leave) in
      (λ h. subst E (sym (ends_are k class at)) (value.0 h), λ h. value.1 (subst E (ends_are k class at) h))

  mirrors : Mirrors after ends is.classes chosen asked
  unfolding ends source_now target_now
  mirrors =
      let sound : IsSound (length net.routers) (length net.links) (length list) asked = is_sound net doc.policies list policy asked ed.valid (record {
        source = is.source;
        target = is.target;
        to = is.to;
        classes = is.classes;
        source_is = is.source_is;
        target_is = is.target_is;
        to_is = is.to_is;
        classes_are = is.classes_are;
        is = refl;
      }) in
      let whole : length after.routers ≡ length net.routers = ed.is_after.routers.whole in
      record {
        source = sym (ap (λ (f : FaceRow). f.router.0) source_now.2.same);
        target = sym (ap (λ (f : FaceRow). f.router.0) target_now.2.same);
        count = length-map is.classes (class_ends net list is.source is.source_is.face is.target_is.face);
        source_node = subst (λ n. asked.source < n) (sym whole) sound.source;
        target_node = subst (λ n. asked.target < n) (sym whole) sound.target;
        graph = subst (λ n. graphs.IsGraph (record { nodes = n; arcs = map bare asked.arcs })) (sym whole) sound.graph;
        from_arc = λ arc is_arc routed. (
            let r : Stands net doc list flags after ed ends is.classes known arc = from_arc net doc list flags after ed ends is.classes known arc is_arc routed in
            record { ca = r.ca; one = r.one; routed = r.routed; is_mirror = r.is_mirror });
        to_arc = to_arc net doc list flags after ed ends is.classes known;
        enter = enters;
        leave = leaves;
      }

  reads : (k : ℕ) → k < length asked.classes → (class : Class) × (slice_get is.classes k ≡ Some class)
  reads k low =
      let l : k < length is.classes = omega (arith, low, length-map is.classes (class_ends net list is.source is.source_is.face is.target_is.face)) in
      let item = item_of is.classes k l in
      (item.0, item.1)

  nodes : (arc : Arc) → IsArc after arc → (tail_router arc < length after.routers) × (head_router arc < length after.routers)
  nodes arc is_arc =
      let t : IsValidFace after (tail_face arc).0 arc.tail = ed.valid_after.faces (tail_face arc).0 arc.tail is_arc.tail in
      let h : IsValidFace after (head_face arc).0 arc.head = ed.valid_after.faces (head_face arc).0 arc.head is_arc.head in
      (t.router, h.router)

  met_meets : (kind : PolicyKind) → asked.demand ≡ demand_of kind → MeetsDemand chosen asked (demand_of kind) → MeetsAs after ends (subject policy) kind
  met_meets kinds.Blocked demand met = kept_off_blocks after ends (subject policy) is.classes chosen asked mirrors parts cover reads demand met
  met_meets kinds.Through demand met = kept_off_through after ends (subject policy) is.classes chosen asked mirrors parts cover reads demand met
  met_meets (kinds.Reach k) demand met = reached_meets after ed.valid_after ends (subject policy) are_ends is.classes chosen asked mirrors parts cover reads k met

  meets_met : (kind : PolicyKind) → asked.demand ≡ demand_of kind → MeetsAs after ends (subject policy) kind → MeetsDemand chosen asked (demand_of kind)
  meets_met kinds.Blocked demand meets = blocks_keep_off after ends (subject policy) is.classes chosen asked mirrors parts cover reads demand meets
  meets_met kinds.Through demand meets = through_keeps_off after ends (subject policy) is.classes chosen asked mirrors parts cover reads demand meets
  meets_met (kinds.Reach k) demand meets = meets_reached after ed.valid_after ends (subject policy) are_ends is.classes chosen asked mirrors parts cover reads k meets nodes

  -- the edits meet the question exactly where the network after them meets the policy
  pub question_is_policy : IsMet chosen q ↔ Meets after policy
  question_is_policy = (
    λ met. record { ends = ends; are_ends = are_ends; meets = met_meets policy.kind refl (subst (λ (x : Question). IsMet chosen x) is.is met) },
    λ meets. subst (λ (x : Question). IsMet chosen x) (sym is.is) (meets_met policy.kind refl
        (subst (λ (e : Ends). MeetsAs after e (subject policy) policy.kind) (one_pair_of_ends after ed.valid_after (subject policy) meets.ends ends meets.are_ends are_ends) meets.meets)),
  )

  -- the question stands for the network after the edits
  pub question_mirrors : (others : Ends) (classes : List Class) → AreEnds after (subject policy) others → AreClasses net doc.policies policy classes → Mirrors after others classes chosen q
  question_mirrors others classes are are_classes =
      let same_ends : ends ≡ others = one_pair_of_ends after ed.valid_after (subject policy) ends others are_ends are in
      let same_classes : is.classes ≡ classes = (has_one_list net doc.policies policy).1 is.classes classes is.classes_are are_classes in
      subst (λ (x : Question). Mirrors after others classes chosen x) (sym is.is)
      (subst (λ (cs : List Class). Mirrors after others cs chosen asked) same_classes
      (subst (λ (e : Ends). Mirrors after e is.classes chosen asked) same_ends mirrors))
