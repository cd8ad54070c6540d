-- What packet lists answer in the network after edits is what their conditions say.
use Rattle.std.proofs.Common.{◌≡◌, ◌≢◌, ◌↔◌, inl, inr, Bool, true, false, not, IsTrue, Option, Some, None, List, refl, sym, ◌∙◌, ap, subst}
use Rattle.std.specs.Prelude.{Contains, AllPairs, IfSome, IsSomeAnd, MatchBool, slice_get}
use Rattle.std.specs.Option.{option_map_or}
use Rattle.std.proofs.lemmas.Bool.{false≢true, cases_Bool}
use Rattle.std.proofs.lemmas.List.Elements.{All-contains}
use Rattle.arc_base.specs.declared.place.Face.{Face}
use Rattle.arc_base.specs.declared.place.ListId.{ListId}
use Rattle.arc_base.proofs.Items.{All-from}
use Rattle.net_model.specs.declared.lists.Packet.{Packet}
use Rattle.net_model.specs.declared.lists.PacketList.{PacketList}
use Rattle.net_model.specs.declared.policies.Class.{Class}
use Rattle.net_model.specs.declared.policies.Document.{Document}
use Rattle.net_model.specs.declared.rows.FaceRow.{FaceRow}
use Rattle.net_model.specs.declared.rows.Network.{Network}
use Rattle.net_model.specs.Lists.{permits}
use Rattle.net_model.specs.Packets.{IsOfClass, ShareNoPacket, first_packet}
use Rattle.net_model.specs.Forwarding.{ListPermits}
use Rattle.net_model.specs.Validity.{IsPlace, IsValidFace}
use Rattle.net_model.specs.Witnesses.{IsUniform, IsUniformFor}
use Rattle.net_model.proofs.Packets.{first_is_of}
use Rattle.net_model.proofs.Readings.{item_at_place}
use Rattle.traffic_classes.specs.Parts.{TellApart}
use Rattle.traffic_classes.proofs.Sameness.{is_same-Decides}
use Rattle.traffic_classes.proofs.Unions.{tell_apart}
use Rattle.traffic_classes.specs.AllClasses.{is_same_class}
use Rattle.condition_formula.specs.Conditions.{comes_true}
use Rattle.condition_formula.specs.Laws.{chosen_in}
use Rattle.edit_list.specs.declared.edit_kinds.Edit.{Edit}
use Rattle.edit_list.specs.declared.edit_kinds.Edit.TheVariants as edits
use Rattle.edit_list.specs.After.{with_classes, edited_packet_list, new_packet_entries, IsNewPacketList, PacketListMoves, StaysBound, IsInboundAfter}
use Rattle.edit_list.specs.Changes.{list_classes, new_classes}
use Rattle.arc_base.specs.Numbered.{is_empty}
use Rattle.edit_list.specs.Prices.{chosen_of}
use Rattle.network_edit_laws.proofs.Listed.{chosen_listed, class_put, class_listed}
use Rattle.network_edit_laws.proofs.Turning.{turning_classes, staying_packets}
use Rattle.policy_encode.specs.Answers.{packet_answer, list_condition, inbound_condition, outbound_condition}
use Rattle.policy_encode.specs.Laws.{IsEdited}
use Rattle.policy_encode.specs.Turning.{turned}
use Rattle.edit_list.proofs.Apart.{apart_of}
use Rattle.network_edit_laws.proofs.Changed.{packet_list_in, in_packet_list, packet_new_in, in_packet_new, new_packets_unbound}
use Rattle.policy_encode.proofs.Chosen.{chosen_turns, others_stay, either_chosen}
use Rattle.edit_list.proofs.EditsApart.{all_different}
use Rattle.network_edit_laws.proofs.NewEntries.{new_permits, new_denies}
use Rattle.network_edit_laws.proofs.Told.{some_item, no_item, told_by, at_some, both_by}

module _ (net : Network) (doc : Document) (list : List Edit) (flags : List Bool) (after : Network) (ed : IsEdited net doc list flags after) where
  apart : AllPairs (λ (e : Edit) (f : Edit). e ≢ f) list
  apart = all_different net doc list ed.valid ed.edits

  tell : TellApart net doc.policies ed.edits.classes
  tell = tell_apart net doc.policies ed.edits.classes ed.edits.classes_are

  class_in : (e : Edit) (c : Class) → Contains (chosen_of list flags) e → class_put e ≡ Some c → Contains ed.edits.classes c
  class_in e c there put = class_listed net ed.edits.destinations ed.edits.classes e c (subst (λ (l : List Edit). Contains l e) ed.edits.all (chosen_listed list flags e there)) put

  -- two classes of the document are one or share no packet
  one_or_none : (c d : Class) → Contains ed.edits.classes c → Contains ed.edits.classes d → (p : Packet) → IsOfClass c p → IsOfClass d p → c ≡ d
  one_or_none c d in_c in_d p of_c of_d = elim (cases_Bool (is_same_class c d)) [
    | inl t ↦ (is_same-Decides c d).0 t
    | inr f ↦ elim (apart_of ShareNoPacket ed.edits.classes tell.disjoint c d in_c in_d (λ e. false≢true (sym f ∙ (is_same-Decides c d).1 e))) [
      | inl none ↦ absurd (none p of_c of_d)
      | inr none ↦ absurd (none p of_d of_c)
    ]
  ]

  module _ (class : Class) (one : Contains ed.edits.classes class) (p : Packet) (of_p : IsOfClass class p) where
    alike : (was : PacketList) → Contains net.packet_lists was → (c : Class) → Contains ed.edits.classes c → IsUniform was.entries c
    alike was there c in_c =
        let uniform : IsUniformFor net c = All-contains (IsUniformFor net) ed.edits.classes c tell.uniform in_c in
        All-contains (λ (l : PacketList). IsUniform l.entries c) net.packet_lists was uniform there

    -- the list with entries at its front answers as its condition says
    edited_value : (id : ListId) (was : PacketList) → slice_get net.packet_lists id.0 ≡ Some was →
        permits (with_classes was.entries (list_classes (chosen_of list flags) id.0)) p ≡ comes_true (chosen_in flags) (list_condition net list class id)
    edited_value id was at =
        let cs = list_classes (chosen_of list flags) id.0 in
        let there : Contains net.packet_lists was = item_at_place net.packet_lists id.0 was at in
        let in_all : (c : Class) → Contains cs c → Contains ed.edits.classes c = λ c m. class_in (edits.PacketList id c) c (packet_list_in (chosen_of list flags) id c m) refl in
        let answer : permits was.entries p ≡ packet_answer net id class =
        alike was there class one p (first_packet class) of_p (first_is_of class) ∙ ap (λ o. option_map_or (λ (l : PacketList). permits l.entries (first_packet class)) o false) (sym at) in
        elim (either_chosen list flags (edits.PacketList id class) apart) [
          | inl picked ↦
              turning_classes was.entries cs (All-from (IsUniform was.entries) cs (λ c m. alike was there c (in_all c m))) class (in_packet_list (chosen_of list flags) id class picked) p of_p ∙
              ap not answer ∙ sym (chosen_turns list apart flags (edits.PacketList id class) (packet_answer net id class) picked)
          | inr unpicked ↦
              staying_packets was.entries cs p
              (λ c m of_c. unpicked (packet_list_in (chosen_of list flags) id class (subst (λ (d : Class). Contains cs d) (one_or_none c class (in_all c m) one p of_c of_p) m))) ∙
              answer ∙ sym (others_stay list apart flags (edits.PacketList id class) (packet_answer net id class) unpicked)
        ]

    by_place : (was now : ListId) (o : Option PacketList) → slice_get net.packet_lists was.0 ≡ o →
        IsSomeAnd o (λ l. slice_get after.packet_lists now.0 ≡ Some (edited_packet_list (chosen_of list flags) was.0 l)) →
        ListPermits after (Some now) p ↔ IsTrue (comes_true (chosen_in flags) (list_condition net list class was))
    by_place was now None at moves = absurd moves
    by_place was now (Some l) at moves =
        both_by (at_some (λ (k : PacketList). IsTrue (permits k.entries p)) (slice_get after.packet_lists now.0) (edited_packet_list (chosen_of list flags) was.0 l) moves)
        (told_by (permits (with_classes l.entries (list_classes (chosen_of list flags) was.0)) p) (comes_true (chosen_in flags) (list_condition net list class was)) (edited_value was l at))

    bound_value : (was : ListId) (n : Option ListId) → IsSomeAnd n (PacketListMoves net (chosen_of list flags) after was) →
        ListPermits after n p ↔ IsTrue (comes_true (chosen_in flags) (list_condition net list class was))
    bound_value was None moves = absurd moves
    bound_value was (Some now) moves = by_place was now (slice_get net.packet_lists was.0) refl moves

    none_permits : (n : Option ListId) → n ≡ None → ListPermits after n p
    none_permits n e = subst (λ (o : Option ListId). ListPermits after o p) (sym e) tt

    -- what is bound outbound
    pub outbound_value : (o n : Option ListId) → StaysBound (PacketListMoves net (chosen_of list flags) after) o n →
        ListPermits after n p ↔ IsTrue (comes_true (chosen_in flags) (outbound_condition net list class o))
    outbound_value None n stays = (λ h. refl, λ h. none_permits n stays)
    outbound_value (Some was) n stays = bound_value was n stays

    module _ (face : Face) (row : FaceRow) (at : slice_get net.faces face.0 ≡ Some row) where
      none_new : IfSome row.list_in (λ id. IsPlace net.packet_lists id.0 × IsTrue row.bound_in) → (id : ListId) → row.list_in ≡ Some id → (c : Class) →
          Contains (new_classes (chosen_of list flags) face.0) c → ⊥
      none_new valid id e c m =
          let bound = subst (λ (o : Option ListId). IfSome o (λ i. IsPlace net.packet_lists i.0 × IsTrue row.bound_in)) e valid in
          let new : Contains (chosen_of list flags) (edits.PacketNew face c) = packet_new_in (chosen_of list flags) face c m in
          false≢true (sym (new_packets_unbound net doc list ed.edits face c row (chosen_listed list flags (edits.PacketNew face c) new) at) ∙ bound.1)

      new_value : (n : Option ListId) → IsSomeAnd n (λ id. IsSomeAnd (slice_get after.packet_lists id.0) (IsNewPacketList net (chosen_of list flags) face)) →
          ListPermits after n p ↔ IsTrue (comes_true (chosen_in flags) (turned list (edits.PacketNew face class) true))
      new_value None h = absurd h
      new_value (Some id) h = by (slice_get after.packet_lists id.0) h
        where
          value : permits (new_packet_entries (new_classes (chosen_of list flags) face.0)) p ≡ comes_true (chosen_in flags) (turned list (edits.PacketNew face class) true)
          value = elim (either_chosen list flags (edits.PacketNew face class) apart) [
            | inl picked ↦ new_denies p (new_classes (chosen_of list flags) face.0) class (in_packet_new (chosen_of list flags) face class picked) of_p
                ∙ sym (chosen_turns list apart flags (edits.PacketNew face class) true picked)
            | inr unpicked ↦
                new_permits p class of_p (new_classes (chosen_of list flags) face.0) (λ c m of_c.
                let new = packet_new_in (chosen_of list flags) face c m in
                unpicked (subst (λ (d : Class). Contains (chosen_of list flags) (edits.PacketNew face d)) (one_or_none c class (class_in (edits.PacketNew face c) c new refl) one p of_c of_p) new)) ∙
                sym (others_stay list apart flags (edits.PacketNew face class) true unpicked)
          ]

          by : (o : Option PacketList) → IsSomeAnd o (IsNewPacketList net (chosen_of list flags) face) →
              IsSomeAnd o (λ (l : PacketList). IsTrue (permits l.entries p)) ↔ IsTrue (comes_true (chosen_in flags) (turned list (edits.PacketNew face class) true))
          by None k = absurd k
          by (Some l) k = told_by (permits l.entries p) (comes_true (chosen_in flags) (turned list (edits.PacketNew face class) true)) (ap (λ es. permits es p) k.entries ∙ value)

      by_new : (o n : Option ListId) → row.list_in ≡ o → IfSome row.list_in (λ id. IsPlace net.packet_lists id.0 × IsTrue row.bound_in) → (b : Bool) →
          is_empty (new_classes (chosen_of list flags) face.0) ≡ b →
          MatchBool b (StaysBound (PacketListMoves net (chosen_of list flags) after) o n)
          (IsSomeAnd n (λ id. IsSomeAnd (slice_get after.packet_lists id.0) (IsNewPacketList net (chosen_of list flags) face))) →
          ListPermits after n p ↔ IsTrue (comes_true (chosen_in flags) (inbound_condition net list class face o))
      by_new None n e valid true empty h = (
        λ k. others_stay list apart flags (edits.PacketNew face class) true
            (λ picked. no_item (new_classes (chosen_of list flags) face.0) empty class (in_packet_new (chosen_of list flags) face class picked)),
        λ k. none_permits n h,
      )
      by_new None n e valid false empty h = new_value n h
      by_new (Some was) n e valid true empty h = bound_value was n h
      by_new (Some was) n e valid false empty h = let c = some_item (new_classes (chosen_of list flags) face.0) empty in absurd (none_new valid was e c.0 c.1)

      -- what is bound inbound
      pub inbound_value : (n : Option ListId) → IsInboundAfter net (chosen_of list flags) after face.0 row.list_in n →
          ListPermits after n p ↔ IsTrue (comes_true (chosen_in flags) (inbound_condition net list class face row.list_in))
      inbound_value n h =
          let is : IsValidFace net face.0 row = ed.valid.faces face.0 row at in
          by_new row.list_in n refl is.list_in (is_empty (new_classes (chosen_of list flags) face.0)) refl h
