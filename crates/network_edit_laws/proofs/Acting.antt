-- Lists with entries of edits at their front act wherever they are bound.
use Rattle.std.proofs.Common.{◌≡◌, ◌↔◌, ℕ, Bool, true, false, IsTrue, Option, Some, None, List, refl, sym, ◌∙◌, ap, subst}
use Rattle.std.specs.Prelude.{Contains, IfSome, IsSomeAnd, MatchBool, slice_get}
use Rattle.std.proofs.lemmas.Bool.{false≢true}
use Rattle.std.proofs.lemmas.List.Elements.{All-contains}
use Rattle.arc_base.specs.declared.place.Face.{Face}
use Rattle.arc_base.specs.declared.place.ListId.{ListId}
use Rattle.arc_base.specs.declared.prefix.Prefix.{Prefix}
use Rattle.arc_base.proofs.Items.{All-from}
use Rattle.net_model.specs.declared.lists.Packet.{Packet}
use Rattle.net_model.specs.declared.lists.PacketList.{PacketList}
use Rattle.net_model.specs.declared.lists.RouteList.{RouteList}
use Rattle.net_model.specs.declared.policies.Class.{Class}
use Rattle.net_model.specs.declared.policies.Document.{Document}
use Rattle.net_model.specs.declared.rows.FaceRow.{FaceRow}
use Rattle.net_model.specs.declared.rows.SessionRow.{SessionRow}
use Rattle.net_model.specs.declared.rows.Network.{Network}
use Rattle.net_model.specs.Forwarding.{ListPermits}
use Rattle.net_model.specs.Lists.{permits, route_permits}
use Rattle.net_model.specs.Routing.{RouteListPermits}
use Rattle.net_model.specs.Validity.{IsPlace, IsValid, IsValidFace, IsValidSession}
use Rattle.net_model.specs.Witnesses.{IsUniform, IsUniformFor}
use Rattle.net_model.proofs.Readings.{item_at_place}
use Rattle.traffic_classes.specs.Parts.{TellApart}
use Rattle.traffic_classes.proofs.Unions.{tell_apart}
use Rattle.edit_list.specs.declared.edit_kinds.Edit.{Edit}
use Rattle.edit_list.specs.declared.edit_kinds.Edit.TheVariants as edits
use Rattle.edit_list.specs.After.{with_classes, with_prefixes, edited_packet_list, edited_route_list, IsNewPacketList, IsNewRouteList}
use Rattle.edit_list.specs.After.{PacketListMoves, RouteListMoves, StaysBound, IsFaceAfter, IsSessionAfter, IsAfter}
use Rattle.edit_list.specs.Changes.{list_classes, list_prefixes, new_classes, new_prefixes}
use Rattle.edit_list.specs.EditLists.{AreEdits}
use Rattle.arc_base.specs.Numbered.{is_empty}
use Rattle.edit_list.specs.Prices.{chosen_of}
use Rattle.network_edit_laws.proofs.Listed.{chosen_listed, class_listed}
use Rattle.network_edit_laws.proofs.Turning.{turning_classes, staying_packets, turning_prefixes, staying_prefixes}
use Rattle.network_edit_laws.specs.Acting.{ActsOnPackets, ActsOnPrefixes, PacketListsActWhereverBound, RouteListsActWhereverBound}
use Rattle.edit_list.proofs.Apart.{one_session}
use Rattle.network_edit_laws.proofs.Changed.{route_list_in, in_route_list, route_new_in, packet_list_in, in_packet_list, packet_new_in, new_packets_unbound, new_routes_unbound}
use Rattle.network_edit_laws.proofs.Told.{some_item, told_by, turned_by, denied_by, at_some, both_by, other_way}

module _ (net : Network) (doc : Document) (list : List Edit) (flags : List Bool) (after : Network) (valid : IsValid net) (are : AreEdits net doc list)
    (is : IsAfter net (chosen_of list flags) after) where
  uniform : (id : ListId) (was : PacketList) → Contains net.packet_lists was → (c : Class) → Contains (list_classes (chosen_of list flags) id.0) c → IsUniform was.entries c
  uniform id was there c m =
      let tell : TellApart net doc.policies are.classes = tell_apart net doc.policies are.classes are.classes_are in
      let listed : Contains list (edits.PacketList id c) = chosen_listed list flags (edits.PacketList id c) (packet_list_in (chosen_of list flags) id c m) in
      let in_c : Contains are.classes c = class_listed net are.destinations are.classes (edits.PacketList id c) c (subst (λ (l : List Edit). Contains l (edits.PacketList id c)) are.all listed) refl in
      let all : IsUniformFor net c = All-contains (IsUniformFor net) are.classes c tell.uniform in_c in
      All-contains (λ (l : PacketList). IsUniform l.entries c) net.packet_lists was all there

  packets_at : (was now : ListId) (l : PacketList) → slice_get net.packet_lists was.0 ≡ Some l →
      slice_get after.packet_lists now.0 ≡ Some (edited_packet_list (chosen_of list flags) was.0 l) → ActsOnPackets net (chosen_of list flags) after was (Some now)
  packets_at was now l at moves = record {
    turned = λ p named.
        let t = turning_classes l.entries (list_classes (chosen_of list flags) was.0)
        (All-from (IsUniform l.entries) (list_classes (chosen_of list flags) was.0) (λ c m. uniform was l (item_at_place net.packet_lists was.0 l at) c m)) named.0
        (in_packet_list (chosen_of list flags) was named.0 named.1) p named.2 in
        both_by (now_is p) (both_by (turned_by (permits (with_classes l.entries (list_classes (chosen_of list flags) was.0)) p) (permits l.entries p) t) (denied_by (other_way (was_is p))));
    kept = λ p unnamed.
        let t = staying_packets l.entries (list_classes (chosen_of list flags) was.0) p (λ c m of_c. unnamed (c, packet_list_in (chosen_of list flags) was c m, of_c)) in
        both_by (now_is p) (both_by (told_by (permits (with_classes l.entries (list_classes (chosen_of list flags) was.0)) p) (permits l.entries p) t) (other_way (was_is p)));
  }
    where
      now_is : (p : Packet) → ListPermits after (Some now) p ↔ IsTrue (permits (with_classes l.entries (list_classes (chosen_of list flags) was.0)) p)
      now_is p = at_some (λ (k : PacketList). IsTrue (permits k.entries p)) (slice_get after.packet_lists now.0) (edited_packet_list (chosen_of list flags) was.0 l) moves

      was_is : (p : Packet) → ListPermits net (Some was) p ↔ IsTrue (permits l.entries p)
      was_is p = at_some (λ (k : PacketList). IsTrue (permits k.entries p)) (slice_get net.packet_lists was.0) l at

  packets_by : (was now : ListId) (o : Option PacketList) → slice_get net.packet_lists was.0 ≡ o →
      IsSomeAnd o (λ l. slice_get after.packet_lists now.0 ≡ Some (edited_packet_list (chosen_of list flags) was.0 l)) →
      ActsOnPackets net (chosen_of list flags) after was (Some now)
  packets_by was now None at moves = absurd moves
  packets_by was now (Some l) at moves = packets_at was now l at moves

  packets_act : (was : ListId) (n : Option ListId) → IsSomeAnd n (PacketListMoves net (chosen_of list flags) after was) → ActsOnPackets net (chosen_of list flags) after was n
  packets_act was None moves = absurd moves
  packets_act was (Some now) moves = packets_by was now (slice_get net.packet_lists was.0) refl moves

  prefixes_at : (was now : ListId) (l : RouteList) → slice_get net.route_lists was.0 ≡ Some l →
      slice_get after.route_lists now.0 ≡ Some (edited_route_list (chosen_of list flags) was.0 l) → ActsOnPrefixes net (chosen_of list flags) after was (Some now)
  prefixes_at was now l at moves = record {
    turned = λ to named.
        let t = turning_prefixes l.entries (list_prefixes (chosen_of list flags) was.0) to (in_route_list (chosen_of list flags) was to named) in
        both_by (now_is to) (both_by (turned_by (route_permits (with_prefixes l.entries (list_prefixes (chosen_of list flags) was.0)) to) (route_permits l.entries to) t)
        (denied_by (other_way (was_is to))));
    kept = λ to unnamed.
        let t = staying_prefixes l.entries (list_prefixes (chosen_of list flags) was.0) to (λ m. unnamed (route_list_in (chosen_of list flags) was to m)) in
        both_by (now_is to) (both_by (told_by (route_permits (with_prefixes l.entries (list_prefixes (chosen_of list flags) was.0)) to) (route_permits l.entries to) t) (other_way (was_is to)));
  }
    where
      now_is : (to : Prefix) → RouteListPermits after (Some now) to ↔ IsTrue (route_permits (with_prefixes l.entries (list_prefixes (chosen_of list flags) was.0)) to)
      now_is to = at_some (λ (k : RouteList). IsTrue (route_permits k.entries to)) (slice_get after.route_lists now.0) (edited_route_list (chosen_of list flags) was.0 l) moves

      was_is : (to : Prefix) → RouteListPermits net (Some was) to ↔ IsTrue (route_permits l.entries to)
      was_is to = at_some (λ (k : RouteList). IsTrue (route_permits k.entries to)) (slice_get net.route_lists was.0) l at

  prefixes_by : (was now : ListId) (o : Option RouteList) → slice_get net.route_lists was.0 ≡ o →
      IsSomeAnd o (λ l. slice_get after.route_lists now.0 ≡ Some (edited_route_list (chosen_of list flags) was.0 l)) →
      ActsOnPrefixes net (chosen_of list flags) after was (Some now)
  prefixes_by was now None at moves = absurd moves
  prefixes_by was now (Some l) at moves = prefixes_at was now l at moves

  prefixes_act : (was : ListId) (n : Option ListId) → IsSomeAnd n (RouteListMoves net (chosen_of list flags) after was) → ActsOnPrefixes net (chosen_of list flags) after was n
  prefixes_act was None moves = absurd moves
  prefixes_act was (Some now) moves = prefixes_by was now (slice_get net.route_lists was.0) refl moves

  -- no new list comes where one is bound
  bound_face : (face : Face) (row : FaceRow) (id : ListId) → slice_get net.faces face.0 ≡ Some row → row.list_in ≡ Some id → (c : Class) → Contains (new_classes (chosen_of list flags) face.0) c → ⊥
  bound_face face row id at e c m =
      let of_valid : IsValidFace net face.0 row = valid.faces face.0 row at in
      let bound = subst (λ (o : Option ListId). IfSome o (λ i. IsPlace net.packet_lists i.0 × IsTrue row.bound_in)) e of_valid.list_in in
      let new : Contains list (edits.PacketNew face c) = chosen_listed list flags (edits.PacketNew face c) (packet_new_in (chosen_of list flags) face c m) in
      false≢true (sym (new_packets_unbound net doc list are face c row new at) ∙ bound.1)

  bound_session : (s : SessionRow) (id : ListId) → Contains net.sessions s → s.filter ≡ Some id → (p : Prefix) → Contains (new_prefixes (chosen_of list flags) s.face.0) p → ⊥
  bound_session s id there e p m =
      let of_valid : IsValidSession net s = All-contains (IsValidSession net) net.sessions s valid.sessions there in
      let bound = subst (λ (o : Option ListId). IfSome o (λ i. IsPlace net.route_lists i.0 × IsTrue s.bound)) e of_valid.filter in
      let new : Contains list (edits.RouteNew s.face p) = chosen_listed list flags (edits.RouteNew s.face p) (route_new_in (chosen_of list flags) s.face p m) in
      let t = new_routes_unbound net doc list are s.face p new in
      let same : t.0 ≡ s = one_session net valid t.0 s t.1 there (ap (λ (f : Face). f.0) t.2) in
      false≢true (sym t.3 ∙ ap (λ (x : SessionRow). x.bound) same ∙ bound.1)

  module _ (place : ℕ) (was now : FaceRow) (was_at : slice_get net.faces place ≡ Some was) (now_at : slice_get after.faces place ≡ Some now) (id : ListId) where
    of_face : IsFaceAfter net (chosen_of list flags) after place was now
    of_face = is.faces.each place was now was_at now_at

    inbound : was.list_in ≡ Some id → ActsOnPackets net (chosen_of list flags) after id now.list_in
    inbound e = by (is_empty (new_classes (chosen_of list flags) place)) refl of_face.list_in
      where
        by : (b : Bool) → is_empty (new_classes (chosen_of list flags) place) ≡ b →
            MatchBool b (StaysBound (PacketListMoves net (chosen_of list flags) after) was.list_in now.list_in)
            (IsSomeAnd now.list_in (λ i. IsSomeAnd (slice_get after.packet_lists i.0) (IsNewPacketList net (chosen_of list flags) (record { 0 = place })))) →
            ActsOnPackets net (chosen_of list flags) after id now.list_in
        by true empty h = packets_act id now.list_in (subst (λ (o : Option ListId). StaysBound (PacketListMoves net (chosen_of list flags) after) o now.list_in) e h)
        by false empty h = let c = some_item (new_classes (chosen_of list flags) place) empty in absurd (bound_face (record { 0 = place }) was id was_at e c.0 c.1)

    outbound : was.list_out ≡ Some id → ActsOnPackets net (chosen_of list flags) after id now.list_out
    outbound e = packets_act id now.list_out (subst (λ (o : Option ListId). StaysBound (PacketListMoves net (chosen_of list flags) after) o now.list_out) e of_face.list_out)

  module _ (place : ℕ) (was now : SessionRow) (was_at : slice_get net.sessions place ≡ Some was) (now_at : slice_get after.sessions place ≡ Some now) (id : ListId) (e : was.filter ≡ Some id) where
    of_session : IsSessionAfter net (chosen_of list flags) after place was now
    of_session = is.sessions.each place was now was_at now_at

    filtered : ActsOnPrefixes net (chosen_of list flags) after id now.filter
    filtered = by (is_empty (new_prefixes (chosen_of list flags) was.face.0)) refl of_session.filter
      where
        by : (b : Bool) → is_empty (new_prefixes (chosen_of list flags) was.face.0) ≡ b →
            MatchBool b (StaysBound (RouteListMoves net (chosen_of list flags) after) was.filter now.filter)
            (IsSomeAnd now.filter (λ i. IsSomeAnd (slice_get after.route_lists i.0) (IsNewRouteList net (chosen_of list flags) was.face))) →
            ActsOnPrefixes net (chosen_of list flags) after id now.filter
        by true empty h = prefixes_act id now.filter (subst (λ (o : Option ListId). StaysBound (RouteListMoves net (chosen_of list flags) after) o now.filter) e h)
        by false empty h = let p = some_item (new_prefixes (chosen_of list flags) was.face.0) empty in absurd (bound_session was id (item_at_place net.sessions place was was_at) e p.0 p.1)

pub packet_lists_act : PacketListsActWhereverBound
packet_lists_act net doc list flags after valid are is place was now was_at now_at id =
    (inbound net doc list flags after valid are is place was now was_at now_at id, outbound net doc list flags after valid are is place was now was_at now_at id)

pub route_lists_act : RouteListsActWhereverBound
route_lists_act net doc list flags after valid are is place was now was_at now_at id e = filtered net doc list flags after valid are is place was now was_at now_at id e
