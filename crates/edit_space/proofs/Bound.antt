-- What is bound at the interfaces and sessions after edits.
use Rattle.std.proofs.Common.{◌≡◌, ℕ, ◌<◌, Bool, false, not, Option, Some, None, List, [], length, get_or, map, refl, sym, ◌∙◌, ap, subst, arith, eq-eqb, IsTrue, if◌then◌else◌}
use Rattle.std.specs.Prelude.{Contains, IfSome, IsSomeAnd, MatchBool, slice_get, option_map}
use Rattle.std.specs.List.{filter_map}
use Rattle.std.proofs.lemmas.List.{length-map}
use Rattle.std.proofs.lemmas.List.Elements.{Contains-append_left, Contains-append_right, All-contains}
use Rattle.std.proofs.lemmas.Option.{slice_get-map, slice_get_within, slice_get-get_or, same_Some}
use Rattle.arc_base.specs.declared.place.Face.{Face}
use Rattle.arc_base.specs.declared.place.ListId.{ListId}
use Rattle.net_model.specs.declared.rows.FaceRow.{FaceRow}
use Rattle.net_model.specs.declared.rows.SessionRow.{SessionRow}
use Rattle.net_model.specs.declared.rows.Network.{Network}
use Rattle.net_model.specs.Validity.{IsValid, IsValidFace, IsValidSession}
use Rattle.net_model.proofs.Readings.{place_of_item, item_at_place}
use Rattle.edit_list.specs.declared.edit_kinds.Edit.{Edit}
use Rattle.edit_list.specs.declared.list_kinds.NewList.{NewList}
use Rattle.edit_list.specs.declared.list_kinds.NewList.TheVariants.{Route, Packet}
use Rattle.edit_space.specs.declared.new_lists.Named.{Named}
use Rattle.edit_space.specs.declared.order.Places.{Places}
use Rattle.edit_list.specs.After.{IsNewPacketList, IsNewRouteList, PacketListMoves, RouteListMoves, StaysBound, IsFaceAfter, IsSessionAfter}
use Rattle.edit_list.specs.Changes.{new_classes, new_prefixes}
use Rattle.edit_list.specs.NewLists.{new_lists, new_lists_of, new_names_of, new_packet_list, new_route_list, IsNewList}
use Rattle.arc_base.specs.Numbered.{placed, if_number, is_empty, EachRow}
use Rattle.edit_space.specs.Working.{AreNewNames, AreNamed, moved, bound_at, face_after, session_after}
use Rattle.edit_space.proofs.NamedFacts.{names_at}
use Rattle.edit_list.proofs.NewListFacts.{picks, placed_there, new_list_within}
use Rattle.edit_list.proofs.RowFacts.{item_of}
use Rattle.edit_list.proofs.Placing.{placed_at, placed_length}

pub placed_get : {X : Type 0} (xs : List X) (k : ℕ) (x : X) → slice_get xs k ≡ Some x → slice_get (placed xs) k ≡ Some (k, x)
placed_get xs k x at =
    let within : k < length xs = slice_get_within xs k x at in
    let is : get_or xs k x ≡ x = same_Some (get_or xs k x) x (sym (slice_get-get_or xs k x within) ∙ at) in
    slice_get-get_or (placed xs) k (k, x) (omega (arith, within, placed_length xs)) ∙ ap Some (sym (placed_at xs k x within (sym is)))

-- the first of two facts about what may be there
pub first_of : {X : Type 0} (A B : X → Type 0) (o : Option X) → IfSome o (λ x. A x × B x) → IfSome o A
first_of A B None h = h
first_of A B (Some x) h = h.0

its_number : {X : Type 0} (number : ℕ) (x : X) → if_number number (number, x) ≡ Some x
its_number number x = ap (λ (b : Bool). if b then Some x else None) (eq-eqb number number refl)

module _ (net : Network) (valid : IsValid net) (chosen : List Edit) (names : List (List (List ℕ))) (named : List Named) (new_names : AreNewNames net (new_lists net chosen) names)
    (are_named : AreNamed (new_lists net chosen) names named) where
  -- each new list has a name
  pub has_name : (router : ℕ) (list : NewList) → Contains (new_lists net chosen) (router, list) → (name : List ℕ) × IsNewList net chosen router list name
  has_name router list there =
      let in_of : Contains (new_lists_of net chosen router) list = picks (if_number router) (new_lists net chosen) (router, list) list there (its_number router list) in
      let p : (k : ℕ) × (slice_get (new_lists_of net chosen router) k ≡ Some list) = place_of_item (new_lists_of net chosen router) list in_of in
      let low : router < length net.routers = new_list_within net valid chosen (router, list) there in
      let count : length (new_names_of net chosen router) ≡ length (new_lists_of net chosen router) =
      ap length (sym (names_at net valid chosen names named new_names are_named router low)) ∙ new_names.counted router low in
      let within : p.0 < length (new_names_of net chosen router) = omega (arith, slice_get_within (new_lists_of net chosen router) p.0 list p.1, count) in
      (get_or (new_names_of net chosen router) p.0 [], record { place = p.0; list_is = p.1; name_is = slice_get-get_or (new_names_of net chosen router) p.0 [] within })

  pub packet_name : (place : ℕ) (was : FaceRow) → slice_get net.faces place ≡ Some was → is_empty (new_classes chosen place) ≡ false →
      (name : List ℕ) × IsNewList net chosen was.router.0 (Packet (record { 0 = place })) name
  packet_name place was at filled =
      let made : new_packet_list chosen (place, was) ≡ Some (was.router.0, Packet (record { 0 = place })) =
      ap (λ (b : Bool). if b then None else Some (was.router.0, Packet (record { 0 = place }))) filled in
      has_name was.router.0 (Packet (record { 0 = place }))
      (Contains-append_right (filter_map (new_route_list net chosen) net.sessions) (filter_map (new_packet_list chosen) (placed net.faces)) (was.router.0, Packet (record { 0 = place }))
      (picks (new_packet_list chosen) (placed net.faces) (place, was) (was.router.0, Packet (record { 0 = place })) (placed_there net.faces place was at) made))

  pub route_name : (session : SessionRow) (face : FaceRow) → Contains net.sessions session → slice_get net.faces session.face.0 ≡ Some face → is_empty (new_prefixes chosen session.face.0) ≡ false →
      (name : List ℕ) × IsNewList net chosen face.router.0 (Route session.face) name
  route_name session face there at filled =
      let made : new_route_list net chosen session ≡ Some (face.router.0, Route session.face) =
      ap (λ (b : Bool). if b then None else option_map (λ (f : FaceRow). (f.router.0, Route session.face)) (slice_get net.faces session.face.0)) filled ∙
      ap (option_map (λ (f : FaceRow). (f.router.0, Route session.face))) at in
      has_name face.router.0 (Route session.face)
      (Contains-append_left (filter_map (new_route_list net chosen) net.sessions) (filter_map (new_packet_list chosen) (placed net.faces)) (face.router.0, Route session.face)
      (picks (new_route_list net chosen) net.sessions session (face.router.0, Route session.face) there made))

  module _ (after : Network) (places : Places)
      (stays : (o : Option ListId) → IfSome o (λ id. id.0 < length net.packet_lists) → StaysBound (PacketListMoves net chosen after) o (moved places o))
      (is_bound : (none : Bool) (face : Face) (o : Option ListId) → IfSome o (λ id. id.0 < length net.packet_lists) →
      (none ≡ false → (router : ℕ) × (name : List ℕ) × IsNewList net chosen router (Packet face) name) →
      MatchBool none (StaysBound (PacketListMoves net chosen after) o (bound_at places (not none) face.0 o))
      (IsSomeAnd (bound_at places (not none) face.0 o) (λ id. IsSomeAnd (slice_get after.packet_lists id.0) (IsNewPacketList net chosen face)))) where
    is_face_after : (place : ℕ) (was : FaceRow) → slice_get net.faces place ≡ Some was → IsFaceAfter net chosen after place was (face_after net.protocol chosen places (place, was))
    is_face_after place was at =
        let v : IsValidFace net place was = valid.faces place was at in
        record {
          same = refl;
          passive = refl;
          bound_in = refl;
          list_in = is_bound (is_empty (new_classes chosen place)) (record { 0 = place }) was.list_in
              (first_of (λ (id : ListId). id.0 < length net.packet_lists) (λ id. IsTrue was.bound_in) was.list_in v.list_in)
              (λ e. let name = packet_name place was at e in (was.router.0, name.0, name.1));
          list_out = stays was.list_out v.list_out;
        }

    pub faces_are : EachRow (IsFaceAfter net chosen after) net.faces (map (face_after net.protocol chosen places) (placed net.faces))
    faces_are = record { whole = length-map (placed net.faces) (face_after net.protocol chosen places) ∙ placed_length net.faces; each = each }
      where
        each : (place : ℕ) (was now : FaceRow) → slice_get net.faces place ≡ Some was →
            slice_get (map (face_after net.protocol chosen places) (placed net.faces)) place ≡ Some now → IsFaceAfter net chosen after place was now
        each place was now at here =
            let made : slice_get (map (face_after net.protocol chosen places) (placed net.faces)) place ≡ Some (face_after net.protocol chosen places (place, was)) =
            slice_get-map (face_after net.protocol chosen places) (placed net.faces) place ∙ ap (option_map (face_after net.protocol chosen places)) (placed_get net.faces place was at) in
            subst (IsFaceAfter net chosen after place was) (same_Some (face_after net.protocol chosen places (place, was)) now (sym made ∙ here)) (is_face_after place was at)

  module _ (after : Network) (places : Places)
      (is_bound : (none : Bool) (face : Face) (o : Option ListId) → IfSome o (λ id. id.0 < length net.route_lists) →
      (none ≡ false → (router : ℕ) × (name : List ℕ) × IsNewList net chosen router (Route face) name) →
      MatchBool none (StaysBound (RouteListMoves net chosen after) o (bound_at places (not none) face.0 o))
      (IsSomeAnd (bound_at places (not none) face.0 o) (λ id. IsSomeAnd (slice_get after.route_lists id.0) (IsNewRouteList net chosen face)))) where
    is_session_after : (place : ℕ) (was : SessionRow) → Contains net.sessions was → IsSessionAfter net chosen after place was (session_after chosen places was)
    is_session_after place was there =
        let v : IsValidSession net was = All-contains (IsValidSession net) net.sessions was valid.sessions there in
        let face = item_of net.faces was.face.0 v.face in
        record {
          same = refl;
          down = refl;
          bound = refl;
          filter = is_bound (is_empty (new_prefixes chosen was.face.0)) was.face was.filter (first_of (λ (id : ListId). id.0 < length net.route_lists) (λ id. IsTrue was.bound) was.filter v.filter)
              (λ e. let name = route_name was face.0 there face.1 e in (face.0.router.0, name.0, name.1));
        }

    pub sessions_are : EachRow (IsSessionAfter net chosen after) net.sessions (map (session_after chosen places) net.sessions)
    sessions_are = record { whole = length-map net.sessions (session_after chosen places); each = each }
      where
        each : (place : ℕ) (was now : SessionRow) → slice_get net.sessions place ≡ Some was →
            slice_get (map (session_after chosen places) net.sessions) place ≡ Some now → IsSessionAfter net chosen after place was now
        each place was now at here =
            let made : slice_get (map (session_after chosen places) net.sessions) place ≡ Some (session_after chosen places was) =
            slice_get-map (session_after chosen places) net.sessions place ∙ ap (option_map (session_after chosen places)) at in
            subst (IsSessionAfter net chosen after place was) (same_Some (session_after chosen places was) now (sym made ∙ here)) (is_session_after place was (item_at_place net.sessions place was at))
