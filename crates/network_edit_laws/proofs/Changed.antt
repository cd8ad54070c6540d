-- Which edits are chosen, read off what they change at an interface or in a list; and where new lists may come.
use Rattle.std.proofs.Common.{◌≡◌, ℕ, ◌==◌, ◌↔◌, ◌||◌, IsTrue, inl, inr, Bool, true, false, Option, Some, None, List, [], ◌∷◌, refl, sym, ◌∙◌, ap, subst}
use Rattle.std.specs.Prelude.{Contains, slice_get, if◌then◌else◌}
use Rattle.std.specs.List.{filter_map, list_any}
use Rattle.std.proofs.lemmas.Bool.{false≢true, eq-eqb, eqb-true, or_left, or_right}
use Rattle.std.proofs.lemmas.Option.{none-some, same_Some}
use Rattle.arc_base.specs.declared.place.Face.{Face}
use Rattle.arc_base.specs.declared.place.ListId.{ListId}
use Rattle.arc_base.specs.declared.prefix.Prefix.{Prefix}
use Rattle.arc_base.proofs.Items.{Contains-head, Contains-tail, Contains-cases, Contains-none}
use Rattle.net_model.specs.declared.policies.Class.{Class}
use Rattle.net_model.specs.declared.policies.Document.{Document}
use Rattle.net_model.specs.declared.rows.FaceRow.{FaceRow}
use Rattle.net_model.specs.declared.rows.SessionRow.{SessionRow}
use Rattle.net_model.specs.declared.rows.Network.{Network}
use Rattle.edit_list.specs.declared.edit_kinds.Edit.{Edit}
use Rattle.edit_list.specs.declared.edit_kinds.Edit.TheVariants as edits
use Rattle.edit_list.specs.Changes.{session_change, route_list_change, new_route_change, packet_list_change, new_packet_change, turns_session, list_prefixes, new_prefixes, list_classes, new_classes}
use Rattle.edit_list.specs.EditLists.{AreEdits}
use Rattle.arc_base.specs.Numbered.{if_number, of_number}
use Rattle.edit_list.proofs.Apart.{number_told}
use Rattle.edit_list.proofs.EditsFrom.{TakesRoutes, TakesPackets, edits_from}
use Rattle.edit_list.proofs.NewListFacts.{picked_from, picks}

-- things of a number that edits change, and the edits
module _ {X : Type 0} (change : Edit → Option (ℕ × X)) (make : ℕ → X → Edit) (makes : (n : ℕ) (x : X) → change (make n x) ≡ Some (n, x))
    (made : (e : Edit) (n : ℕ) (x : X) → change e ≡ Some (n, x) → e ≡ make n x) (chosen : List Edit) (number : ℕ) (x : X) where
  changes_in : Contains (of_number number (filter_map change chosen)) x → Contains chosen (make number x)
  changes_in there =
      let r = picked_from (if_number number) (filter_map change chosen) x there in
      let n = number_told number r.0 x r.2 in
      let s = picked_from change chosen r.0 r.1 in
      let e : s.0 ≡ make number x = made s.0 r.0.0 r.0.1 s.2 ∙ ap (λ k. make k r.0.1) n.0 ∙ ap (λ (y : X). make number y) n.1 in
      subst (λ (y : Edit). Contains chosen y) e s.1

  numbered : (b : Bool) → b ≡ true → (if b then Some x else None) ≡ Some x
  numbered true e = refl
  numbered false e = absurd (false≢true e)

  in_changes : Contains chosen (make number x) → Contains (of_number number (filter_map change chosen)) x
  in_changes there =
      picks (if_number number) (filter_map change chosen) (number, x) x
      (picks change chosen (make number x) (number, x) there (makes number x)) (numbered (number == number) (eq-eqb number number refl))

made_route_list : (e : Edit) (n : ℕ) (p : Prefix) → route_list_change e ≡ Some (n, p) → e ≡ edits.RouteList (record { 0 = n }) p
made_route_list (edits.RouteList list q) n p h = let s = same_Some (list.0, q) (n, p) h in λ i. edits.RouteList (record { 0 = (s i).0 }) (s i).1
made_route_list other n p h = absurd (none-some (n, p) h)

made_route_new : (e : Edit) (n : ℕ) (p : Prefix) → new_route_change e ≡ Some (n, p) → e ≡ edits.RouteNew (record { 0 = n }) p
made_route_new (edits.RouteNew face q) n p h = let s = same_Some (face.0, q) (n, p) h in λ i. edits.RouteNew (record { 0 = (s i).0 }) (s i).1
made_route_new other n p h = absurd (none-some (n, p) h)

made_packet_list : (e : Edit) (n : ℕ) (c : Class) → packet_list_change e ≡ Some (n, c) → e ≡ edits.PacketList (record { 0 = n }) c
made_packet_list (edits.PacketList list d) n c h = let s = same_Some (list.0, d) (n, c) h in λ i. edits.PacketList (record { 0 = (s i).0 }) (s i).1
made_packet_list other n c h = absurd (none-some (n, c) h)

made_packet_new : (e : Edit) (n : ℕ) (c : Class) → new_packet_change e ≡ Some (n, c) → e ≡ edits.PacketNew (record { 0 = n }) c
made_packet_new (edits.PacketNew face d) n c h = let s = same_Some (face.0, d) (n, c) h in λ i. edits.PacketNew (record { 0 = (s i).0 }) (s i).1
made_packet_new other n c h = absurd (none-some (n, c) h)

made_session : (e : Edit) (n : ℕ) → session_change e ≡ Some n → e ≡ edits.Session (record { 0 = n })
made_session (edits.Session face) n h = let s = same_Some face.0 n h in λ i. edits.Session (record { 0 = s i })
made_session other n h = absurd (none-some n h)

-- whether a number stands in a list of numbers
any_is : (n : ℕ) (numbers : List ℕ) → IsTrue (list_any (λ m. m == n) numbers) ↔ Contains numbers n
any_is n [] = (λ h. absurd (false≢true h), λ there. absurd (Contains-none n there))
any_is n (m ∷ ms) = (to (any_is n ms) (m == n) refl, from (any_is n ms))
  where
    to : IsTrue (list_any (λ k. k == n) ms) ↔ Contains ms n → (b : Bool) → (m == n) ≡ b → IsTrue (b || list_any (λ k. k == n) ms) → Contains (m ∷ ms) n
    to rest true e h = subst (λ k. Contains (m ∷ ms) k) (eqb-true m n e) (Contains-head m ms)
    to rest false e h = Contains-tail m n ms (rest.0 h)

    from : IsTrue (list_any (λ k. k == n) ms) ↔ Contains ms n → Contains (m ∷ ms) n → IsTrue ((m == n) || list_any (λ k. k == n) ms)
    from rest there = elim (Contains-cases m n ms there) [
      | inl same ↦ or_left (m == n) (list_any (λ k. k == n) ms) (eq-eqb m n same)
      | inr later ↦ or_right (m == n) (list_any (λ k. k == n) ms) (rest.1 later)
    ]

module _ (chosen : List Edit) where
  pub route_list_in : (id : ListId) (p : Prefix) → Contains (list_prefixes chosen id.0) p → Contains chosen (edits.RouteList id p)
  route_list_in id p there = changes_in route_list_change (λ n (q : Prefix). edits.RouteList (record { 0 = n }) q) (λ n q. refl) made_route_list chosen id.0 p there

  pub in_route_list : (id : ListId) (p : Prefix) → Contains chosen (edits.RouteList id p) → Contains (list_prefixes chosen id.0) p
  in_route_list id p there = in_changes route_list_change (λ n (q : Prefix). edits.RouteList (record { 0 = n }) q) (λ n q. refl) made_route_list chosen id.0 p there

  pub route_new_in : (face : Face) (p : Prefix) → Contains (new_prefixes chosen face.0) p → Contains chosen (edits.RouteNew face p)
  route_new_in face p there = changes_in new_route_change (λ n (q : Prefix). edits.RouteNew (record { 0 = n }) q) (λ n q. refl) made_route_new chosen face.0 p there

  pub in_route_new : (face : Face) (p : Prefix) → Contains chosen (edits.RouteNew face p) → Contains (new_prefixes chosen face.0) p
  in_route_new face p there = in_changes new_route_change (λ n (q : Prefix). edits.RouteNew (record { 0 = n }) q) (λ n q. refl) made_route_new chosen face.0 p there

  pub packet_list_in : (id : ListId) (c : Class) → Contains (list_classes chosen id.0) c → Contains chosen (edits.PacketList id c)
  packet_list_in id c there = changes_in packet_list_change (λ n (d : Class). edits.PacketList (record { 0 = n }) d) (λ n d. refl) made_packet_list chosen id.0 c there

  pub in_packet_list : (id : ListId) (c : Class) → Contains chosen (edits.PacketList id c) → Contains (list_classes chosen id.0) c
  in_packet_list id c there = in_changes packet_list_change (λ n (d : Class). edits.PacketList (record { 0 = n }) d) (λ n d. refl) made_packet_list chosen id.0 c there

  pub packet_new_in : (face : Face) (c : Class) → Contains (new_classes chosen face.0) c → Contains chosen (edits.PacketNew face c)
  packet_new_in face c there = changes_in new_packet_change (λ n (d : Class). edits.PacketNew (record { 0 = n }) d) (λ n d. refl) made_packet_new chosen face.0 c there

  pub in_packet_new : (face : Face) (c : Class) → Contains chosen (edits.PacketNew face c) → Contains (new_classes chosen face.0) c
  in_packet_new face c there = in_changes new_packet_change (λ n (d : Class). edits.PacketNew (record { 0 = n }) d) (λ n d. refl) made_packet_new chosen face.0 c there

  pub session_in : (face : Face) → turns_session chosen face.0 ≡ true → Contains chosen (edits.Session face)
  session_in face t =
      let s = picked_from session_change chosen face.0 ((any_is face.0 (filter_map session_change chosen)).0 t) in
      subst (λ (y : Edit). Contains chosen y) (made_session s.0 face.0 s.2) s.1

  pub in_session : (face : Face) → Contains chosen (edits.Session face) → turns_session chosen face.0 ≡ true
  in_session face there = (any_is face.0 (filter_map session_change chosen)).1 (picks session_change chosen (edits.Session face) face.0 there refl)

-- where new lists may come
module _ (net : Network) (doc : Document) (list : List Edit) (are : AreEdits net doc list) where
  -- a new packet list comes where none is bound
  pub new_packets_unbound : (face : Face) (c : Class) (row : FaceRow) → Contains list (edits.PacketNew face c) → slice_get net.faces face.0 ≡ Some row → row.bound_in ≡ false
  new_packets_unbound face c row m at =
      let takes : TakesPackets net face = (edits_from net doc list are (edits.PacketNew face c) m).0 in
      ap (λ (x : FaceRow). x.bound_in) (same_Some row takes.row (sym at ∙ takes.at)) ∙ takes.free

  -- a new route list comes at a session without one
  pub new_routes_unbound : (face : Face) (p : Prefix) → Contains list (edits.RouteNew face p) → (s : SessionRow) × Contains net.sessions s × (s.face ≡ face) × (s.bound ≡ false)
  new_routes_unbound face p m = let takes : TakesRoutes net face = (edits_from net doc list are (edits.RouteNew face p) m).0 in (takes.session, takes.one, takes.at, takes.free)
