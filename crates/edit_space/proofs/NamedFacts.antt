-- What is known of new lists with their names: each is one of the network's new lists, all of them are there, and no two have one key.
use Rattle.std.proofs.Common.{◌≡◌, ◌≢◌, ℕ, ◌+◌, ◌<◌, ◌^◌, inl, inr, false, Some, List, [], length, get_or, sym, ◌∙◌, ap, subst, arith}
use Rattle.std.specs.Prelude.{AllPairs, Contains, slice_get, slice_index_or}
use Rattle.std.proofs.lemmas.Option.{slice_get_within, slice_get-get_or, get_or_from_slice_get}
use Rattle.net_model.specs.declared.rows.Network.{Network}
use Rattle.net_model.specs.Validity.{IsValid}
use Rattle.arc_base.specs.NameForms.{IsName}
use Rattle.net_model.proofs.Readings.{place_of_item, item_at_place}
use Rattle.edit_list.specs.declared.edit_kinds.Edit.{Edit}
use Rattle.arc_base.specs.declared.place.Face.{Face}
use Rattle.net_model.specs.declared.rows.FaceRow.{FaceRow}
use Rattle.net_model.specs.declared.rows.SessionRow.{SessionRow}
use Rattle.net_model.proofs.Arcs.{one_item}
use Rattle.edit_list.specs.Changes.{new_prefixes, new_classes}
use Rattle.edit_list.specs.declared.list_kinds.NewList.{NewList}
use Rattle.edit_list.specs.declared.list_kinds.NewList.TheVariants.{Route, Packet}
use Rattle.edit_space.specs.declared.new_lists.Named.{Named}
use Rattle.edit_list.specs.NewLists.{free_names, names_of, new_lists, new_lists_of, new_names_of, IsNewList}
use Rattle.arc_base.specs.Numbered.{if_number, of_number, is_empty}
use Rattle.edit_space.specs.Working.{AreNewNames, IsNamed, AreNamed}
use Rattle.edit_list.proofs.Counts.{few_picked}
use Rattle.arc_base.proofs.Grouped.{told_at}
use Rattle.edit_space.proofs.FreeNames.{free_names_apart, free_name_is_new}
use Rattle.edit_list.proofs.Apart.{number_told}
use Rattle.edit_list.proofs.NewListFacts.{picked_from, pairs_picked, new_list_from, new_list_within, new_lists_apart}
use Rattle.edit_list.proofs.RowFacts.{one_place}

-- the new list of an interface, with its row
pub record IsOfPacketFace (net : Network) (chosen : List Edit) (router : ℕ) (face : Face) : Type 0 where
  pub row : FaceRow
  pub at : slice_get net.faces face.0 ≡ Some row
  pub router_is : router ≡ row.router.0
  pub filled : is_empty (new_classes chosen face.0) ≡ false

pub record IsOfRouteFace (net : Network) (chosen : List Edit) (router : ℕ) (face : Face) : Type 0 where
  pub session : SessionRow
  pub one : Contains net.sessions session
  pub face_is : session.face ≡ face
  pub row : FaceRow
  pub at : slice_get net.faces face.0 ≡ Some row
  pub router_is : router ≡ row.router.0
  pub filled : is_empty (new_prefixes chosen face.0) ≡ false

module _ (net : Network) (valid : IsValid net) (chosen : List Edit) where
  in_new_lists : (router : ℕ) (list : NewList) (name : List ℕ) → IsNewList net chosen router list name → Contains (new_lists net chosen) (router, list)
  in_new_lists router list name new =
      let there : Contains (new_lists_of net chosen router) list = item_at_place (new_lists_of net chosen router) new.place list new.list_is in
      let r = picked_from (if_number router) (new_lists net chosen) list there in
      let n = number_told router r.0 list r.2 in
      subst (λ (x : ℕ × NewList). Contains (new_lists net chosen) x) (λ j. (n.0 j, n.1 j)) r.1

  other_kind : (f g : Face) → Route f ≡ Packet g → ⊥
  other_kind f g e = cc

  one_packet : (f g : Face) → Packet f ≡ Packet g → f ≡ g
  one_packet f g e = cc

  one_route : (f g : Face) → Route f ≡ Route g → f ≡ g
  one_route f g e = cc

  pub of_packet_face : (router : ℕ) (face : Face) (name : List ℕ) → IsNewList net chosen router (Packet face) name → IsOfPacketFace net chosen router face
  of_packet_face router face name new = elim (new_list_from net valid chosen (router, Packet face) (in_new_lists router (Packet face) name new)) [
    | inl r ↦ absurd (other_kind r.session.face face (sym (ap (λ (l : ℕ × NewList). l.1) r.is)))
    | inr r ↦
        let same : face ≡ record { 0 = r.place } = one_packet face (record { 0 = r.place }) (ap (λ (l : ℕ × NewList). l.1) r.is) in
        let place : face.0 ≡ r.place = ap (λ (f : Face). f.0) same in
        record {
          row = r.face;
          at = ap (slice_get net.faces) place ∙ r.at_face;
          router_is = ap (λ (l : ℕ × NewList). l.0) r.is;
          filled = ap (λ k. is_empty (new_classes chosen k)) place ∙ r.filled;
        }
  ]

  pub of_route_face : (router : ℕ) (face : Face) (name : List ℕ) → IsNewList net chosen router (Route face) name → IsOfRouteFace net chosen router face
  of_route_face router face name new = elim (new_list_from net valid chosen (router, Route face) (in_new_lists router (Route face) name new)) [
    | inl r ↦
        let same : face ≡ r.session.face = one_route face r.session.face (ap (λ (l : ℕ × NewList). l.1) r.is) in
        let place : face.0 ≡ r.session.face.0 = ap (λ (f : Face). f.0) same in
        record {
          session = r.session;
          one = r.one;
          face_is = sym same;
          row = r.face;
          at = ap (slice_get net.faces) place ∙ r.at_face;
          router_is = ap (λ (l : ℕ × NewList). l.0) r.is;
          filled = ap (λ k. is_empty (new_prefixes chosen k)) place ∙ r.filled;
        }
    | inr r ↦ absurd (other_kind face (record { 0 = r.place }) (ap (λ (l : ℕ × NewList). l.1) r.is))
  ]

module _ (net : Network) (valid : IsValid net) (chosen : List Edit) (names : List (List (List ℕ))) (named : List Named) (new_names : AreNewNames net (new_lists net chosen) names)
    (are_named : AreNamed (new_lists net chosen) names named) where
  -- no two new lists of a router are the same
  lists_of_apart : (router : ℕ) → AllPairs (λ x y. x ≢ y) (new_lists_of net chosen router)
  lists_of_apart router =
      pairs_picked (λ (x : ℕ × NewList) (y : ℕ × NewList). x.1 ≢ y.1) (λ (x : NewList) (y : NewList). x ≢ y) (if_number router) (new_lists net chosen) along (new_lists_apart net valid chosen)
    where
      along : (x z : ℕ × NewList) (y w : NewList) → x.1 ≢ z.1 → if_number router x ≡ Some y → if_number router z ≡ Some w → y ≢ w
      along x z y w differ e f same = differ ((number_told router x y e).1 ∙ same ∙ sym (number_told router z w f).1)

  pub names_at : (router : ℕ) → router < length net.routers → slice_index_or names router [] ≡ new_names_of net chosen router
  names_at router low = get_or_from_slice_get names router (new_names_of net chosen router) []
      (told_at (λ r. free_names (names_of net r) (length (of_number r (new_lists net chosen)))) (length net.routers) router names new_names.told low)

  -- a new list is one of a router of the network
  pub router_within : (router : ℕ) (list : NewList) (name : List ℕ) → IsNewList net chosen router list name → router < length net.routers
  router_within router list name new =
      let there : Contains (new_lists_of net chosen router) list = item_at_place (new_lists_of net chosen router) new.place list new.list_is in
      let r = picked_from (if_number router) (new_lists net chosen) list there in
      let low : r.0.0 < length net.routers = new_list_within net valid chosen r.0 r.1 in
      omega (arith, low, (number_told router r.0 list r.2).0)

  -- each named list is a new one
  pub named_is_new : (i : ℕ) (one : Named) → slice_get named i ≡ Some one → IsNewList net chosen one.router one.list one.name
  named_is_new i one at =
      let within : i < length (new_lists net chosen) = omega (arith, slice_get_within named i one at, are_named.whole) in
      let list : ℕ × NewList = get_or (new_lists net chosen) i (one.router, one.list) in
      let at_list : slice_get (new_lists net chosen) i ≡ Some list = slice_get-get_or (new_lists net chosen) i (one.router, one.list) within in
      let is : IsNamed (new_lists net chosen) names list one = are_named.each i list one at_list at in
      let low : list.0 < length net.routers = new_list_within net valid chosen list (item_at_place (new_lists net chosen) i list at_list) in
      record {
        place = is.place;
        list_is = ap (λ r. slice_get (new_lists_of net chosen r) is.place) is.same_router ∙ is.list_is ∙ ap Some (sym is.same_list);
        name_is = ap (λ r. slice_get (new_names_of net chosen r) is.place) is.same_router ∙ ap (λ l. slice_get l is.place) (sym (names_at list.0 low)) ∙ is.name_is;
      }

  -- a list has one name
  pub one_name : (router : ℕ) (list : NewList) (x y : List ℕ) → IsNewList net chosen router list x → IsNewList net chosen router list y → x ≡ y
  one_name router list x y this that =
      let same : this.place ≡ that.place = one_place (new_lists_of net chosen router) this.place that.place list (lists_of_apart router) this.list_is that.list_is in
      one_item (new_names_of net chosen router) that.place x y (ap (λ k. slice_get (new_names_of net chosen router) k) (sym same) ∙ this.name_is) that.name_is

  -- each new list is named
  pub new_is_named : (router : ℕ) (list : NewList) (name : List ℕ) → IsNewList net chosen router list name → Contains named (record { router = router; list = list; name = name })
  new_is_named router list name new =
      let there : Contains (new_lists_of net chosen router) list = item_at_place (new_lists_of net chosen router) new.place list new.list_is in
      let r = picked_from (if_number router) (new_lists net chosen) list there in
      let n = number_told router r.0 list r.2 in
      let p : (k : ℕ) × (slice_get (new_lists net chosen) k ≡ Some r.0) = place_of_item (new_lists net chosen) r.0 r.1 in
      let within : p.0 < length named = omega (arith, slice_get_within (new_lists net chosen) p.0 r.0 p.1, are_named.whole) in
      let one : Named = get_or named p.0 (record { router = router; list = list; name = name }) in
      let at : slice_get named p.0 ≡ Some one = slice_get-get_or named p.0 (record { router = router; list = list; name = name }) within in
      let is : IsNamed (new_lists net chosen) names r.0 one = are_named.each p.0 r.0 one p.1 at in
      let same_router : one.router ≡ router = is.same_router ∙ n.0 in
      let same_list : one.list ≡ list = is.same_list ∙ n.1 in
      let made : IsNewList net chosen one.router one.list one.name = named_is_new p.0 one at in
      let at_router : IsNewList net chosen router one.list one.name = subst (λ (k : ℕ). IsNewList net chosen k one.list one.name) same_router made in
      let same_name : one.name ≡ name = one_name router list one.name name (subst (λ (l : NewList). IsNewList net chosen router l one.name) same_list at_router) new in
      subst (λ (x : Named). Contains named x) (λ j. record { router = same_router j; list = same_list j; name = same_name j }) (item_at_place named p.0 one at)

  few_names : (router : ℕ) (list : NewList) (name : List ℕ) → length (new_lists net chosen) < 2 ^ 33 → IsNewList net chosen router list name →
      length (names_of net router) + length (new_lists_of net chosen router) < 2 ^ 59
  few_names router list name few new = omega (arith, new_names.few router (router_within router list name new), few_picked (if_number router) (new_lists net chosen), few)

  -- the name of a new list is none of the router's, and has the form of a name
  pub name_is_new : (router : ℕ) (list : NewList) (name : List ℕ) → length (new_lists net chosen) < 2 ^ 33 → IsNewList net chosen router list name →
      (¬ Contains (names_of net router) name) × IsName name
  name_is_new router list name few new =
      free_name_is_new (names_of net router) (length (new_lists_of net chosen router)) name (few_names router list name few new) (item_at_place
      (new_names_of net chosen router) new.place name new.name_is)

  -- two new lists of a router with one name are the same
  pub one_list : (router : ℕ) (x y : NewList) (name : List ℕ) → length (new_lists net chosen) < 2 ^ 33 → IsNewList net chosen router x name → IsNewList net chosen router y name → x ≡ y
  one_list router x y name few this that =
      let same : this.place ≡ that.place =
      one_place (new_names_of net chosen router) this.place that.place name
      (free_names_apart (names_of net router) (length (new_lists_of net chosen router)) (omega (arith, few_names router x name few this))) this.name_is that.name_is in
      one_item (new_lists_of net chosen router) that.place x y (ap (λ k. slice_get (new_lists_of net chosen router) k) (sym same) ∙ this.list_is) that.list_is

  -- the named lists are not the same either
  pub named_apart : AllPairs (λ x y. x.list ≢ y.list) named
  named_apart i j d l m same =
      let in_j : j < length (new_lists net chosen) = omega (arith, m, are_named.whole) in
      let in_i : i < length (new_lists net chosen) = omega (arith, l, in_j) in
      let e : ℕ × NewList = (d.router, d.list) in
      let is_i : IsNamed (new_lists net chosen) names (get_or (new_lists net chosen) i e) (get_or named i d) =
      are_named.each i (get_or (new_lists net chosen) i e) (get_or named i d) (slice_get-get_or (new_lists net chosen) i e in_i) (slice_get-get_or named i d (omega (arith, l, m))) in
      let is_j : IsNamed (new_lists net chosen) names (get_or (new_lists net chosen) j e) (get_or named j d) =
      are_named.each j (get_or (new_lists net chosen) j e) (get_or named j d) (slice_get-get_or (new_lists net chosen) j e in_j) (slice_get-get_or named j d m) in
      new_lists_apart net valid chosen i j e l in_j (sym is_i.same_list ∙ same ∙ is_j.same_list)
