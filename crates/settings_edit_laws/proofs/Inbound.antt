-- The new inbound list of an interface by the name of the interface.
use Rattle.std.proofs.Common.{◌≡◌, ℕ, Bool, true, false, Option, Some, None, List, [], ◌∷◌, refl, sym, ◌∙◌, ap, subst, if◌then◌else◌}
use Rattle.std.specs.Prelude.{Contains, slice_get, option_and_then, bytes_eq}
use Rattle.std.specs.List.{filter_map}
use Rattle.std.proofs.lemmas.Bool.{false≢true}
use Rattle.std.proofs.lemmas.Slice.Eq.{bytes_eq-Decides}
use Rattle.std.proofs.lemmas.Option.{none-some, same_Some}
use Rattle.arc_base.proofs.Items.{Contains-head, Contains-none}
use Rattle.net_model.specs.declared.rows.Network.{Network}
use Rattle.net_model.specs.declared.rows.FaceRow.{FaceRow}
use Rattle.net_model.specs.Validity.{IsValid}
use Rattle.edit_list.specs.Determined.{IsCountable}
use Rattle.edit_list.specs.declared.edit_kinds.Edit.{Edit}
use Rattle.edit_list.specs.declared.list_kinds.NewList.{NewList}
use Rattle.edit_list.specs.declared.list_kinds.NewList.TheVariants.{Route, Packet}
use Rattle.edit_list.specs.Changes.{new_classes}
use Rattle.edit_list.specs.NewLists.{IsNewList, named_lists}
use Rattle.arc_base.specs.Numbered.{is_empty}
use Rattle.edit_space.proofs.NamedFacts.{of_packet_face}
use Rattle.edit_list.proofs.NewListFacts.{picked_from, picks}
use Rattle.settings_edit_laws.specs.Additions.{list_for, new_inbound}
use Rattle.settings_edit_laws.proofs.NewNames.{one_name, new_of_named, named_of_new, packet_list_there}
use Rattle.settings_edit_laws.proofs.SessionFacts.{one_face}

-- the first item is one of them
pub first_is_in : {X : Type 0} (xs : List X) (x : X) → slice_get xs 0 ≡ Some x → Contains xs x
first_is_in [] x e = absurd (none-some x e)
first_is_in (y ∷ xs) x e = subst (λ z. Contains (y ∷ xs) z) (same_Some y x e) (Contains-head y xs)

pub none_first : {X : Type 0} (xs : List X) → ((x : X) → Contains xs x → ⊥) → slice_get xs 0 ≡ None
none_first [] none = refl
none_first (x ∷ xs) none = absurd (none x (Contains-head x xs))

pub some_first : {X : Type 0} (xs : List X) (x : X) → Contains xs x → (y : X) × (slice_get xs 0 ≡ Some y)
some_first [] x there = absurd (Contains-none x there)
some_first (y ∷ xs) x there = (y, refl)

module _ (net : Network) (valid : IsValid net) (small : IsCountable net) (chosen : List Edit) (router : ℕ) (face : List ℕ) where
  abbrev inbound_names : List (List ℕ)
  inbound_names = filter_map (λ (l : NewList × List ℕ). list_for net face l.1 l.0) (named_lists net chosen router)

  -- the new inbound list of the interface of this name
  pub record IsInbound (name : List ℕ) : Type 0 where
    pub place : ℕ
    pub row : FaceRow
    pub at : slice_get net.faces place ≡ Some row
    pub own : row.router.0 ≡ router
    pub named : row.name ≡ face
    pub new : IsNewList net chosen router (Packet (record { 0 = place })) name
    pub filled : is_empty (new_classes chosen place) ≡ false

  list_for_is : (l : NewList) (n name : List ℕ) → IsNewList net chosen router l n → list_for net face n l ≡ Some name → IsInbound name
  list_for_is (Route f) n name new e = absurd (none-some name e)
  list_for_is (Packet f) n name new e = by (slice_get net.faces f.0) refl e
    where
      of_face : (row : FaceRow) → slice_get net.faces f.0 ≡ Some row → (b : Bool) → bytes_eq row.name face ≡ b → (if b then Some n else None) ≡ Some name → IsInbound name
      of_face row at true t e =
          let of = of_packet_face net valid chosen router f n new in
          let same : of.row ≡ row = same_Some of.row row (sym of.at ∙ at) in
          record {
            place = f.0;
            row = row;
            at = at;
            own = sym (of.router_is ∙ ap (λ (r : FaceRow). r.router.0) same);
            named = (bytes_eq-Decides row.name face).0 t;
            new = subst (λ (m : List ℕ). IsNewList net chosen router (Packet f) m) (same_Some n name e) new;
            filled = of.filled;
          }
      of_face row at false t e = absurd (none-some name e)

      by : (o : Option FaceRow) → slice_get net.faces f.0 ≡ o → option_and_then (λ (row : FaceRow). if bytes_eq row.name face then Some n else None) o ≡ Some name → IsInbound name
      by None at e = absurd (none-some name e)
      by (Some row) at e = of_face row at (bytes_eq row.name face) refl e

  in_names_is : (name : List ℕ) → Contains inbound_names name → IsInbound name
  in_names_is name there =
      let r = picked_from (λ (l : NewList × List ℕ). list_for net face l.1 l.0) (named_lists net chosen router) name there in
      list_for_is r.0.0 r.0.1 name (new_of_named net valid small chosen router r.0 r.1) r.2

  pub inbound_is : (name : List ℕ) → new_inbound net chosen router face ≡ Some name → IsInbound name
  inbound_is name e = in_names_is name (first_is_in inbound_names name e)

  pub no_inbound : ((name : List ℕ) → IsInbound name → ⊥) → new_inbound net chosen router face ≡ None
  no_inbound none = none_first inbound_names (λ name there. none name (in_names_is name there))

  module _ (place : ℕ) (row : FaceRow) (at : slice_get net.faces place ≡ Some row) (own : row.router.0 ≡ router) (named : row.name ≡ face) where
    same_place : (name : List ℕ) (i : IsInbound name) → i.place ≡ place
    same_place name i =
        one_face net valid i.place place i.row row i.at at (i.own ∙ sym own) (i.named ∙ sym named)

    pub inbound_none : is_empty (new_classes chosen place) ≡ true → new_inbound net chosen router face ≡ None
    inbound_none empty = no_inbound (λ name i. false≢true (sym i.filled ∙ ap (λ k. is_empty (new_classes chosen k)) (same_place name i) ∙ empty))

    pub inbound_named : (name : List ℕ) → IsNewList net chosen router (Packet (record { 0 = place })) name → new_inbound net chosen router face ≡ Some name
    inbound_named name new =
        let line : list_for net face name (Packet (record { 0 = place })) ≡ Some name =
        ap (option_and_then (λ (r : FaceRow). if bytes_eq r.name face then Some name else None)) at ∙ ap (λ b. if b then Some name else None) ((bytes_eq-Decides row.name face).1 named) in
        let there : Contains inbound_names name =
        picks (λ (l : NewList × List ℕ). list_for net face l.1 l.0) (named_lists net chosen router) (Packet (record { 0 = place }), name) name
        (named_of_new net valid small chosen router (Packet (record { 0 = place })) name new) line in
        let f = some_first inbound_names name there in
        let i : IsInbound f.0 = inbound_is f.0 f.1 in
        let spot : i.place ≡ place = same_place f.0 i in
        f.1 ∙ ap Some (one_name net valid small chosen router (Packet (record { 0 = place })) f.0 name (subst (λ (k : ℕ). IsNewList net chosen router (Packet (record { 0 = k })) f.0) spot i.new) new)

    pub inbound_new : is_empty (new_classes chosen place) ≡ false →
        (name : List ℕ) × IsNewList net chosen router (Packet (record { 0 = place })) name × (new_inbound net chosen router face ≡ Some name)
    inbound_new filled =
        let made = packet_list_there net valid small chosen place row at filled in
        let list : IsNewList net chosen router (Packet (record { 0 = place })) made.0 = subst (λ (r : ℕ). IsNewList net chosen r (Packet (record { 0 = place })) made.0) own made.1 in
        (made.0, list, inbound_named made.0 list)
