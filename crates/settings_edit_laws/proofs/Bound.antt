-- Where a bound list stands after the edits.
use mathlib.Core.Bool.{or-true, or-false}
use Rattle.std.proofs.Common.{◌≡◌, ℕ, ◌||◌, inl, inr, Bool, true, false, not, Option, Some, None, List, map, refl, sym, ◌∙◌, ap, subst}
use Rattle.std.specs.Prelude.{Contains, IsSomeAnd, MatchBool, is_some, slice_get, option_map, ◌↔◌}
use Rattle.std.proofs.lemmas.Option.{none-some, same_Some, slice_get-map}
use Rattle.arc_base.specs.declared.place.Face.{Face}
use Rattle.arc_base.specs.declared.place.ListId.{ListId}
use Rattle.arc_base.proofs.Items.{from_map, Contains-map}
use Rattle.net_model.specs.declared.policies.Document.{Document}
use Rattle.net_model.specs.declared.rows.Network.{Network}
use Rattle.net_model.proofs.Readings.{item_at_place}
use Rattle.ios_config.specs.declared.settings.Config.{Config}
use Rattle.net_rules.specs.Lists.{IsPlaceAmong, IsListName}
use Rattle.edit_list.specs.declared.edit_kinds.Edit.{Edit}
use Rattle.edit_list.specs.After.{StaysBound}
use Rattle.edit_list.specs.NewLists.{IsNewList}
use Rattle.edit_space.specs.Working.{old_key}
use Rattle.edit_space.proofs.ListKinds.{ListsOfKind, IsListAfter, one_router}
use Rattle.settings_edit_laws.proofs.Edited.{AreEdited, not_new}
use Rattle.settings_edit_laws.proofs.NewNames.{one_name}

-- whether a list is bound after the edits, which make one or do not
pub flag_after : (Made : List ℕ → Type 0) (none flag : Bool) (was bound : Option (List ℕ)) → flag ≡ is_some was → (none ≡ true → bound ≡ was) →
    (none ≡ false → (name : List ℕ) × Made name × (bound ≡ Some name)) → (flag || not none) ≡ is_some bound
flag_after Made true flag was bound had stays made = or-false flag ∙ had ∙ sym (ap is_some (stays refl))
flag_after Made false flag was bound had stays made = or-true flag ∙ sym (ap is_some (made refl).2)

module _ (doc : Document) (net : Network) (old new : List Config) (chosen : List Edit) (g : AreEdited doc net old new chosen) (K : ListsOfKind net chosen) (after : List K.Row)
    (are : (list : K.Row) → Contains after list ↔ IsListAfter K list) (router : ℕ) (c : Config) (at_c : slice_get old router ≡ Some c) where
  abbrev key : K.Row → ℕ × List ℕ
  key list = (K.router list, K.name list)

  -- where a list of the network stands after the edits
  abbrev Moves : ListId → ListId → Type 0
  Moves was id = IsSomeAnd (slice_get K.lists was.0) (λ list. slice_get after id.0 ≡ Some (K.edited was.0 list))

  -- a list that stands at a place has its key there
  key_at : (id : ℕ) (l : K.Row) (x : ℕ × List ℕ) → slice_get after id ≡ Some l → key l ≡ x → slice_get (map key after) id ≡ Some x
  key_at id l x at is = slice_get-map key after id ∙ ap (option_map key) at ∙ ap Some is

  key_of : (k : ℕ) (x : ℕ × List ℕ) → slice_get (map key K.lists) k ≡ Some x → (l : K.Row) × (slice_get K.lists k ≡ Some l) × (key l ≡ x)
  key_of k x e = by (slice_get K.lists k) refl (sym (slice_get-map key K.lists k) ∙ e)
    where
      by : (o : Option K.Row) → slice_get K.lists k ≡ o → option_map key o ≡ Some x → (l : K.Row) × (slice_get K.lists k ≡ Some l) × (key l ≡ x)
      by None at f = absurd (none-some x f)
      by (Some l) at f = (l, at, same_Some (key l) x f)

  key_stays : (k : ℕ) (l : K.Row) → slice_get K.lists k ≡ Some l → key (K.edited k l) ≡ key l
  key_stays k l at =
      let one = old_key k (K.router l) (K.name l) in
      let is_for = K.old_for k l at in
      λ i. (K.router_is one (K.edited k l) is_for i, K.name_is one (K.edited k l) is_for i)

  -- a list of an old name was there before
  was_there : (name : List ℕ) → IsListName c name → Contains (map key after) (router, name) → Contains (map key K.lists) (router, name)
  was_there name listed there =
      let r = from_map key after (router, name) there in
      elim ((are r.0).0 r.1) [
        | inl (place, was, at_place, same) ↦
            subst (λ (k : ℕ × List ℕ). Contains (map key K.lists) k) (sym (key_stays place was at_place) ∙ ap key (sym same) ∙ r.2)
            (Contains-map key K.lists was (item_at_place K.lists place was at_place))
        | inr (face, n) ↦
            let router_is : K.router r.0 ≡ router = ap (λ (k : ℕ × List ℕ). k.0) r.2 in
            let name_is : K.name r.0 ≡ name = ap (λ (k : ℕ × List ℕ). k.1) r.2 in
            absurd (not_new doc net old new chosen g router c name at_c listed (K.new face)
            (subst (λ (m : List ℕ). IsNewList net chosen router (K.new face) m) name_is (subst (λ (m : ℕ). IsNewList net chosen m (K.new face) (K.name r.0)) router_is (K.named face r.0 n))))
      ]

  moved : (name : List ℕ) (was id : ListId) → Moves was id → slice_get (map key K.lists) was.0 ≡ Some (router, name) → slice_get (map key after) id.0 ≡ Some (router, name)
  moved name was id moves at =
      let l = key_of was.0 (router, name) at in
      key_at id.0 (K.edited was.0 l.0) (router, name)
      (subst (λ (o : Option K.Row). IsSomeAnd o (λ list. slice_get after id.0 ≡ Some (K.edited was.0 list))) l.1 moves) (key_stays was.0 l.0 l.1 ∙ l.2)

  -- what stays bound stands where it stands now
  pub stays_placed : (bound : Option (List ℕ)) (w n : Option ListId) → ((name : List ℕ) → bound ≡ Some name → IsListName c name) → StaysBound Moves w n →
      IsPlaceAmong (map key K.lists) router bound w → IsPlaceAmong (map key after) router bound n
  stays_placed None None n listed h p = subst (λ (o : Option ListId). IsPlaceAmong (map key after) router None o) (sym h) tt
  stays_placed (Some name) None n listed h p = subst (λ (o : Option ListId). IsPlaceAmong (map key after) router (Some name) o) (sym h) (λ there. p (was_there name (listed name refl) there))
  stays_placed bound (Some was) None listed h p = absurd h
  stays_placed None (Some was) (Some id) listed h p = absurd p
  stays_placed (Some name) (Some was) (Some id) listed h p = moved name was id h p

  new_place : (face : Face) (n : Option ListId) (name : List ℕ) → IsNewList net chosen router (K.new face) name → IsSomeAnd n (λ id. IsSomeAnd (slice_get after id.0) (K.IsNew face)) →
      IsPlaceAmong (map key after) router (Some name) n
  new_place face None name made h = absurd h
  new_place face (Some id) name made h = by (slice_get after id.0) refl h
    where
      by : (o : Option K.Row) → slice_get after id.0 ≡ o → IsSomeAnd o (K.IsNew face) → slice_get (map key after) id.0 ≡ Some (router, name)
      by None e h = absurd h
      by (Some l) e h =
          let named = K.named face l h in
          let router_is : K.router l ≡ router = one_router K (K.router l) router face (K.name l) name named made in
          let name_is : K.name l ≡ name =
          one_name net g.valid g.small chosen router (K.new face) (K.name l) name (subst (λ (r : ℕ). IsNewList net chosen r (K.new face) (K.name l)) router_is named) made in
          key_at id.0 l (router, name) e (λ i. (router_is i, name_is i))

  -- the list that stays bound, or the new one
  pub bound_after : (face : Face) (none : Bool) (was bound : Option (List ℕ)) (w n : Option ListId) → (none ≡ true → bound ≡ was) →
      (none ≡ false → (name : List ℕ) × IsNewList net chosen router (K.new face) name × (bound ≡ Some name)) → ((name : List ℕ) → was ≡ Some name → IsListName c name) →
      MatchBool none (StaysBound Moves w n) (IsSomeAnd n (λ id. IsSomeAnd (slice_get after id.0) (K.IsNew face))) → IsPlaceAmong (map key K.lists) router was w →
      IsPlaceAmong (map key after) router bound n
  bound_after face true was bound w n stays made listed h p = subst (λ (o : Option (List ℕ)). IsPlaceAmong (map key after) router o n) (sym (stays refl)) (stays_placed was w n listed h p)
  bound_after face false was bound w n stays made listed h p =
      let m = made refl in
      subst (λ (o : Option (List ℕ)). IsPlaceAmong (map key after) router o n) (sym m.2) (new_place face n m.0 m.1 h)
