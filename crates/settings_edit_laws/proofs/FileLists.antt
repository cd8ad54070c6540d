-- The lists of a kind that the files after edits bind and define are those of the network after the edits.
use Rattle.std.proofs.Common.{◌≡◌, ℕ, ◌⊎◌, ◌↔◌, inl, inr, Bool, true, false, Option, Some, None, List, [], ◌∷◌, ◌++◌, refl, sym, ◌∙◌, ap, subst, if◌then◌else◌}
use Rattle.std.specs.Prelude.{Contains, slice_get, option_map, bytes_eq}
use Rattle.std.proofs.lemmas.Bool.{not-true, and_parts}
use Rattle.std.proofs.lemmas.Option.{none-some, same_Some}
use Rattle.std.proofs.lemmas.Slice.Eq.{bytes_eq-Decides}
use Rattle.arc_base.specs.declared.place.Face.{Face}
use Rattle.net_model.specs.declared.policies.Document.{Document}
use Rattle.net_model.specs.declared.rows.Network.{Network}
use Rattle.net_model.proofs.Readings.{item_at_place, place_of_item}
use Rattle.ios_config.specs.declared.settings.Config.{Config}
use Rattle.ios_config.specs.declared.settings.ListText.{ListText}
use Rattle.net_rules.specs.Lists.{is_of_kind, is_packet_kind, list_named, has_entries}
use Rattle.edit_list.specs.declared.edit_kinds.Edit.{Edit}
use Rattle.edit_list.specs.declared.list_kinds.NewList.{NewList}
use Rattle.edit_list.specs.NewLists.{IsNewList}
use Rattle.edit_space.proofs.ListKinds.{ListsOfKind, IsListAfter}
use Rattle.settings_edit_laws.specs.Additions.{new_list_kind}
use Rattle.settings_edit_laws.specs.Plain.{plain_list}
use Rattle.settings_edit_laws.specs.SettingsAfter.{list_with, new_list_text, AreSettingsAfter}
use Rattle.settings_edit_laws.proofs.Edited.{AreEdited, file_now, file_was, not_new}
use Rattle.settings_edit_laws.proofs.ListRows.{row_text, row_of, plain_row, row_plain, row_edited, row_not_edited, row_new, has_plain}
use Rattle.settings_edit_laws.proofs.Pairs.{any_of}
use Rattle.settings_edit_laws.proofs.SessionFacts.{find_in}
use Rattle.settings_edit_laws.proofs.Tables.{is_list, old_named, new_named, no_new_text, new_text}
use Rattle.settings_edit_laws.proofs.TextKinds.{TextsOfKind}

-- what is known of a kind of lists: which rows the network has, and that what is bound stays bound, and is else a new list
pub record AreBound (net : Network) (chosen : List Edit) (old : List Config) (K : ListsOfKind net chosen) (T : TextsOfKind net chosen K) : Type 0 where
  pub just : (row : K.Row) → Contains K.lists row ↔ T.IsRow old row
  pub now : (router : ℕ) (c d : Config) (name : List ℕ) → slice_get old router ≡ Some c → AreSettingsAfter net chosen router c d → T.IsBound c name → T.IsBound d name
  pub was : (router : ℕ) (c d : Config) (name : List ℕ) → slice_get old router ≡ Some c → AreSettingsAfter net chosen router c d → T.IsBound d name →
      T.IsBound c name ⊎ ((face : Face) × IsNewList net chosen router (K.new face) name)
  pub new : (face : Face) (row : K.Row) → K.IsNew face row →
      (c : Config) × (slice_get old (K.router row) ≡ Some c) × ((d : Config) → AreSettingsAfter net chosen (K.router row) c d → T.IsBound d (K.name row))

of_kind : (packet : Bool) (l : ListText) → is_of_kind packet l ≡ true → is_packet_kind l.kind ≡ packet
of_kind true l e = e
of_kind false l e = not-true (is_packet_kind l.kind) e

module _ (doc : Document) (net : Network) (old new : List Config) (chosen : List Edit) (g : AreEdited doc net old new chosen) {K : ListsOfKind net chosen} (T : TextsOfKind net chosen K)
    (bound : AreBound net chosen old K T) where
  abbrev row_at : ℕ → Config → List ℕ → Option K.Row
  row_at router c name = row_of T router name (list_named T.packet c name)

  is_row : (configs : List Config) (row : K.Row) (router : ℕ) (name : List ℕ) (c : Config) → K.router row ≡ router → K.name row ≡ name →
      slice_get configs router ≡ Some c → T.IsBound c name → row_at router c name ≡ Some row → T.IsRow configs row
  is_row configs row router name c own named at binds defined =
      T.to_row configs row c (ap (slice_get configs) own ∙ at) (subst (T.IsBound c) (sym named) binds) (ap (λ (r : ℕ). row_at r c (K.name row)) own ∙ ap (row_at router c) named ∙ defined)

  module _ (router : ℕ) (c d : Config) (at : slice_get old router ≡ Some c) (after : AreSettingsAfter net chosen router c d) (name : List ℕ) where
    abbrev none_new : Type 0
    none_new = (list : NewList) → IsNewList net chosen router list name → ⊥

    row_now_is : (o : Option ListText) → option_map plain_list (list_named T.packet d name) ≡ o → row_at router d name ≡ row_of T router name o
    row_now_is o e = sym (row_plain T router name (list_named T.packet d name)) ∙ ap (row_of T router name) e

    -- the row now of a list that was found, where no new list has the name
    edited_is : none_new → (o : Option ListText) → list_named T.packet c name ≡ o → row_at router d name ≡ row_of T router name (option_map (list_with net chosen router) (option_map plain_list o))
    edited_is none o e =
        row_now_is (option_map (list_with net chosen router) (option_map plain_list o))
        (old_named net g.valid g.small chosen router c d after T.packet name (no_new_text net g.valid g.small chosen router c d after T.packet name none) ∙
        ap (λ (o : Option ListText). option_map (list_with net chosen router) (option_map plain_list o)) e)

    -- a list that is found is of its kind and has its name
    found_is : (l : ListText) → list_named T.packet c name ≡ Some l → (is_packet_kind l.kind ≡ T.packet) × (l.name ≡ name) × Contains c.lists l
    found_is l e =
        let f = find_in (is_list T.packet name) c.lists l e in
        let both = and_parts (bytes_eq l.name name) (is_of_kind T.packet l) f.1 in
        (of_kind T.packet l both.1, (bytes_eq-Decides l.name name).0 both.0, f.0)

    -- the row of a file's list, where it is defined
    row_is : (l : ListText) (b : Bool) → list_named T.packet c name ≡ Some l → has_entries l.entries ≡ b → row_at router c name ≡ option_map (row_text T router name) (if b then Some l else None)
    row_is l b e has = ap (row_of T router name) e ∙ ap (λ b. option_map (row_text T router name) (if b then Some l else None)) has

    -- the row of a network's list after the edits
    defined_now : none_new → (place : ℕ) (was : K.Row) → slice_get K.lists place ≡ Some was → K.router was ≡ router → K.name was ≡ name →
        row_at router c name ≡ Some was → row_at router d name ≡ Some (K.edited place was)
    defined_now none place was at_place own named is = by (list_named T.packet c name) refl
      where
        by : (o : Option ListText) → list_named T.packet c name ≡ o → row_at router d name ≡ Some (K.edited place was)
        by None e = absurd (none-some was (sym (ap (row_of T router name) e) ∙ is))
        by (Some l) e = inner (has_entries l.entries) refl
          where
            inner : (b : Bool) → has_entries l.entries ≡ b → row_at router d name ≡ Some (K.edited place was)
            inner false has = absurd (none-some was (sym (row_is l false e has) ∙ is))
            inner true has =
                let f = found_is l e in
                let row : row_text T router name l ≡ was = same_Some (row_text T router name l) was (sym (row_is l true e has) ∙ is) in
                edited_is none (Some l) e ∙ row_edited T router name place was at_place own named (plain_list l) f.0 f.1 (plain_row T router name l ∙ row) (has_plain l.entries ∙ has)

    -- the old list of a row
    defined_was : none_new → T.IsBound c name → (row : K.Row) → row_at router d name ≡ Some row → (place : ℕ) × (was : K.Row) × (slice_get K.lists place ≡ Some was) × (row ≡ K.edited place was)
    defined_was none binds row is = by (list_named T.packet c name) refl
      where
        by : (o : Option ListText) → list_named T.packet c name ≡ o → (place : ℕ) × (was : K.Row) × (slice_get K.lists place ≡ Some was) × (row ≡ K.edited place was)
        by None e = absurd (none-some row (sym (edited_is none None e) ∙ is))
        by (Some l) e = inner (has_entries l.entries) refl
          where
            f : (is_packet_kind l.kind ≡ T.packet) × (l.name ≡ name) × Contains c.lists l
            f = found_is l e

            inner : (b : Bool) → has_entries l.entries ≡ b → (place : ℕ) × (was : K.Row) × (slice_get K.lists place ≡ Some was) × (row ≡ K.edited place was)
            inner true has =
                let was : K.Row = row_text T router name l in
                let own : K.router was ≡ router = T.router_is router name l.kind _ in
                let named : K.name was ≡ name = T.name_is router name l.kind _ in
                let defined : row_at router c name ≡ Some was = row_is l true e has in
                let there = place_of_item K.lists was ((bound.just was).1 (is_row old was router name c own named at binds defined)) in
                (there.0, was, there.1, same_Some row (K.edited there.0 was) (sym is ∙ defined_now none there.0 was there.1 own named defined))
            inner false has = absurd (none-some row (sym (edited_is none (Some l) e ∙ row_not_edited T router name not_there (plain_list l) f.0 f.1 (has_plain l.entries ∙ has)) ∙ is))
              where
                not_there : (place : ℕ) (was : K.Row) → slice_get K.lists place ≡ Some was → K.router was ≡ router → K.name was ≡ name → ⊥
                not_there place was at_place own named =
                    let r = T.from_row old was ((bound.just was).0 (item_at_place K.lists place was at_place)) in
                    let same : r.0 ≡ c = same_Some r.0 c (sym r.1 ∙ ap (slice_get old) own ∙ at) in
                    none-some was (sym (row_is l false e has) ∙ sym (ap (row_at router c) named) ∙ sym (ap (λ (n : ℕ). row_at n c (K.name was)) own)
                    ∙ sym (ap (λ (k : Config). row_at (K.router was) k (K.name was)) same) ∙ r.3)

    -- a new list is defined as it is made
    defined_new : (face : Face) → IsNewList net chosen router (K.new face) name → row_at router d name ≡ Some (T.made router name (new_list_kind (K.new face)) (T.first face ++ T.last ∷ []))
    defined_new face made =
        row_now_is (Some (new_list_text chosen name (K.new face)))
        (new_named net g.valid g.small chosen router c d after T.packet name (no_old (list_named T.packet c name) refl)
        ∙ new_text net g.valid g.small chosen router c d after T.packet name (K.new face) made (T.new_kind_is face)) ∙
        row_new T router name face
      where
        no_old : (o : Option ListText) → list_named T.packet c name ≡ o → list_named T.packet c name ≡ None
        no_old None e = e
        no_old (Some l) e =
            let f = found_is l e in
            absurd (not_new doc net old new chosen g router c name at (inl (any_of (λ (m : ListText). m.name ≡ name) c.lists l f.2 f.1)) (K.new face) made)

  -- no new list has a name that is bound
  abbrev not_new_bound : (router : ℕ) (c : Config) (name : List ℕ) → slice_get old router ≡ Some c → T.IsBound c name → (list : NewList) → IsNewList net chosen router list name → ⊥
  not_new_bound router c name at binds = not_new doc net old new chosen g router c name at (T.bound_name c name binds)

  -- each list of the files is one after the edits
  is_after : (row : K.Row) → T.IsRow new row → IsListAfter K row
  is_after row r =
      let t = T.from_row new row r in
      let was = file_was doc net old new chosen g (K.router row) t.0 t.1 in
      elim (bound.was (K.router row) was.config t.0 (K.name row) was.at was.after t.2) [
        | inl binds ↦ inl (defined_was (K.router row) was.config t.0 was.at was.after (K.name row) (not_new_bound (K.router row) was.config (K.name row) was.at binds) binds row t.3)
        | inr made ↦
            let new_row = T.new_row (K.router row) (K.name row) made.0 made.1 in
            inr (made.0, subst (K.IsNew made.0) (same_Some _ row (sym (defined_new (K.router row) was.config t.0 was.at was.after (K.name row) made.0 made.1) ∙ t.3)) new_row)
      ]

  -- and each list after the edits is one of the files
  has_row : (row : K.Row) → IsListAfter K row → T.IsRow new row
  has_row row (inl (place, was, at_place, is)) =
      let r = T.from_row old was ((bound.just was).0 (item_at_place K.lists place was at_place)) in
      let now = file_now doc net old new chosen g (K.router was) r.0 r.1 in
      let own : K.router (K.edited place was) ≡ K.router was = K.router_is _ (K.edited place was) (K.old_for place was at_place) in
      let named : K.name (K.edited place was) ≡ K.name was = K.name_is _ (K.edited place was) (K.old_for place was at_place) in
      subst (T.IsRow new) (sym is) (is_row new (K.edited place was) (K.router was) (K.name was) now.config own named now.at (bound.now (K.router was) r.0 now.config (K.name was) r.1 now.after r.2)
      (defined_now (K.router was) r.0 now.config r.1 now.after (K.name was) (not_new_bound (K.router was) r.0 (K.name was) r.1 r.2) place was at_place refl refl r.3))
  has_row row (inr (face, n)) =
      let b = bound.new face row n in
      let now = file_now doc net old new chosen g (K.router row) b.0 b.1 in
      T.to_row new row now.config now.at (b.2 now.config now.after) (defined_new (K.router row) b.0 now.config b.1 now.after (K.name row) face (K.named face row n) ∙ ap Some (T.new_row_is face row n))

  pub same_lists : (row : K.Row) → IsListAfter K row ↔ T.IsRow new row
  same_lists row = (has_row row, is_after row)
