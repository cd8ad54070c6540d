-- The route lists that the files after edits bind and define are those of the network after the edits.
use Rattle.std.proofs.Common.{◌≡◌, ℕ, ◌⊎◌, inl, inr, false, Option, Some, None, List, refl, sym, ◌∙◌, ap, subst}
use Rattle.std.specs.Prelude.{slice_get, is_some, ◌↔◌}
use Rattle.std.proofs.lemmas.Bool.{false≢true}
use Rattle.std.proofs.lemmas.Option.{none-some, same_Some}
use Rattle.edit_list.specs.declared.edit_kinds.Edit.TheVariants as edits
use Rattle.arc_base.specs.declared.place.Face.{Face}
use Rattle.net_model.specs.declared.lists.RouteList.{RouteList}
use Rattle.net_model.specs.declared.policies.Document.{Document}
use Rattle.net_model.specs.declared.rows.FaceRow.{FaceRow}
use Rattle.net_model.specs.declared.rows.Network.{Network}
use Rattle.ios_config.specs.declared.settings.Config.{Config}
use Rattle.net_rules.specs.Lists.{IsBoundRouteList, IsRouteListRow}
use Rattle.net_rules.specs.Settings.{lines_of}
use Rattle.net_rules.proofs.SiteFacts.{site_of}
use Rattle.edit_list.specs.declared.edit_kinds.Edit.{Edit}
use Rattle.edit_list.specs.declared.list_kinds.NewList.TheVariants as lists
use Rattle.edit_list.specs.NewLists.{IsNewList}
use Rattle.edit_list.specs.After.{IsNewRouteList, IsRouteListAfter}
use Rattle.edit_space.proofs.NamedFacts.{of_route_face}
use Rattle.settings_edit_laws.specs.SettingsAfter.{AreSettingsAfter}
use Rattle.settings_edit_laws.proofs.Edited.{AreEdited, face_row, face_site, session_site, route_edit_there}
use Rattle.settings_edit_laws.proofs.NewNames.{one_name}
use Rattle.settings_edit_laws.proofs.Pairs.{last_is_in, nothing_in}
use Rattle.settings_edit_laws.proofs.Said.{IsBoundNew, names_bound, bound_new, filter_after, filter_is_new}
use Rattle.settings_edit_laws.proofs.SessionFacts.{session_found}
use Rattle.net_rules.specs.Neighbors.{filter_of}
use Rattle.edit_list.specs.Changes.{new_prefixes}
use Rattle.arc_base.specs.Numbered.{is_empty}
use Rattle.std.specs.List.{last_or}
use Rattle.settings_edit_laws.proofs.FileLists.{same_lists}
use Rattle.settings_edit_laws.proofs.TextKinds.{route_texts}

module _ (doc : Document) (net : Network) (old new : List Config) (chosen : List Edit) (g : AreEdited doc net old new chosen) where
  -- the session of a new list has its lines in the file of the router, and no list bound there
  session_free : (router : ℕ) (c : Config) (peer : ℕ) (name : List ℕ) → slice_get old router ≡ Some c → IsBoundNew net g.valid g.small chosen router peer name → filter_of (lines_of c) peer ≡ None
  session_free router c peer name at b =
      let of = of_route_face net g.valid chosen router b.face name b.new in
      let found = session_found net g.valid b.face b.session b.at in
      let near = session_site doc net old new chosen g b.session found.0 in
      let row = face_row doc net old new chosen g b.session.face.0 near.0 near.1 in
      let same_row : row.0 ≡ of.row = same_Some row.0 of.row (sym row.1 ∙ ap (slice_get net.faces) found.1 ∙ of.at) in
      let router_is : near.0.router ≡ router = sym row.2.router ∙ ap (λ (f : FaceRow). f.router.0) same_row ∙ sym of.router_is in
      let config_is : near.0.config ≡ c = same_Some near.0.config c (sym (site_of old b.session.face.0 near.0 near.1).file_at ∙ ap (slice_get old) router_is ∙ at) in
      let edit = route_edit_there chosen b.face.0 of.filled in
      let place : b.session.face.0 ≡ edit.0.0 = found.1 ∙ sym edit.3 in
      let free : b.session.bound ≡ false = g.fits (edits.RouteNew edit.0 edit.1) edit.2 b.session found.0 (λ i. record { 0 = place i }) in
      none_bound (filter_of (lines_of c) peer)
      (sym (near.2.bound ∙ ap (λ (k : Config). is_some (filter_of (lines_of k) b.session.peer)) config_is ∙ ap (λ (k : ℕ). is_some (filter_of (lines_of c) k)) b.peer_is) ∙ free)
    where
      none_bound : (o : Option (List ℕ)) → is_some o ≡ false → o ≡ None
      none_bound None e = refl
      none_bound (Some n) e = absurd (false≢true (sym e))

  -- what is bound is bound still
  pub bound_now : (router : ℕ) (c d : Config) (name : List ℕ) → slice_get old router ≡ Some c → AreSettingsAfter net chosen router c d → IsBoundRouteList c name → IsBoundRouteList d name
  bound_now router c d name at after bound = (
    bound.0,
    filter_after net g.valid g.small chosen router c d after (g.processes router c at) bound.0 ∙
        ap (last_or (filter_of (lines_of c) bound.0)) (nothing_in (names_bound net g.valid g.small chosen router bound.0) (λ n there.
        none-some name (sym (session_free router c bound.0 n at (bound_new net g.valid g.small chosen router bound.0 n there)) ∙ bound.1))) ∙ bound.1,
  )

  -- what is bound was bound, or is a new list
  pub bound_was : (router : ℕ) (c d : Config) (name : List ℕ) → slice_get old router ≡ Some c → AreSettingsAfter net chosen router c d →
      IsBoundRouteList d name → IsBoundRouteList c name ⊎ ((face : Face) × IsNewList net chosen router (lists.Route face) name)
  bound_was router c d name at after bound =
      elim (last_is_in (filter_of (lines_of c) bound.0) (names_bound net g.valid g.small chosen router bound.0) name
      (sym (filter_after net g.valid g.small chosen router c d after (g.processes router c at) bound.0) ∙ bound.1)) [
        | inl was ↦ inl (bound.0, was)
        | inr made ↦ let b = bound_new net g.valid g.small chosen router bound.0 name made in inr (b.face, b.new)
      ]

  pub same_route_lists : (row : RouteList) → IsRouteListAfter net chosen row ↔ IsRouteListRow new row
  same_route_lists =
      same_lists doc net old new chosen g (route_texts net chosen g.valid) (record { just = g.rows.base.route_lists.just; now = bound_now; was = bound_was; new = new_bound })
    where
      -- a new list is bound where it is to stand
      new_bound : (face : Face) (row : RouteList) → IsNewRouteList net chosen face row →
          (c : Config) × (slice_get old row.router.0 ≡ Some c) × ((d : Config) → AreSettingsAfter net chosen row.router.0 c d → IsBoundRouteList d row.name)
      new_bound face row n =
          let of = of_route_face net g.valid chosen row.router.0 face row.name n.named in
          let at_face : slice_get net.faces of.session.face.0 ≡ Some of.row = ap (λ (f : Face). slice_get net.faces f.0) of.face_is ∙ of.at in
          let s = face_site doc net old new chosen g face.0 of.row of.at in
          let file = site_of old face.0 s.0 s.1 in
          let router : s.0.router ≡ row.router.0 = sym s.2.router ∙ sym of.router_is in
          let at : slice_get old row.router.0 ≡ Some s.0.config = ap (slice_get old) (sym router) ∙ file.file_at in
          let filled : is_empty (new_prefixes chosen of.session.face.0) ≡ false = ap (λ (f : Face). is_empty (new_prefixes chosen f.0)) of.face_is ∙ of.filled in (
            s.0.config,
            at,
            λ d after.
                let bound = filter_is_new net g.valid g.small chosen row.router.0 s.0.config d after (g.processes row.router.0 s.0.config at) of.session of.row of.one at_face
                (sym of.router_is) filled in
                let same : bound.0 ≡ row.name = one_name net g.valid g.small chosen row.router.0 (lists.Route face) bound.0 row.name
                (subst (λ (f : Face). IsNewList net chosen row.router.0 (lists.Route f) bound.0) of.face_is bound.1) n.named in
                (of.session.peer, bound.2 ∙ ap Some same),
          )
