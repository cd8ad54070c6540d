-- The packet lists that the files after edits bind and define are those of the network after the edits.
use Rattle.std.proofs.Common.{◌≡◌, ℕ, ◌⊎◌, inl, inr, false, Option, Some, None, List, refl, sym, ◌∙◌, ap, subst}
use Rattle.std.specs.Prelude.{Contains, slice_get, ◌↔◌}
use Rattle.std.specs.Option.{option_or}
use Rattle.std.proofs.lemmas.Bool.{false≢true}
use Rattle.std.proofs.lemmas.Option.{same_Some}
use Rattle.edit_list.specs.declared.edit_kinds.Edit.TheVariants as edits
use Rattle.arc_base.specs.declared.place.Face.{Face}
use Rattle.net_model.specs.declared.lists.PacketList.{PacketList}
use Rattle.net_model.specs.declared.policies.Document.{Document}
use Rattle.net_model.specs.declared.rows.Network.{Network}
use Rattle.ios_config.specs.declared.settings.Config.{Config}
use Rattle.ios_config.specs.declared.settings.FaceText.{FaceText}
use Rattle.net_rules.specs.Lists.{BindsPacketList, IsBoundPacketList, IsPacketListRow}
use Rattle.net_rules.specs.Settings.{value}
use Rattle.net_rules.proofs.SiteFacts.{site_of}
use Rattle.edit_list.specs.declared.edit_kinds.Edit.{Edit}
use Rattle.edit_list.specs.declared.list_kinds.NewList.TheVariants as lists
use Rattle.edit_list.specs.NewLists.{IsNewList}
use Rattle.edit_list.specs.After.{IsNewPacketList, IsPacketListAfter}
use Rattle.edit_space.proofs.NamedFacts.{of_packet_face}
use Rattle.settings_edit_laws.specs.Additions.{new_inbound}
use Rattle.settings_edit_laws.specs.SettingsAfter.{AreSettingsAfter}
use Rattle.settings_edit_laws.proofs.Edited.{AreEdited, face_row, face_site, own_site, face_text_now, face_text_was, packet_edit_there}
use Rattle.settings_edit_laws.proofs.Inbound.{IsInbound, inbound_is, no_inbound, inbound_named}
use Rattle.settings_edit_laws.proofs.FileLists.{same_lists}
use Rattle.settings_edit_laws.proofs.Pairs.{any_of, of_any, given_is_some}
use Rattle.settings_edit_laws.proofs.TextKinds.{packet_texts}
use Rattle.settings_edit_laws.proofs.SessionFacts.{one_face}
use Rattle.settings_edit_laws.proofs.Sites.{IsSiteAfter, is_some_value}

module _ (doc : Document) (net : Network) (old new : List Config) (chosen : List Edit) (g : AreEdited doc net old new chosen) where
  -- an interface that binds a list has no new one
  pub keeps_bound : (router : ℕ) (c : Config) (f : FaceText) (name : List ℕ) → slice_get old router ≡ Some c → Contains c.faces f →
      value f.list_in ≡ Some name → new_inbound net chosen router f.name ≡ None
  keeps_bound router c f name at there bound = no_inbound net g.valid g.small chosen router f.name (λ n i. clash n i)
    where
      clash : (n : List ℕ) → IsInbound net g.valid g.small chosen router f.name n → ⊥
      clash n i =
          let site = own_site doc net old new chosen g router c f at there in
          let row = face_row doc net old new chosen g site.0 (record { router = router; config = c; face = f }) site.1 in
          let place : i.place ≡ site.0 =
          one_face net g.valid i.place site.0 i.row row.0 i.at row.1 (i.own ∙ sym row.2.router) (i.named ∙ sym row.2.name) in
          let edit = packet_edit_there chosen i.place i.filled in
          let at_edit : slice_get net.faces edit.0.0 ≡ Some row.0 = ap (slice_get net.faces) (edit.3 ∙ place) ∙ row.1 in
          let free : row.0.bound_in ≡ false = (g.fits (edits.PacketNew edit.0 edit.1) edit.2).1 row.0 at_edit in
          false≢true (sym free ∙ row.2.bound_in ∙ is_some_value f.list_in ∙ given_is_some (value f.list_in) name bound)

  -- what is bound is bound still
  pub bound_now : (router : ℕ) (c d : Config) (name : List ℕ) → slice_get old router ≡ Some c → AreSettingsAfter net chosen router c d → IsBoundPacketList c name → IsBoundPacketList d name
  bound_now router c d name at after bound =
      let b = of_any (BindsPacketList name) c.faces bound in
      let h = face_text_now doc net old new chosen g router c d after b.0 b.1 in
      any_of (BindsPacketList name) d.faces h.0 h.1 (by b.0 b.1 h.0 h.2 b.2)
    where
      by : (f : FaceText) → Contains c.faces f → (h : FaceText) →
          IsSiteAfter net chosen (record { router = router; config = c; face = f }) (record { router = router; config = d; face = h }) → BindsPacketList name f → BindsPacketList name h
      by f there h s (inl inbound) = inl (s.list_in ∙ ap (λ (o : Option (List ℕ)). option_or o (value f.list_in)) (keeps_bound router c f name at there inbound) ∙ inbound)
      by f there h s (inr outbound) = inr (s.stays.list_out ∙ outbound)

  -- what is bound was bound, or is a new list
  pub bound_was : (router : ℕ) (c d : Config) (name : List ℕ) → AreSettingsAfter net chosen router c d → IsBoundPacketList d name →
      IsBoundPacketList c name ⊎ ((face : Face) × IsNewList net chosen router (lists.Packet face) name)
  bound_was router c d name after bound =
      let b = of_any (BindsPacketList name) d.faces bound in
      let f = face_text_was doc net old new chosen g router c d after b.0 b.1 in
      by f.0 f.1 b.0 f.2 b.2
    where
      of_inbound : (f : FaceText) → Contains c.faces f → (o : Option (List ℕ)) → new_inbound net chosen router f.name ≡ o → option_or o (value f.list_in) ≡ Some name →
          IsBoundPacketList c name ⊎ ((face : Face) × IsNewList net chosen router (lists.Packet face) name)
      of_inbound f there None none e = inl (any_of (BindsPacketList name) c.faces f there (inl e))
      of_inbound f there (Some n) some e =
          let i = inbound_is net g.valid g.small chosen router f.name n some in
          inr (record { 0 = i.place }, subst (λ (m : List ℕ). IsNewList net chosen router (lists.Packet (record { 0 = i.place })) m) (same_Some n name e) i.new)

      by : (f : FaceText) → Contains c.faces f → (h : FaceText) →
          IsSiteAfter net chosen (record { router = router; config = c; face = f }) (record { router = router; config = d; face = h }) → BindsPacketList name h →
          IsBoundPacketList c name ⊎ ((face : Face) × IsNewList net chosen router (lists.Packet face) name)
      by f there h s (inl inbound) = of_inbound f there (new_inbound net chosen router f.name) refl (sym s.list_in ∙ inbound)
      by f there h s (inr outbound) = inl (any_of (BindsPacketList name) c.faces f there (inr (sym s.stays.list_out ∙ outbound)))

  pub same_packet_lists : (row : PacketList) → IsPacketListAfter net chosen row ↔ IsPacketListRow new row
  same_packet_lists =
      same_lists doc net old new chosen g (packet_texts net chosen g.valid)
      (record { just = g.rows.base.packet_lists.just; now = bound_now; was = λ router c d name at. bound_was router c d name; new = new_bound })
    where
      -- a new list is bound where it is to stand
      new_bound : (face : Face) (row : PacketList) → IsNewPacketList net chosen face row →
          (c : Config) × (slice_get old row.router.0 ≡ Some c) × ((d : Config) → AreSettingsAfter net chosen row.router.0 c d → IsBoundPacketList d row.name)
      new_bound face row n =
          let of = of_packet_face net g.valid chosen row.router.0 face row.name n.named in
          let s = face_site doc net old new chosen g face.0 of.row of.at in
          let file = site_of old face.0 s.0 s.1 in
          let router : s.0.router ≡ row.router.0 = sym s.2.router ∙ sym of.router_is in
          let inbound : new_inbound net chosen row.router.0 s.0.face.name ≡ Some row.name =
          inbound_named net g.valid g.small chosen row.router.0 s.0.face.name face.0 of.row of.at (sym of.router_is) s.2.name row.name n.named in (
            s.0.config,
            ap (slice_get old) (sym router) ∙ file.file_at,
            λ d after.
                let h = face_text_now doc net old new chosen g row.router.0 s.0.config d after s.0.face file.listed in
                any_of (BindsPacketList row.name) d.faces h.0 h.1 (inl (h.2.list_in ∙ ap (λ (o : Option (List ℕ)). option_or o (value s.0.face.list_in)) inbound)),
          )
