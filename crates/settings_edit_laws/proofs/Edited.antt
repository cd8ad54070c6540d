-- Files with a network, and the same files after edits of it: what is known of their routers and interfaces.
use Rattle.std.proofs.Common.{◌≡◌, ℕ, zero, suc, ◌+◌, false, Option, Some, List, [], ◌∷◌, map, refl, sym, ap, subst, arith}
use Rattle.std.specs.Prelude.{Contains, IsSome, slice_get}
use Rattle.std.specs.Option.{option_map_or}
use Rattle.std.specs.List.{AllZip, enumerate_from}
use Rattle.std.proofs.lemmas.Option.{none-some, same_Some}
use Rattle.arc_base.specs.declared.place.Face.{Face}
use Rattle.arc_base.proofs.Items.{Contains-head, Contains-tail, Contains-none, Contains-map, Contains-piece}
use Rattle.net_model.specs.declared.policies.Class.{Class}
use Rattle.net_model.specs.declared.policies.Document.{Document}
use Rattle.net_model.specs.declared.rows.FaceRow.{FaceRow}
use Rattle.net_model.specs.declared.rows.RouterRow.{RouterRow}
use Rattle.net_model.specs.declared.rows.Network.{Network}
use Rattle.net_model.specs.Validity.{IsValid}
use Rattle.net_model.proofs.Readings.{item_at_place, place_of_item}
use Rattle.ios_config.specs.declared.settings.Config.{Config}
use Rattle.ios_config.specs.declared.settings.FaceText.{FaceText}
use Rattle.ios_config.specs.Bare.{bare_face}
use Rattle.net_rules.specs.Lists.{IsListName, packet_list_key, route_list_key}
use Rattle.net_rules.specs.Rows.{AreRows, IsRouterRow, IsFaceRow, IsConfigured, IsSession, AreSessions}
use Rattle.net_model.specs.declared.rows.SessionRow.{SessionRow}
use Rattle.net_model.specs.declared.rows.Protocol.{Protocol}
use Rattle.net_model.specs.declared.rows.Protocol.TheVariants.{Ospf, Bgp}
use Rattle.net_rules.specs.Settings.{process_of}
use Rattle.net_rules.specs.Sites.{Site, sites, sites_of, ends_of}
use Rattle.edit_list.specs.Determined.{IsCountable}
use Rattle.edit_list.specs.declared.edit_kinds.Edit.{Edit}
use Rattle.edit_list.specs.declared.edit_kinds.Edit.TheVariants as edits
use Rattle.edit_list.specs.declared.list_kinds.NewList.{NewList}
use Rattle.edit_list.specs.Changes.{new_classes, new_prefixes}
use Rattle.edit_list.specs.NewLists.{names_of, IsNewList}
use Rattle.arc_base.specs.Numbered.{is_empty}
use Rattle.network_edit_laws.proofs.Changed.{packet_new_in, route_new_in}
use Rattle.network_edit_laws.proofs.Told.{some_item}
use Rattle.edit_list.proofs.RowFacts.{row_was, row_now}
use Rattle.arc_base.specs.declared.prefix.Prefix.{Prefix}
use Rattle.settings_edit_laws.specs.Premises.{AreFitting}
use Rattle.settings_edit_laws.specs.SettingsAfter.{face_with, AreSettingsAfter, AreAllSettingsAfter}
use Rattle.settings_edit_laws.proofs.NewNames.{name_is_new}
use Rattle.settings_edit_laws.proofs.Pairs.{maps_agree}
use Rattle.arc_base.proofs.Zips.{AllZip-right, AllZip-left}
use Rattle.settings_edit_laws.proofs.Sites.{IsSiteAfter, site_after}

-- the files have this network, and these are its edits and the settings after them
pub record AreEdited (doc : Document) (net : Network) (old new : List Config) (chosen : List Edit) : Type 0 where
  pub rows : AreRows doc old net
  pub valid : IsValid net
  pub small : IsCountable net
  pub fits : AreFitting net chosen
  pub settings : AreAllSettingsAfter net chosen old new
  pub processes : (k : ℕ) (c : Config) → slice_get old k ≡ Some c → IsSome (process_of c)

pub record FileNow (net : Network) (chosen : List Edit) (new : List Config) (router : ℕ) (c : Config) : Type 0 where
  pub config : Config
  pub at : slice_get new router ≡ Some config
  pub after : AreSettingsAfter net chosen router c config

pub record FileWas (net : Network) (chosen : List Edit) (old : List Config) (router : ℕ) (d : Config) : Type 0 where
  pub config : Config
  pub at : slice_get old router ≡ Some config
  pub after : AreSettingsAfter net chosen router config d

pub enumerated : {X : Type 0} (n k : ℕ) (xs : List X) (x : X) → slice_get xs k ≡ Some x → Contains (enumerate_from n xs) (n + k, x)
enumerated n k [] x e = absurd (none-some x e)
enumerated {X} n zero (y ∷ xs) x e =
    let place : n ≡ n + 0 = omega arith in
    let same : y ≡ x = same_Some y x e in
    subst (λ (p : ℕ × X). Contains ((n, y) ∷ enumerate_from (n + 1) xs) p) (λ i. (place i, same i)) (Contains-head (n, y) (enumerate_from (n + 1) xs))
enumerated {X} n (suc k) (y ∷ xs) x e =
    let place : n + 1 + k ≡ n + suc k = omega arith in
    Contains-tail (n, y) (n + suc k, x) (enumerate_from (n + 1) xs) (subst (λ (m : ℕ). Contains (enumerate_from (n + 1) xs) (m, x)) place (enumerated (n + 1) k xs x e))

-- a new list has an edit that makes it
pub packet_edit_there : (chosen : List Edit) (place : ℕ) → is_empty (new_classes chosen place) ≡ false →
    (face : Face) × (class : Class) × Contains chosen (edits.PacketNew face class) × (face.0 ≡ place)
packet_edit_there chosen place filled =
    let c = some_item (new_classes chosen place) filled in
    (record { 0 = place }, c.0, packet_new_in chosen (record { 0 = place }) c.0 c.1, refl)

-- a class in a new list has an edit that puts it there
pub packet_edit_of : (chosen : List Edit) (place : ℕ) (class : Class) → Contains (new_classes chosen place) class → (face : Face) × Contains chosen (edits.PacketNew face class)
packet_edit_of chosen place class there = (record { 0 = place }, packet_new_in chosen (record { 0 = place }) class there)

pub route_edit_there : (chosen : List Edit) (place : ℕ) → is_empty (new_prefixes chosen place) ≡ false →
    (face : Face) × (prefix : Prefix) × Contains chosen (edits.RouteNew face prefix) × (face.0 ≡ place)
route_edit_there chosen place filled =
    let p = some_item (new_prefixes chosen place) filled in
    (record { 0 = place }, p.0, route_new_in chosen (record { 0 = place }) p.0 p.1, refl)

module _ (doc : Document) (net : Network) (old new : List Config) (chosen : List Edit) (g : AreEdited doc net old new chosen) where
  pub file_now : (router : ℕ) (c : Config) → slice_get old router ≡ Some c → FileNow net chosen new router c
  file_now router c at = let r = row_now (AreSettingsAfter net chosen) old new g.settings router c at in record { config = r.0; at = r.1; after = r.2 }

  pub file_was : (router : ℕ) (d : Config) → slice_get new router ≡ Some d → FileWas net chosen old router d
  file_was router d at = let r = row_was (AreSettingsAfter net chosen) old new g.settings router d at in record { config = r.0; at = r.1; after = r.2 }

  pub router_row : (router : ℕ) (c : Config) → slice_get old router ≡ Some c → (row : RouterRow) × (slice_get net.routers router ≡ Some row) × IsRouterRow net.protocol c row
  router_row router c at = AllZip-right (IsRouterRow net.protocol) old net.routers g.rows.base.routers router c at

  abbrev pub IsRowOf : Site → FaceRow → Type 0
  IsRowOf s row = IsFaceRow net.protocol (ends_of doc.links) (map packet_list_key net.packet_lists) s row

  pub face_row : (k : ℕ) (s : Site) → slice_get (sites old) k ≡ Some s → (row : FaceRow) × (slice_get net.faces k ≡ Some row) × IsRowOf s row
  face_row k s at = AllZip-right IsRowOf (sites old) net.faces g.rows.base.faces k s at

  pub face_site : (k : ℕ) (row : FaceRow) → slice_get net.faces k ≡ Some row → (s : Site) × (slice_get (sites old) k ≡ Some s) × IsRowOf s row
  face_site k row at = AllZip-left IsRowOf (sites old) net.faces g.rows.base.faces k row at

  -- the names that a file gives or binds are none of new lists
  pub in_names : (router : ℕ) (c : Config) (name : List ℕ) → slice_get old router ≡ Some c → IsListName c name → Contains (names_of net router) name
  in_names router c name at listed =
      let r = router_row router c at in
      subst (λ (l : List (List ℕ)). Contains l name) (sym (ap (λ (o : Option RouterRow). option_map_or (λ (q : RouterRow). q.names) o []) r.1)) ((r.2.names.just name).1 listed)

  pub not_new : (router : ℕ) (c : Config) (name : List ℕ) → slice_get old router ≡ Some c → IsListName c name → (list : NewList) → IsNewList net chosen router list name → ⊥
  not_new router c name at listed list made = name_is_new net g.valid g.small chosen router list name made (in_names router c name at listed)

  -- an interface of a file stands among all of them
  pub own_site : (router : ℕ) (c : Config) (f : FaceText) → slice_get old router ≡ Some c → Contains c.faces f →
      (k : ℕ) × (slice_get (sites old) k ≡ Some (record { router = router; config = c; face = f }))
  own_site router c f at there =
      let placed : Contains (enumerate_from 0 old) (router, c) = subst (λ (n : ℕ). Contains (enumerate_from 0 old) (n, c)) (omega arith) (enumerated 0 router old c at) in
      let site : Contains (sites_of (router, c)) (record { router = router; config = c; face = f }) =
      Contains-map (λ (h : FaceText). record { router = router; config = c; face = h }) c.faces f there in
      place_of_item (sites old) (record { router = router; config = c; face = f })
      (Contains-piece sites_of (enumerate_from 0 old) (router, c) (record { router = router; config = c; face = f }) placed site)

  -- a session is configured in the file of its interface
  abbrev pub IsConfiguredAt : SessionRow → Site → Type 0
  IsConfiguredAt t near = IsConfigured (map route_list_key net.route_lists) near.router near.config t

  pub session_is : (t : SessionRow) → Contains net.sessions t → IsSession old net.links (map route_list_key net.route_lists) t
  session_is t there = by net.protocol net.sessions g.rows.sessions there
    where
      by : (p : Protocol) (ss : List SessionRow) → AreSessions p old net.links (map route_list_key net.route_lists) ss → Contains ss t → IsSession old net.links (map route_list_key net.route_lists) t
      by Ospf ss none h = absurd (Contains-none t (subst (λ (l : List SessionRow). Contains l t) none h))
      by Bgp ss are h = (are.just t).0 h

  pub session_site : (t : SessionRow) → Contains net.sessions t → (near : Site) × (slice_get (sites old) t.face.0 ≡ Some near) × IsConfiguredAt t near
  session_site t there = let s = session_is t there in (s.session_of.near, s.session_of.at_near, s.session_of.configured)

  module _ (router : ℕ) (c d : Config) (after : AreSettingsAfter net chosen router c d) where
    side_by_side : AllZip (λ (f h : FaceText). bare_face h ≡ face_with net chosen router (bare_face f)) c.faces d.faces
    side_by_side = maps_agree bare_face (face_with net chosen router) bare_face c.faces d.faces after.faces

    pub face_text_now : (f : FaceText) → Contains c.faces f →
        (h : FaceText) × Contains d.faces h × IsSiteAfter net chosen (record { router = router; config = c; face = f }) (record { router = router; config = d; face = h })
    face_text_now f there =
        let p = place_of_item c.faces f there in
        let r = AllZip-right (λ (f h : FaceText). bare_face h ≡ face_with net chosen router (bare_face f)) c.faces d.faces side_by_side p.0 f p.1 in
        (r.0, item_at_place d.faces p.0 r.0 r.1, site_after net chosen router c d after f r.0 r.2)

    pub face_text_was : (h : FaceText) → Contains d.faces h →
        (f : FaceText) × Contains c.faces f × IsSiteAfter net chosen (record { router = router; config = c; face = f }) (record { router = router; config = d; face = h })
    face_text_was h there =
        let p = place_of_item d.faces h there in
        let r = AllZip-left (λ (f h : FaceText). bare_face h ≡ face_with net chosen router (bare_face f)) c.faces d.faces side_by_side p.0 h p.1 in
        (r.0, item_at_place c.faces p.0 r.0 r.1, site_after net chosen router c d after r.0 h r.2)
