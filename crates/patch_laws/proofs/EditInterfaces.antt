-- The interfaces of new packet lists, and the processes, of a network's files.
use Rattle.std.proofs.Common.{◌≡◌, ℕ, zero, ◌+◌, inl, inr, Option, Some, None, List, [], ◌∷◌, ◌++◌, map, refl, sym, ap, subst, ◌∙◌, arith, Contains}
use Rattle.std.specs.Prelude.{IsSomeAnd, MatchOption, slice_get, option_map}
use Rattle.std.specs.List.{enumerate_from, flat_map}
use Rattle.std.proofs.lemmas.Option.{none-some, same_Some, slice_get-map}
use Rattle.std.proofs.lemmas.List.{map-append}
use Rattle.arc_base.specs.declared.place.Face.{Face}
use Rattle.arc_base.specs.declared.refusal.Kind.TheVariants as refusals
use Rattle.arc_base.proofs.Items.{Contains-head, from_map, from_piece}
use Rattle.net_model.proofs.Readings.{item_at_place}
use Rattle.net_model.specs.declared.policies.Document.{Document}
use Rattle.net_model.specs.declared.rows.FaceRow.{FaceRow}
use Rattle.net_model.specs.declared.rows.Network.{Network}
use Rattle.net_model.specs.declared.rows.Protocol.{Protocol}
use Rattle.net_model.specs.declared.rows.Protocol.TheVariants.{Ospf, Bgp}
use Rattle.net_model.specs.Validity.{IsValid}
use Rattle.ios_config.specs.declared.commands.FileCommand.{FileCommand}
use Rattle.ios_config.specs.declared.settings.Config.{Config}
use Rattle.ios_config.specs.declared.settings.FaceText.{FaceText}
use Rattle.ios_config.specs.declared.settings.ProcessText.{ProcessText}
use Rattle.ios_config.specs.Texts.{config_of}
use Rattle.net_build.specs.declared.built.Built.{Built}
use Rattle.net_build.specs.declared.built.FacePlace.{FacePlace}
use Rattle.net_build.specs.declared.built.Places.{Places}
use Rattle.net_build.specs.Networks.{IsBuilt}
use Rattle.net_build.specs.Places.{face_place, places_of}
use Rattle.net_rules.specs.Routers.{HasNoOwnProcess, MixesProcesses, RunsOther, protocol_of, protocol_of_kind}
use Rattle.net_rules.specs.Rows.{IsFaceRow}
use Rattle.net_rules.specs.Settings.{process_of}
use Rattle.net_rules.specs.Sites.{Site, sites, sites_of}
use Rattle.edit_list.specs.declared.edit_kinds.Edit.{Edit}
use Rattle.edit_list.specs.declared.list_kinds.NewList.TheVariants.{Packet}
use Rattle.edit_list.specs.Determined.{IsCountable}
use Rattle.edit_space.proofs.NamedFacts.{of_packet_face}
use Rattle.line_patcher.specs.NewListLines.{face_places}
use Rattle.edit_list.specs.NewLists.{named_lists}
use Rattle.settings_edit_laws.proofs.FileClear.{offends_not}
use Rattle.settings_edit_laws.proofs.NewNames.{new_of_named}
use Rattle.settings_edit_laws.proofs.Pairs.{any_of}
use Rattle.arc_base.proofs.Zips.{AllZip-left}
use Rattle.patch_laws.specs.EditFiles.{HasFace}
use Rattle.patch_laws.proofs.EditBusy.{at-enumerated}

-- the interfaces of all files have their places
own-places : (router : ℕ) (config : Config) (fs : List FaceText) →
    map face_place fs ≡ map (λ (s : Site). face_place s.face) (map (λ (face : FaceText). record { router = router; config = config; face = face }) fs)
own-places router config [] = refl
own-places router config (f ∷ fs) = ap (λ l. face_place f ∷ l) (own-places router config fs)

places-from : (n : ℕ) (configs : List Config) → face_places (map places_of configs) ≡ map (λ (s : Site). face_place s.face) (flat_map sites_of (enumerate_from n configs))
places-from n [] = refl
places-from n (c ∷ configs) =
    (let one = own-places n c c.faces in let rest = places-from (n + 1) configs in λ i. one i ++ rest i) ∙
    sym (map-append (λ (s : Site). face_place s.face) (sites_of (n, c)) (flat_map sites_of (enumerate_from (n + 1) configs)))

module _ (doc : Document) (files : List (List ℕ)) (built : Built) (was : IsBuilt doc files built) (router : ℕ) (config : Config) (at : slice_get was.network.configs router ≡ Some config) where
  abbrev net : Network
  net = built.net

  abbrev configs : List Config
  configs = was.network.configs

  -- the interface of a new packet list
  pub has-face : (chosen : List Edit) → IsValid net → IsCountable net → (cs : List FileCommand) → config ≡ config_of cs → (face : Face) (name : List ℕ) →
      Contains (named_lists net chosen router) (Packet face, name) → HasFace net built.places router cs face.0
  has-face chosen valid small cs set face name there =
      let new = new_of_named net valid small chosen router (Packet face, name) there in
      let f = of_packet_face net valid chosen router face name new in
      let (s, at_site, row) = AllZip-left (λ (s : Site) (row : FaceRow). IsFaceRow net.protocol _ _ s row) (sites configs) net.faces was.network.rows.base.faces face.0 f.row f.at in
      let (placed, in_all, in_sites) = from_piece sites_of (enumerate_from 0 configs) s (item_at_place (sites configs) face.0 s at_site) in
      let (t, in_faces, is) = from_map (λ (t : FaceText). record { router = placed.0; config = placed.1; face = t }) placed.1.faces s in_sites in
      let (k, number, get) = at-enumerated 0 configs placed in_all in
      let here : placed.0 ≡ router = ap (λ (x : Site). x.router) is ∙ sym row.router ∙ sym f.router_is in
      let place : k ≡ router = omega (arith, number, here) in
      let same : placed.1 ≡ config = same_Some placed.1 config (sym get ∙ ap (slice_get configs) place ∙ at) in
      record {
        row = f.row;
        at = f.at;
        own = sym f.router_is;
        face = t;
        among = subst (λ (c : Config). Contains c.faces t) (same ∙ set) in_faces;
        name = ap (λ (x : Site). x.face.name) is ∙ sym row.name;
        place_is = ap (λ (ps : List Places). slice_get (face_places ps) face.0) was.places ∙ ap (λ (ps : List FacePlace). slice_get ps face.0) (places-from 0 configs) ∙
            slice_get-map (λ (x : Site). face_place x.face) (sites configs) face.0 ∙ ap (option_map (λ (x : Site). face_place x.face)) at_site ∙ ap (λ (x : Site). Some (face_place x.face)) (sym is);
      }

  mixes-not : (p : ProcessText) → process_of config ≡ Some p → (line : ℕ) → MixesProcesses (protocol_of configs) config p line → ⊥
  mixes-not p e line m =
      offends_not refusals.Protocol (HasNoOwnProcess configs) configs was.network.clear.1.0 router config line at
      (subst (λ (o : Option ProcessText). MatchOption o (line ≡ 0) (λ process. MixesProcesses (protocol_of configs) config process line)) (sym e) m)

  -- each file has a process
  pub record OneProcess : Type 0 where
    pub process : ProcessText
    pub one : config.process ≡ process ∷ []
    pub runs : protocol_of_kind process.kind ≡ net.protocol

  one-by : (ps : List ProcessText) → config.process ≡ ps → (p : ProcessText) → process_of config ≡ Some p → config.process ≡ p ∷ []
  one-by [] is p e = absurd (none-some p (sym (ap (λ (l : List ProcessText). slice_get l 0) is) ∙ e))
  one-by (q ∷ []) is p e = let same : q ≡ p = same_Some q p (sym (ap (λ (l : List ProcessText). slice_get l 0) is) ∙ e) in is ∙ (λ i. same i ∷ [])
  one-by (q ∷ r ∷ rest) is p e = absurd (mixes-not p e r.head (inl (subst (λ (l : List ProcessText). IsSomeAnd (slice_get l 1) (λ second. r.head ≡ second.head)) (sym is) refl)))

  same-kind : (p : ProcessText) → process_of config ≡ Some p → Contains config.process p → (k q : Protocol) → protocol_of_kind p.kind ≡ k → protocol_of configs ≡ q → k ≡ q
  same-kind p e there Ospf Ospf is runs = refl
  same-kind p e there Bgp Bgp is runs = refl
  same-kind p e there Ospf Bgp is runs = absurd (mixes-not p e p.head (inr (inr (any_of (RunsOther (protocol_of configs) p.head) config.process p there (refl, λ same. apart (sym is ∙ same ∙ runs))))))
    where
      apart : Ospf ≡ Bgp → ⊥
      apart f = cc
  same-kind p e there Bgp Ospf is runs = absurd (mixes-not p e p.head (inr (inr (any_of (RunsOther (protocol_of configs) p.head) config.process p there (refl, λ same. apart (sym is ∙ same ∙ runs))))))
    where
      apart : Bgp ≡ Ospf → ⊥
      apart f = cc

  pub one-process : OneProcess
  one-process = by (process_of config) refl
    where
      by : (o : Option ProcessText) → process_of config ≡ o → OneProcess
      by None e = absurd (offends_not refusals.Protocol (HasNoOwnProcess configs) configs was.network.clear.1.0 router config 0 at
          (subst (λ (o : Option ProcessText). MatchOption o (zero ≡ 0) (λ process. MixesProcesses (protocol_of configs) config process 0)) (sym e) refl))
      by (Some p) e =
          let one : config.process ≡ p ∷ [] = one-by config.process refl p e in
          let there : Contains config.process p = subst (λ (l : List ProcessText). Contains l p) (sym one) (Contains-head p []) in
          record {
            process = p;
            one = one;
            runs = same-kind p e there (protocol_of_kind p.kind) (protocol_of configs) refl refl ∙ sym was.network.rows.base.protocol;
          }
