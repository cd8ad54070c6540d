-- The interfaces of all files after edits, side by side with those before them.
use Rattle.std.proofs.Common.{◌≡◌, ℕ, zero, suc, ◌+◌, Option, Some, None, List, [], ◌∷◌, length, map, refl, sym, ◌∙◌, ap, subst, arith}
use Rattle.std.specs.Prelude.{is_some, slice_get, option_map, option_and_then}
use Rattle.std.specs.Option.{option_or}
use Rattle.std.specs.List.{AllZip, flat_map, enumerate_from}
use Rattle.std.proofs.lemmas.Option.{none-some, same_Some}
use Rattle.net_model.specs.declared.rows.Network.{Network}
use Rattle.ios_config.specs.declared.settings.Config.{Config}
use Rattle.ios_config.specs.declared.settings.Given.{Given}
use Rattle.ios_config.specs.declared.settings.FaceText.{FaceText}
use Rattle.ios_config.specs.Bare.{bare_face, bare_option}
use Rattle.net_rules.specs.Settings.{value, address_of}
use Rattle.net_rules.specs.Sites.{Site, sites, sites_of, full_name, full_names, host_name}
use Rattle.edit_list.specs.declared.edit_kinds.Edit.{Edit}
use Rattle.settings_edit_laws.specs.Plain.{said}
use Rattle.settings_edit_laws.specs.Additions.{new_inbound}
use Rattle.settings_edit_laws.specs.SettingsAfter.{face_with, AreSettingsAfter, AreAllSettingsAfter}
use Rattle.settings_edit_laws.proofs.Pairs.{maps_agree, zip_length, zip_maps, zip_weaker}
use Rattle.arc_base.proofs.Zips.{AllZip-append, AllZip-right, AllZip-left}
use Rattle.settings_edit_laws.proofs.Lines.{host_stays}

-- a value has no line
pub value_bare : {V : Type 0} (o : Option (Given V)) → value (bare_option o) ≡ value o
value_bare None = refl
value_bare (Some g) = refl

value_or : {V : Type 0} (o : Option V) (p : Option (Given V)) → value (option_or (option_map said o) (bare_option p)) ≡ option_or o (value p)
value_or None p = value_bare p
value_or (Some x) p = refl

-- what gives a value is something given
pub given_of_value : {V : Type 0} (o : Option (Given V)) (v : V) → value o ≡ Some v → (g : Given V) × (o ≡ Some g) × (g.value ≡ v)
given_of_value None v e = absurd (none-some v e)
given_of_value (Some g) v e = (g, refl, same_Some g.value v e)

-- whether something is given depends on its value
pub is_some_value : {V : Type 0} (o : Option (Given V)) → is_some o ≡ is_some (value o)
is_some_value None = refl
is_some_value (Some g) = refl

-- what an interface says is the same, but for its inbound list
pub record FaceStays (old new : FaceText) : Type 0 where
  pub name : new.name ≡ old.name
  pub addr : value new.addr ≡ value old.addr
  pub mask_len : value new.mask_len ≡ value old.mask_len
  pub shut : value new.shut ≡ value old.shut
  pub bandwidth : value new.bandwidth ≡ value old.bandwidth
  pub cost : value new.cost ≡ value old.cost
  pub area : value new.area ≡ value old.area
  pub point : value new.point ≡ value old.point
  pub list_out : value new.list_out ≡ value old.list_out

pub address_stays : (old new : FaceText) → FaceStays old new → address_of new ≡ address_of old
address_stays old new s =
    ap (λ (o : Option ℕ). option_and_then (λ (a : ℕ). option_map (λ (m : ℕ). (a, m)) (value new.mask_len)) o) s.addr ∙
    ap (λ (o : Option ℕ). option_and_then (λ (a : ℕ). option_map (λ (m : ℕ). (a, m)) o) (value old.addr)) s.mask_len

-- the files before and after, by the place of the router
pub record AreFiles (net : Network) (chosen : List Edit) (start : ℕ) (old new : List Config) : Type 0 where
  pub whole : length new ≡ length old
  pub each : (k : ℕ) (c d : Config) → slice_get old k ≡ Some c → slice_get new k ≡ Some d → AreSettingsAfter net chosen (start + k) c d

module _ (net : Network) (chosen : List Edit) where
  face_stays : (router : ℕ) (old new : FaceText) → bare_face new ≡ face_with net chosen router (bare_face old) → FaceStays old new
  face_stays router old new e = record {
    name = ap (λ (f : FaceText). f.name) e;
    addr = sym (value_bare new.addr) ∙ ap (λ (f : FaceText). value f.addr) e ∙ value_bare old.addr;
    mask_len = sym (value_bare new.mask_len) ∙ ap (λ (f : FaceText). value f.mask_len) e ∙ value_bare old.mask_len;
    shut = sym (value_bare new.shut) ∙ ap (λ (f : FaceText). value f.shut) e ∙ value_bare old.shut;
    bandwidth = sym (value_bare new.bandwidth) ∙ ap (λ (f : FaceText). value f.bandwidth) e ∙ value_bare old.bandwidth;
    cost = sym (value_bare new.cost) ∙ ap (λ (f : FaceText). value f.cost) e ∙ value_bare old.cost;
    area = sym (value_bare new.area) ∙ ap (λ (f : FaceText). value f.area) e ∙ value_bare old.area;
    point = sym (value_bare new.point) ∙ ap (λ (f : FaceText). value f.point) e ∙ value_bare old.point;
    list_out = sym (value_bare new.list_out) ∙ ap (λ (f : FaceText). value f.list_out) e ∙ value_bare old.list_out;
  }

  -- an interface before and after: its router is the same, and what is said of it, but for its inbound list
  pub record IsSiteAfter (s t : Site) : Type 0 where
    pub router : t.router ≡ s.router
    pub settings : AreSettingsAfter net chosen s.router s.config t.config
    pub stays : FaceStays s.face t.face
    pub list_in : value t.face.list_in ≡ option_or (new_inbound net chosen s.router s.face.name) (value s.face.list_in)

  pub site_after : (router : ℕ) (c d : Config) → AreSettingsAfter net chosen router c d → (f g : FaceText) → bare_face g ≡ face_with net chosen router (bare_face f) →
      IsSiteAfter (record { router = router; config = c; face = f }) (record { router = router; config = d; face = g })
  site_after router c d after f g e = record {
    router = refl;
    settings = after;
    stays = face_stays router f g e;
    list_in = sym (value_bare g.list_in) ∙ ap (λ (h : FaceText). value h.list_in) e ∙ value_or (new_inbound net chosen router f.name) f.list_in;
  }

  file_after : (router : ℕ) (c d : Config) → AreSettingsAfter net chosen router c d → AllZip IsSiteAfter (sites_of (router, c)) (sites_of (router, d))
  file_after router c d after =
      zip_maps IsSiteAfter (λ (f : FaceText). record { router = router; config = c; face = f }) (λ (f : FaceText). record { router = router; config = d; face = f }) c.faces d.faces
      (zip_weaker (λ (f g : FaceText). bare_face g ≡ face_with net chosen router (bare_face f))
      (λ (f g : FaceText). IsSiteAfter (record { router = router; config = c; face = f }) (record { router = router; config = d; face = g })) c.faces d.faces (site_after router c d after)
      (maps_agree bare_face (face_with net chosen router) bare_face c.faces d.faces after.faces))

  -- a file has as many interfaces as before
  pub faces_count : (router : ℕ) (c d : Config) → AreSettingsAfter net chosen router c d → length d.faces ≡ length c.faces
  faces_count router c d after =
      zip_length (λ (f g : FaceText). bare_face g ≡ face_with net chosen router (bare_face f)) c.faces d.faces (maps_agree bare_face
      (face_with net chosen router) bare_face c.faces d.faces after.faces)

  files_rest : (n : ℕ) (c d : Config) (cs ds : List Config) → AreFiles net chosen n (c ∷ cs) (d ∷ ds) → AreFiles net chosen (n + 1) cs ds
  files_rest n c d cs ds f = record {
    whole = omega (arith, f.whole);
    each = λ k a b at_a at_b. subst (λ (r : ℕ). AreSettingsAfter net chosen r a b) (omega arith) (f.each (suc k) a b at_a at_b);
  }

  files_first : (n : ℕ) (c d : Config) (cs ds : List Config) → AreFiles net chosen n (c ∷ cs) (d ∷ ds) → AreSettingsAfter net chosen n c d
  files_first n c d cs ds f = subst (λ (r : ℕ). AreSettingsAfter net chosen r c d) (omega arith) (f.each zero c d refl refl)

  sites_from : (n : ℕ) (cs ds : List Config) → AreFiles net chosen n cs ds → AllZip IsSiteAfter (flat_map sites_of (enumerate_from n cs)) (flat_map sites_of (enumerate_from n ds))
  sites_from n [] [] f = tt
  sites_from n (c ∷ cs) (d ∷ ds) f =
      AllZip-append IsSiteAfter (sites_of (n, c)) (sites_of (n, d)) (flat_map sites_of (enumerate_from (n + 1) cs)) (flat_map sites_of (enumerate_from (n + 1) ds))
      (file_after n c d (files_first n c d cs ds f)) (sites_from (n + 1) cs ds (files_rest n c d cs ds f))
  sites_from n cs ds f = absurd (omega (arith, f.whole))

  module _ (old new : List Config) (all : AreAllSettingsAfter net chosen old new) where
    pub sites_after : AllZip IsSiteAfter (sites old) (sites new)
    sites_after =
        sites_from 0 old new
        (record { whole = all.whole; each = λ k c d at_c at_d. subst (λ (r : ℕ). AreSettingsAfter net chosen r c d) (omega arith) (all.each k c d at_c at_d) })

    -- the full names stay
    pub full_name_stays : (s t : Site) → IsSiteAfter s t → full_name t ≡ full_name s
    full_name_stays s t after =
        let host : host_name t.config ≡ host_name s.config = host_stays net chosen s.router s.config t.config after.settings in
        let name : t.face.name ≡ s.face.name = after.stays.name in
        λ i. (host i, name i)

    names_of_sites : (ss ts : List Site) → AllZip IsSiteAfter ss ts → map full_name ts ≡ map full_name ss
    names_of_sites [] [] h = refl
    names_of_sites (s ∷ ss) (t ∷ ts) h =
        let head : full_name t ≡ full_name s = full_name_stays s t h.0 in
        let tail : map full_name ts ≡ map full_name ss = names_of_sites ss ts h.1 in
        λ i. head i ∷ tail i
    names_of_sites ss ts h = absurd h

    pub full_names_stay : full_names new ≡ full_names old
    full_names_stay = names_of_sites (sites old) (sites new) sites_after

    pub site_now : (k : ℕ) (s : Site) → slice_get (sites old) k ≡ Some s → (t : Site) × (slice_get (sites new) k ≡ Some t) × IsSiteAfter s t
    site_now k s at = AllZip-right IsSiteAfter (sites old) (sites new) sites_after k s at

    pub site_was : (k : ℕ) (t : Site) → slice_get (sites new) k ≡ Some t → (s : Site) × (slice_get (sites old) k ≡ Some s) × IsSiteAfter s t
    site_was k t at = AllZip-left IsSiteAfter (sites old) (sites new) sites_after k t at
