-- What is known of an interface of the files by its place.
use Rattle.std.proofs.Common.{◌≡◌, ℕ, suc, ◌+◌, inl, inr, List, [], ◌∷◌, Some, sym, ◌∙◌, ap, subst, arith}
use Rattle.std.specs.Prelude.{Contains, slice_get, option_map, All}
use Rattle.std.specs.List.{enumerate_from}
use Rattle.std.proofs.lemmas.List.Elements.{All-contains}
use Rattle.std.proofs.lemmas.Option.{slice_get-map, same_Some}
use Rattle.ios_config.specs.declared.settings.Config.{Config}
use Rattle.ios_config.specs.declared.settings.FaceText.{FaceText}
use Rattle.net_rules.specs.Forms.{IsWellFormed, IsWellFormedFace}
use Rattle.net_rules.specs.Sites.{Site, host_name, sites_of, sites, full_name, full_names}
use Rattle.arc_base.specs.Lists.{AreDistinct}
use Rattle.net_rules.proofs.Distinct.{Contains-at, one_place}
use Rattle.arc_base.proofs.Items.{from_map, from_piece, Contains-cases, Contains-none}

-- the interface is one of the file at its router's place
pub record IsSiteOf (configs : List Config) (site : Site) : Type 0 where
  pub file_at : slice_get configs site.router ≡ Some site.config
  pub listed : Contains site.config.faces site.face

numbered : (n : ℕ) (configs : List Config) (placed : ℕ × Config) → Contains (enumerate_from n configs) placed → (i : ℕ) × (placed.0 ≡ n + i) × (slice_get configs i ≡ Some placed.1)
numbered n [] placed there = absurd (Contains-none placed there)
numbered n (file ∷ configs) placed there =
    elim (Contains-cases (n, file) placed (enumerate_from (n + 1) configs) there) [
      | inl here ↦ (
        0,
        let e : n ≡ placed.0 = ap (λ (p : ℕ × Config). p.0) here in omega (arith, e),
        ap (λ (p : ℕ × Config). Some p.1) here,
      )
      | inr later ↦
          let r : (i : ℕ) × (placed.0 ≡ n + 1 + i) × (slice_get configs i ≡ Some placed.1) = numbered (n + 1) configs placed later in
          (suc r.0, omega (arith, r.1), r.2)
    ]

pub site_of : (configs : List Config) (k : ℕ) (site : Site) → slice_get (sites configs) k ≡ Some site → IsSiteOf configs site
site_of configs k site at =
    let placed : (p : ℕ × Config) × Contains (enumerate_from 0 configs) p × Contains (sites_of p) site = from_piece sites_of (enumerate_from 0 configs) site (Contains-at (sites configs) k site at) in
    let n : (i : ℕ) × (placed.0.0 ≡ 0 + i) × (slice_get configs i ≡ Some placed.0.1) = numbered 0 configs placed.0 placed.1 in
    let face : (face : FaceText) × Contains placed.0.1.faces face × (record { router = placed.0.0; config = placed.0.1; face = face } ≡ site) =
    from_map (λ (face : FaceText). record { router = placed.0.0; config = placed.0.1; face = face }) placed.0.1.faces site placed.2 in
    let place : n.0 ≡ placed.0.0 = omega (arith, n.1) in
    let here : IsSiteOf configs (record { router = placed.0.0; config = placed.0.1; face = face.0 }) = record {
      file_at = subst (λ (i : ℕ). slice_get configs i ≡ Some placed.0.1) place n.2;
      listed = face.1;
    } in
    subst (λ (s : Site). IsSiteOf configs s) face.2 here

pub name_at_site : (configs : List Config) (k : ℕ) (site : Site) → slice_get (sites configs) k ≡ Some site → slice_get (full_names configs) k ≡ Some (full_name site)
name_at_site configs k site at = slice_get-map full_name (sites configs) k ∙ ap (option_map full_name) at

-- interfaces of routers at one place are of one file
pub same_router : (configs : List Config) (s t : Site) → IsSiteOf configs s → IsSiteOf configs t → s.router ≡ t.router → s.config ≡ t.config
same_router configs s t of_s of_t same =
    same_Some s.config t.config (sym of_s.file_at ∙ ap (λ i. slice_get configs i) same ∙ of_t.file_at)

-- interfaces of one router with one name are one
pub same_site : (configs : List Config) → AreDistinct (full_names configs) → (i j : ℕ) (s t : Site) → slice_get (sites configs) i ≡ Some s → slice_get (sites configs) j ≡ Some t →
    s.router ≡ t.router → s.face.name ≡ t.face.name → i ≡ j
same_site configs distinct i j s t at_i at_j router name =
    let file : s.config ≡ t.config = same_router configs s t (site_of configs i s at_i) (site_of configs j t at_j) router in
    let named : full_name s ≡ full_name t = λ k. (host_name (file k), name k) in
    one_place (full_names configs) i j (full_name t) distinct (name_at_site configs i s at_i ∙ ap Some named) (name_at_site configs j t at_j)

-- an interface of a well formed file
pub well_formed_at : (configs : List Config) → All IsWellFormed configs → (k : ℕ) (site : Site) → slice_get (sites configs) k ≡ Some site → IsWellFormedFace site.face
well_formed_at configs all k site at =
    let s : IsSiteOf configs site = site_of configs k site at in
    let file : IsWellFormed site.config = All-contains IsWellFormed configs site.config all (Contains-at configs site.router site.config s.file_at) in
    All-contains IsWellFormedFace site.config.faces site.face file.faces s.listed
