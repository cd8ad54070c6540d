-- Where an interface stands among those of all files.
use Rattle.std.proofs.Common.{◌≡◌, ℕ, zero, suc, ◌+◌, ◌-◌, ◌<◌, ◌≤◌, inl, inr, List, [], ◌∷◌, ◌++◌, length, get_or, drop, refl, sym, ◌∙◌, ap, subst, arith, Option, Some, None}
use Rattle.std.specs.Prelude.{Contains, slice_get, option_map, IsSomeAnd}
use Rattle.std.specs.List.{flat_map, enumerate_from}
use Rattle.std.proofs.lemmas.List.{drop_more, drop_all, length-map}
use Rattle.std.proofs.lemmas.List.FromFn.{length-enumerate_from, get_or-enumerate_from}
use Rattle.std.proofs.lemmas.Option.{none-some, slice_get-map, slice_get-get_or, slice_get_cases}
use Rattle.ios_config.specs.declared.settings.Config.{Config}
use Rattle.ios_config.specs.declared.settings.FaceText.{FaceText}
use Rattle.net_rules.specs.Sites.{Site, sites, sites_of}
use Rattle.net_rules.proofs.Distinct.{Contains-at}
use Rattle.arc_base.proofs.Items.{from_map, from_piece}

-- the interfaces of these files, the first of which stands at this place
abbrev pub sites_from : ℕ → List Config → List Site
sites_from n configs = flat_map sites_of (enumerate_from n configs)

abbrev pub site_in : ℕ × Config → FaceText → Site
site_in placed face = record { router = placed.0; config = placed.1; face = face }

get_left : {X : Type 0} (xs ys : List X) (i : ℕ) (x : X) → slice_get xs i ≡ Some x → slice_get (xs ++ ys) i ≡ Some x
get_left [] ys i x e = absurd (none-some x e)
get_left (y ∷ xs) ys zero x e = e
get_left (y ∷ xs) ys (suc i) x e = get_left xs ys i x e

get_right : {X : Type 0} (xs ys : List X) (i : ℕ) → length xs ≤ i → slice_get (xs ++ ys) i ≡ slice_get ys (i - length xs)
get_right [] ys i h = let e : i ≡ i - 0 = omega arith in ap (slice_get ys) e
get_right (x ∷ xs) ys zero h = absurd (omega (arith, h))
get_right (x ∷ xs) ys (suc i) h =
    let e : i - length xs ≡ suc i - suc (length xs) = omega arith in
    let l : length xs ≤ i = omega (arith, h) in
    get_right xs ys i l ∙ ap (slice_get ys) e

-- the interface of the first file at a place
at_site : (n : ℕ) (config : Config) (configs : List Config) (rest : ℕ) (face : FaceText) → slice_get config.faces rest ≡ Some face →
    slice_get (sites_from n (config ∷ configs)) rest ≡ Some (site_in (n, config) face)
at_site n config configs rest face e =
    get_left (sites_of (n, config)) (sites_from (n + 1) configs) rest (site_in (n, config) face)
    (slice_get-map (site_in (n, config)) config.faces rest ∙ ap (option_map (site_in (n, config))) e)

-- a place past the first file
past_file : (n : ℕ) (config : Config) (configs : List Config) (rest : ℕ) → length config.faces ≤ rest →
    slice_get (sites_from n (config ∷ configs)) rest ≡ slice_get (sites_from (n + 1) configs) (rest - length config.faces)
past_file n config configs rest h =
    let long : length (sites_of (n, config)) ≡ length config.faces = length-map config.faces (site_in (n, config)) in
    let far : length (sites_of (n, config)) ≤ rest = omega (arith, long, h) in
    get_right (sites_of (n, config)) (sites_from (n + 1) configs) rest far ∙ ap (λ k. slice_get (sites_from (n + 1) configs) (rest - k)) long

first_file : (items : List Config) (n : ℕ) (config : Config) → n < length items → config ≡ get_or items n config → drop n items ≡ config ∷ drop (n + 1) items
first_file items n config h e = drop_more items n config h ∙ ap (λ y. y ∷ drop (n + 1) items) (sym e)

-- the place is in the file that is next
pub spot_there : (configs items : List Config) (place n rest : ℕ) (config : Config) (face : FaceText) → n < length items → config ≡ get_or items n config →
    slice_get (sites configs) place ≡ slice_get (sites_from n (drop n items)) rest → Some face ≡ slice_get config.faces rest →
    IsSomeAnd (slice_get (sites configs) place) (λ site. (site.router ≡ n) × (site.face ≡ face))
spot_there configs items place n rest config face h e is found =
    let at : slice_get (sites configs) place ≡ Some (site_in (n, config) face) =
    is ∙ ap (λ l. slice_get (sites_from n l) rest) (first_file items n config h e) ∙ at_site n config (drop (n + 1) items) rest face (sym found) in
    subst (λ (o : Option Site). IsSomeAnd o (λ site. (site.router ≡ n) × (site.face ≡ face))) (sym at) (refl, refl)

-- it is past that file
pub spot_later : (configs items : List Config) (place n rest : ℕ) (config : Config) → n < length items → config ≡ get_or items n config →
    slice_get (sites configs) place ≡ slice_get (sites_from n (drop n items)) rest → length config.faces ≤ rest →
    slice_get (sites configs) place ≡ slice_get (sites_from (n + 1) (drop (n + 1) items)) (rest - length config.faces)
spot_later configs items place n rest config h e is far =
    is ∙ ap (λ l. slice_get (sites_from n l) rest) (first_file items n config h e) ∙ past_file n config (drop (n + 1) items) rest far

nothing_there : {X : Type 0} (xs : List X) (k : ℕ) → slice_get xs k ≡ None → length xs ≤ k
nothing_there xs k none = elim (slice_get_cases xs k).1 [
  | inl found ↦ absurd (none-some found.0 (sym none ∙ found.2))
  | inr past ↦ past.0
]

-- it is past all files
pub spot_nowhere : (configs items : List Config) (place n rest : ℕ) → length items ≤ n →
    slice_get (sites configs) place ≡ slice_get (sites_from n (drop n items)) rest → length (sites configs) ≤ place
spot_nowhere configs items place n rest h is =
    nothing_there (sites configs) place (is ∙ ap (λ l. slice_get (sites_from n l) rest) (drop_all n items h))

-- a file with its place
placed_at : (configs : List Config) (placed : ℕ × Config) → Contains (enumerate_from 0 configs) placed → slice_get configs placed.0 ≡ Some placed.1
placed_at configs placed (k, l, e) =
    let long : k < length configs = omega (arith, length-enumerate_from 0 configs, l) in
    let is : (0 + k, get_or configs k placed.1) ≡ placed = sym (get_or-enumerate_from 0 configs k placed long) ∙ e in
    let same : k ≡ 0 + k = omega arith in
    subst (λ (p : ℕ × Config). slice_get configs p.0 ≡ Some p.1) is
    (subst (λ (j : ℕ). slice_get configs j ≡ Some (get_or configs k placed.1)) same (slice_get-get_or configs k placed.1 long))

-- an interface stands in the file of its router
pub site_file : (configs : List Config) (k : ℕ) (site : Site) → slice_get (sites configs) k ≡ Some site → slice_get configs site.router ≡ Some site.config
site_file configs k site e =
    let piece = from_piece sites_of (enumerate_from 0 configs) site (Contains-at (sites configs) k site e) in
    let face = from_map (site_in piece.0) piece.0.1.faces site piece.2 in
    subst (λ (s : Site). slice_get configs s.router ≡ Some s.config) face.2 (placed_at configs piece.0 piece.1)
