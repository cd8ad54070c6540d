-- How many interfaces a router has.
use Rattle.std.proofs.Common.{◌≡◌, ◌≢◌, ℕ, zero, suc, ◌+◌, ◌<◌, ◌≤◌, inl, inr, Bool, false, cond, List, [], ◌∷◌, length, refl, sym, subst, arith}
use Rattle.std.specs.Prelude.{All, map, ◌==◌, count_by, sum_by}
use Rattle.std.specs.List.{AllZip, flat_map, enumerate_from}
use Rattle.std.proofs.lemmas.Bool.Decides.{eqb_tells}
use Rattle.std.proofs.lemmas.List.{length-map}
use Rattle.std.proofs.lemmas.List.Elements.{All-map}
use Rattle.std.proofs.lemmas.List.Sums.{sum_by-cons, sum_by-append, sum_by-le, count_by-le-length}
use Rattle.ios_config.specs.declared.settings.Config.{Config}
use Rattle.ios_config.specs.declared.settings.FaceText.{FaceText}
use Rattle.net_rules.specs.Sites.{Site, sites_of, sites}

-- 1 for an interface of the router, and 0 for any other
abbrev pub counts : ℕ → Site → ℕ
counts router site = cond (site.router == router) 1 0

pub sum_zip : {X Y : Type 0} (R : X → Y → Type 0) (f : X → ℕ) (g : Y → ℕ) → ((x : X) (y : Y) → R x y → f x ≡ g y) → (xs : List X) (ys : List Y) → AllZip R xs ys → sum_by f xs ≡ sum_by g ys
sum_zip R f g same [] [] h = refl
sum_zip R f g same [] (y ∷ ys) h = absurd h
sum_zip R f g same (x ∷ xs) [] h = absurd h
sum_zip R f g same (x ∷ xs) (y ∷ ys) h =
    let rest : sum_by f xs ≡ sum_by g ys = sum_zip R f g same xs ys h.1 in
    omega (arith, sum_by-cons f x xs, sum_by-cons g y ys, same x y h.0, rest)

not_of_file : (router n : ℕ) (file : Config) → n ≢ router → sum_by (counts router) (sites_of (n, file)) ≤ 0
not_of_file router n file other =
    let f : FaceText → Site = λ face. record { router = n; config = file; face = face } in
    let none : (n == router) ≡ false = elim (eqb_tells n router) [ inl same ↦ absurd (other same.1) | inr differ ↦ differ.0 ] in
    let each : All (λ (s : Site). counts router s ≤ 0) (map f file.faces) =
    All-map (λ (s : Site). counts router s ≤ 0) f file.faces (λ k d l. subst (λ (b : Bool). cond b 1 0 ≤ 0) (sym none) (omega arith)) in
    omega (arith, sum_by-le (counts router) 0 (map f file.faces) each)

none_later : (router n : ℕ) (configs : List Config) → router < n → sum_by (counts router) (flat_map sites_of (enumerate_from n configs)) ≤ 0
none_later router n [] before = omega arith
none_later router n (file ∷ configs) before =
    let other : n ≢ router = λ e. omega (arith, e, before) in
    omega (
      arith,
      sum_by-append (counts router) (sites_of (n, file)) (flat_map sites_of (enumerate_from (n + 1) configs)),
      not_of_file router n file other,
      none_later router (n + 1) configs (omega arith),
    )

few_from : (router n : ℕ) (configs : List Config) → All (λ file. length file.faces ≤ 256) configs → sum_by (counts router) (flat_map sites_of (enumerate_from n configs)) ≤ 256
few_from router n [] few = omega arith
few_from router n (file ∷ configs) few =
    let f : FaceText → Site = λ face. record { router = n; config = file; face = face } in
    let here : length file.faces ≤ 256 = few zero file (omega arith) in
    let whole : sum_by (counts router) (flat_map sites_of (enumerate_from n (file ∷ configs))) ≡ sum_by (counts router) (sites_of (n, file)) + sum_by (counts router)
    (flat_map sites_of (enumerate_from (n + 1) configs)) =
    sum_by-append (counts router) (sites_of (n, file)) (flat_map sites_of (enumerate_from (n + 1) configs)) in
    elim (eqb_tells n router) [
      | inl same ↦
          let at_most : count_by (λ (s : Site). s.router == router) (map f file.faces) ≤ length (map f file.faces) = count_by-le-length (λ (s : Site). s.router == router) (map f file.faces) in
          omega (arith, whole, at_most, length-map file.faces f, here, none_later router (n + 1) configs (omega (arith, same.1)))
      | inr other ↦
          omega (arith, whole, not_of_file router n file other.1, few_from router (n + 1) configs (λ k d l. few (suc k) d (omega arith)))
    ]

-- no router has more interfaces than its file
pub few_sites : (router : ℕ) (configs : List Config) → All (λ file. length file.faces ≤ 256) configs → sum_by (counts router) (sites configs) ≤ 256
few_sites router configs few = few_from router 0 configs few
