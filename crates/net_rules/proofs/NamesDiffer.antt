-- Full names are distinct where hostnames and the names in each file are.
use Rattle.std.proofs.Common.{◌≡◌, zero, suc, List, [], ◌∷◌, sym, ◌∙◌, ap, subst, arith}
use Rattle.std.specs.Prelude.{All, AllPairs, Contains}
use Rattle.std.specs.List.{flat_map}
use Rattle.ios_config.specs.declared.settings.Config.{Config}
use Rattle.ios_config.specs.declared.settings.FaceText.{FaceText}
use Rattle.net_rules.specs.Sites.{FullName, full_names, host_name}
use Rattle.net_rules.specs.Names.{file_names}
use Rattle.arc_base.specs.Lists.{AreDistinct}
use Rattle.net_rules.proofs.NameLists.{full_names-by_file}
use Rattle.arc_base.proofs.Items.{from_map, from_piece, AllPairs-map, AllPairs-append}

-- no two interfaces of the file have one name
abbrev NamesNoFaceTwice : Config → Type 0
NamesNoFaceTwice file = AllPairs (λ f g. f.name ≡ g.name → ⊥) file.faces

-- no two routers have one name
abbrev HostnamesDiffer : List Config → Type 0
HostnamesDiffer configs = AllPairs (λ f g. host_name f ≡ host_name g → ⊥) configs

abbrev Differ : FullName → FullName → Type 0
Differ x y = x ≡ y → ⊥

file_distinct : (file : Config) → NamesNoFaceTwice file → AreDistinct (file_names file)
file_distinct file once =
    AllPairs-map Differ (λ (face : FaceText). (host_name file, face.name)) file.faces (λ i j d l m e. once i j d l m (ap (λ (n : FullName). n.1) e))

hostname_of : (file : Config) (name : FullName) → Contains (file_names file) name → host_name file ≡ name.0
hostname_of file name there =
    let face : (face : FaceText) × Contains file.faces face × ((host_name file, face.name) ≡ name) = from_map (λ (face : FaceText). (host_name file, face.name)) file.faces name there in
    ap (λ (n : FullName). n.0) face.2

names_distinct : (configs : List Config) → HostnamesDiffer configs → All NamesNoFaceTwice configs → AreDistinct (flat_map file_names configs)
names_distinct [] hosts once = λ i j d l m. absurd (omega (arith, m))
names_distinct (file ∷ configs) hosts once =
    AllPairs-append Differ (file_names file) (flat_map file_names configs) (file_distinct file (once zero file (omega arith)))
    (names_distinct configs (λ i j d l m. hosts (suc i) (suc j) d (omega arith) (omega arith)) (λ k d l. once (suc k) d (omega arith)))
    (λ x y in_file in_rest e.
    let other : (g : Config) × Contains configs g × Contains (file_names g) y = from_piece file_names configs y in_rest in
    differs other.0 other.1 (hostname_of file x in_file ∙ ap (λ (n : FullName). n.0) e ∙ sym (hostname_of other.0 y other.2)))
  where
    differs : (g : Config) → Contains configs g → host_name file ≡ host_name g → ⊥
    differs g (k, l, is) e = hosts zero (suc k) g (omega arith) (omega arith) (e ∙ ap host_name (sym is))

pub full_names_distinct : (configs : List Config) → HostnamesDiffer configs → All NamesNoFaceTwice configs → AreDistinct (full_names configs)
full_names_distinct configs hosts once = subst (λ (l : List FullName). AreDistinct l) (sym (full_names-by_file configs)) (names_distinct configs hosts once)
