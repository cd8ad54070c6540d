-- The interfaces of all files, and the full names by which the document's links name them.
use Rattle.std.specs.Prelude.{◌≡◌, ℕ, Some, List, [], ◌∷◌, map, slice_get, ◌⊎◌}
use Rattle.std.specs.List.{flat_map, enumerate_from}
use Rattle.std.specs.Option.{option_map_or}
use Rattle.net_model.specs.declared.policies.LinkText.{LinkText}
use Rattle.ios_config.specs.declared.settings.Config.{Config}
use Rattle.ios_config.specs.declared.settings.FaceText.{FaceText}

-- an interface with its file, and the place of that file, which is its router's
pub record Site : Type 0 where
  pub router : ℕ
  pub config : Config
  pub face : FaceText

-- the interfaces of the file at a place, in file order
abbrev pub sites_of : ℕ × Config → List Site
sites_of placed =
    map (λ face. record { router = placed.0; config = placed.1; face = face }) placed.1.faces

-- the interfaces of all files, one file after another
abbrev pub sites : List Config → List Site
sites configs = flat_map sites_of (enumerate_from 0 configs)

-- the name that the file gives its router; a file that gives none is refused
abbrev pub host_name : Config → List ℕ
host_name config = option_map_or (λ s. s.name) config.hostname []

-- the name of a router and that of one of its interfaces
abbrev pub FullName : Type 0
FullName = List ℕ × List ℕ

abbrev pub full_name : Site → FullName
full_name site = (host_name site.config, site.face.name)

-- the full names of the interfaces of all files
abbrev pub full_names : List Config → List FullName
full_names configs = map full_name (sites configs)

-- the two ends that the document gives a link
abbrev pub a_end : LinkText → FullName
a_end link = (link.a_router, link.a_face)

abbrev pub b_end : LinkText → FullName
b_end link = (link.b_router, link.b_face)

-- the two ends of a link, a first
abbrev pub two_ends : LinkText → List FullName
two_ends link = a_end link ∷ b_end link ∷ []

-- the ends of the links
abbrev pub ends_of : List LinkText → List FullName
ends_of links = flat_map two_ends links

-- one of the links joins the interfaces of these names, in either direction
pub record AreJoined (links : List LinkText) (near far : FullName) : Type 0 where
  pub link : LinkText
  pub place : ℕ
  pub at_place : slice_get links place ≡ Some link
  pub ends : ((a_end link ≡ near) × (b_end link ≡ far)) ⊎ ((b_end link ≡ near) × (a_end link ≡ far))
