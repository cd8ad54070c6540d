-- The full names of interfaces in an index, which holds them by reference.
use Rattle.std.specs.Prelude.{ℕ, List, map}
use denote.Ref.{Bor}
use Rattle.ios_config.specs.declared.settings.Config.{Config}
use Rattle.net_rules.specs.Sites.{FullName, host_name}

-- the names that a list of keys refers to
abbrev pub names_at : List (Bor (List ℕ) × Bor (List ℕ)) → List FullName
names_at keys = map (λ key. (key.0.now, key.1.now)) keys

-- the full names of a file's interfaces, in file order
abbrev pub file_names : Config → List FullName
file_names config = map (λ face. (host_name config, face.name)) config.faces
