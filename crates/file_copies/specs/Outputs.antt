-- The files that a command writes beside those that it read: a copy of each router file that is
-- changed.
use Rattle.std.specs.Prelude.{◌≡◌, ◌≢◌, ◌⊎◌, ℕ, Bool, false, ◌||◌, List, [], ◌∷◌, ◌++◌, AllPairs}
use Rattle.std.specs.Prelude.{map, Some, bytes_eq, codes, if◌then◌else◌}
use Rattle.std.specs.List.{flat_map, list_any, AllZip}
use Rattle.arc_outside.specs.Files.{Files, with_files}

-- the name of the copy of a router file
abbrev pub copy_name : List ℕ → List ℕ → List ℕ
copy_name suffix name = name ++ suffix

-- the name is that of a copy of some router file
pub record IsCopyName (suffix name : List ℕ) : Type 0 where
  pub router : List ℕ
  pub named : name ≡ copy_name suffix router

-- the names of the copies of all router files
abbrev pub copy_names : List ℕ → List (List ℕ) → List (List ℕ)
copy_names suffix names = map (copy_name suffix) names

-- whether one of the outputs has the name of an input, or of another output
abbrev pub clashes : List (List ℕ) → List (List ℕ) → Bool
clashes inputs [] = false
clashes inputs (name ∷ outputs) =
    list_any (λ other. bytes_eq other name) inputs ||
    (list_any (λ other. bytes_eq other name) outputs || clashes inputs outputs)

-- the copy of a file with its name, if it is changed
abbrev pub one_copy : List ℕ → List ℕ → List ℕ → List ℕ → List (List ℕ × List ℕ)
one_copy suffix name old new =
    if bytes_eq old new then [] else (copy_name suffix name, new) ∷ []

-- the copies of the changed files, in their order, with their names
abbrev pub copies : List ℕ → List (List ℕ) → List (List ℕ) → List (List ℕ) → List (List ℕ × List ℕ)
copies suffix (name ∷ names) (old ∷ olds) (new ∷ news) =
    if bytes_eq old new then copies suffix names olds news
    else (copy_name suffix name, new) ∷ copies suffix names olds news
copies suffix _ _ _ = []

-- a line for each file that is written
abbrev pub wrote_lines : List (List ℕ × List ℕ) → List ℕ
wrote_lines writes = flat_map (λ write. codes "wrote " ++ write.0 ++ codes "\n") writes

-- the text is that of a router file as the command left it: it is held under the name of its copy,
-- or the file is as it was and there is nothing to change
abbrev pub IsLeft : List ℕ → Files → Files → List ℕ → List ℕ → Type 0
IsLeft suffix before after name text =
    (after (copy_name suffix name) ≡ Some text) ⊎
    ((before name ≡ Some text) × (after name ≡ Some text))

-- If files hold these texts under different names, and no copy has one of these names, each new
-- text is left once the copies are written.
abbrev pub CopiesAreLeft : Type 0
CopiesAreLeft =
    (suffix : List ℕ) (names olds news : List (List ℕ)) (before : Files) →
    AllPairs ◌≢◌ names → clashes names (copy_names suffix names) ≡ false →
    AllZip (λ name old. before name ≡ Some old) names olds →
    AllZip (λ old new. Unit {0}) olds news →
    AllZip (IsLeft suffix before (with_files (copies suffix names olds news) before)) names news
