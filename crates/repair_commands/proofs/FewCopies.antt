-- A command writes no more copies than there are router files.
use Rattle.std.proofs.Common.{◌≡◌, ℕ, ◌+◌, ◌<◌, ◌≤◌, Bool, true, false, cond, List, [], ◌∷◌, length, ap, arith}
use Rattle.std.specs.Prelude.{bytes_eq}
use Rattle.net_model.specs.declared.policies.Document.{Document}
use Rattle.net_build.specs.declared.built.Built.{Built}
use Rattle.edit_list.specs.declared.edit_kinds.Edit.{Edit}
use Rattle.file_copies.specs.Outputs.{copies, copy_name}
use Rattle.file_copies.specs.Changes.{Changes}

one_more : (same : Bool) (pair : List ℕ × List ℕ) (rest : List (List ℕ × List ℕ)) (n : ℕ) → length rest ≤ n → length (cond same rest (pair ∷ rest)) ≤ n + 1
one_more true pair rest n few = omega (arith, few)
one_more false pair rest n few = omega (arith, few)

few_copies : (suffix : List ℕ) (names olds news : List (List ℕ)) → length (copies suffix names olds news) ≤ length names
few_copies suffix [] olds news = omega arith
few_copies suffix (x ∷ names) [] news = omega arith
few_copies suffix (x ∷ names) (y ∷ olds) [] = omega arith
few_copies suffix (x ∷ names) (y ∷ olds) (z ∷ news) =
    omega (arith, one_more (bytes_eq y z) (copy_name suffix x, z) (copies suffix names olds news) (length names) (few_copies suffix names olds news))

pub few_changes : (suffix : List ℕ) (doc : Document) (built : Built) (olds : List (List ℕ)) (chosen : List Edit) (writes : List (List ℕ × List ℕ))
    → Changes suffix doc built olds chosen writes → length doc.routers ≤ 256 → length writes < 4294967295
few_changes suffix doc built olds chosen writes changes few =
    let same : length writes ≡ length (copies suffix doc.routers olds changes.new) = ap length changes.writes_are in
    omega (arith, same, few_copies suffix doc.routers olds changes.new, few)
