-- How long router files are, each and together.
use Rattle.std.specs.Prelude.{ℕ, ◌≤◌, Bool, List, length, All}
use Rattle.std.specs.List.{sum_by}
use Rattle.arc_base.specs.declared.limits.TheConstants.{ALL_EDITED_FILES_LIMIT, ROUTER_FILE_LIMIT}
use Rattle.arc_base.specs.declared.limits.TheConstants.{ALL_ROUTER_FILES_LIMIT, EDIT_LIMIT}
use Rattle.net_model.specs.declared.policies.Document.{Document}
use Rattle.net_build.specs.declared.built.Built.{Built}
use Rattle.edit_list.specs.declared.edit_kinds.Edit.{Edit}
use Rattle.edit_list.specs.EditLists.{AreEdits}
use Rattle.edit_list.specs.Prices.{chosen_of}
use Rattle.line_patcher.specs.Patches.{ArePatched}
use Rattle.file_copies.specs.Changes.{IsEditable}

-- how many bytes the texts have together
abbrev pub bytes_of_all : List (List ℕ) → ℕ
bytes_of_all texts = sum_by length texts

-- each of the texts is within the limit of a router file, and together they are within that of all
-- router files
pub record AreShort (texts : List (List ℕ)) : Type 0 where
  pub each : All (λ text. length text ≤ ROUTER_FILE_LIMIT) texts
  pub all : bytes_of_all texts ≤ ALL_ROUTER_FILES_LIMIT

-- the patches of files that can be edited, and that together are within the limit of files to be
-- edited, are short, whatever edits are chosen
abbrev pub PatchedFilesAreShort : Type 0
PatchedFilesAreShort =
    (doc : Document) (built : Built) (olds new : List (List ℕ)) (list : List Edit)
    (flags : List Bool) → IsEditable doc built olds → AreEdits built.net doc list →
    length list ≤ EDIT_LIMIT → bytes_of_all olds ≤ ALL_EDITED_FILES_LIMIT →
    ArePatched built (chosen_of list flags) olds new → AreShort new
