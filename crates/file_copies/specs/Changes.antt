-- The router files that edits change, as a command writes them and leaves them, and what they are
-- when they are read again.
use Rattle.std.specs.Prelude.{◌≡◌, ℕ, ◌≤◌, Bool, false, List, [], ◌∷◌, length, map, All}
use Rattle.std.specs.List.{AllZip}
use Rattle.arc_base.specs.declared.limits.TheConstants.{EDITED_ENTRY_LIMIT, EDIT_LIMIT}
use Rattle.arc_base.specs.declared.limits.TheConstants.{EDITED_FILE_LIMIT}
use Rattle.arc_outside.specs.Files.{Files, with_files}
use Rattle.net_model.specs.declared.policies.Document.{Document}
use Rattle.net_model.specs.declared.rows.Network.{Network}
use Rattle.net_doc.specs.Documents.{IsWellFormed}
use Rattle.net_build.specs.declared.built.Built.{Built}
use Rattle.net_build.specs.Networks.{IsBuiltWithin, IsNetworkOf}
use Rattle.edit_list.specs.declared.edit_kinds.Edit.{Edit}
use Rattle.edit_list.specs.After.{IsAfter}
use Rattle.edit_list.specs.Determined.{IsCountable}
use Rattle.edit_list.specs.EditLists.{AreEdits}
use Rattle.edit_list.specs.Prices.{chosen_of}
use Rattle.line_patcher.specs.Patches.{ArePatched}
use Rattle.file_copies.specs.Outputs.{IsLeft, clashes, copies, copy_names}
use Rattle.run_files.specs.declared.limits.Limits.TheVariants.{Editing}
use Rattle.run_inputs.specs.Inputs.{AreFit, HoldsInput, contents}

-- the copies of the files that the edits change: those whose patch differs from the old text
pub record Changes (suffix : List ℕ) (doc : Document) (built : Built) (olds : List (List ℕ))
    (chosen : List Edit) (writes : List (List ℕ × List ℕ)) : Type 0 where
  pub new : List (List ℕ)
  pub patched : ArePatched built chosen olds new
  pub writes_are : writes ≡ copies suffix doc.routers olds new

-- these router files can be edited: the document is well formed and its policies can be judged over
-- the network, whose interfaces, sessions and names can be counted and which is built from these
-- files
pub record IsEditable (doc : Document) (built : Built) (files : List (List ℕ)) : Type 0 where
  pub well_formed : IsWellFormed doc
  pub fit : AreFit doc built.net
  pub countable : IsCountable built.net
  pub is_built : IsBuiltWithin [] EDITED_ENTRY_LIMIT doc files built
  pub count : length files ≡ length doc.routers
  pub bytes : All (λ text. length text ≤ EDITED_FILE_LIMIT) files

-- the names of the copies of the changed files, where these are the new texts
abbrev pub changed_names : List ℕ → Document → Files → List (List ℕ) → List (List ℕ)
changed_names suffix doc before new =
    map (λ copy. copy.0) (copies suffix doc.routers (contents before doc) new)

-- The router files as a command left them are the patches of those that it read: each is held as
-- its copy, or is the file as it was if there is nothing to change.
pub record AreLeftPatched (suffix : List ℕ) (doc : Document) (built : Built) (before after : Files)
    (chosen : List Edit) : Type 0 where
  pub new : List (List ℕ)
  pub patched : ArePatched built chosen (contents before doc) new
  pub left : AllZip (IsLeft suffix before after) doc.routers new

-- once the copies are written, the router files are left patched, if no copy has the name of a file
-- that is read
abbrev pub ChangesAreLeft : Type 0
ChangesAreLeft =
    (suffix document : List ℕ) (before : Files)
    (doc : Document) (built : Built) (chosen : List Edit) (writes : List (List ℕ × List ℕ)) →
    HoldsInput Editing [] document before doc built.net →
    IsEditable doc built (contents before doc) →
    clashes (document ∷ doc.routers) (copy_names suffix doc.routers) ≡ false →
    Changes suffix doc built (contents before doc) chosen writes →
    AreLeftPatched suffix doc built before (with_files writes before) chosen

-- files that a network was built from can be patched by any edits
abbrev pub PatchesAreThere : Type 0
PatchesAreThere =
    (down : List ℕ) (most_entries : ℕ) (doc : Document) (built : Built) (olds : List (List ℕ))
    (chosen : List Edit) → IsBuiltWithin down most_entries doc olds built →
    (new : List (List ℕ)) × ArePatched built chosen olds new

-- the patched files, read again, have exactly the network after the edits
abbrev pub PatchesHaveTheNetwork : Type 0
PatchesHaveTheNetwork =
    (doc : Document) (built : Built) (olds new : List (List ℕ)) (list : List Edit)
    (flags : List Bool) (after : Network) →
    IsEditable doc built olds → AreEdits built.net doc list → length list ≤ EDIT_LIMIT →
    ArePatched built (chosen_of list flags) olds new →
    IsAfter built.net (chosen_of list flags) after → IsNetworkOf doc new after
