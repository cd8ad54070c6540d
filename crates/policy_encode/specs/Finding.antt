-- The index by which an edit's place is found.
use Rattle.std.specs.Prelude.{◌≡◌, List, map}
use Rattle.edit_list.specs.declared.edit_kinds.Edit.{Edit}
use Rattle.policy_encode.specs.declared.edit_index.EditIndex.{EditIndex}
use Rattle.policy_encode.specs.Turning.{key_of}

-- the index has the numbers of the edits, in their order
abbrev pub IsIndexOf : List Edit → EditIndex → Type 0
IsIndexOf list index = index.keys.keys ≡ map key_of list
