-- Laws of the names of new lists.
use Rattle.std.specs.Prelude.{◌≡◌, ℕ, List, Contains}
use Rattle.net_model.specs.declared.rows.Network.{Network}
use Rattle.net_model.specs.Validity.{IsValid}
use Rattle.arc_base.specs.NameForms.{IsName}
use Rattle.edit_list.specs.declared.edit_kinds.Edit.{Edit}
use Rattle.edit_list.specs.declared.list_kinds.NewList.{NewList}
use Rattle.edit_list.specs.Determined.{IsCountable}
use Rattle.edit_list.specs.NewLists.{names_of, IsNewList}

-- the name of a new list is none that the router's file gives or binds, and well formed
abbrev pub NewNamesAreNew : Type 0
NewNamesAreNew =
    (net : Network) → IsValid net → IsCountable net →
    (chosen : List Edit) (router : ℕ) (list : NewList) (name : List ℕ) →
    IsNewList net chosen router list name → (¬ Contains (names_of net router) name) × IsName name

-- and no two new lists of a router have one name
abbrev pub NewNamesDiffer : Type 0
NewNamesDiffer =
    (net : Network) → IsValid net → IsCountable net →
    (chosen : List Edit) (router : ℕ) (one other : NewList) (name : List ℕ) →
    IsNewList net chosen router one name → IsNewList net chosen router other name → one ≡ other
