-- How many classes and edits there are in a generated network.
use Rattle.std.specs.Prelude.{◌≡◌, ℕ, ◌+◌, ◌≤◌, List, [], length, Contains}
use Rattle.arc_base.specs.declared.limits.TheConstants.{EDIT_LIMIT}
use Rattle.net_model.specs.declared.policies.Class.{Class}
use Rattle.net_model.specs.declared.policies.Document.{Document}
use Rattle.net_model.specs.declared.policies.Policy.{Policy}
use Rattle.net_model.specs.declared.rows.Network.{Network}
use Rattle.net_build.specs.Networks.{IsNetworkWithin}
use Rattle.net_gen.specs.declared.generating.Generated.{Generated}
use Rattle.traffic_classes.specs.AllClasses.{AreAllClasses, FirstHaveMore}
use Rattle.traffic_classes.specs.Classes.{HasClasses}
use Rattle.edit_list.specs.declared.edit_kinds.Edit.{Edit}
use Rattle.edit_list.specs.declared.edit_kinds.EditFault.{EditFault}
use Rattle.edit_list.specs.declared.edit_kinds.EditFault.TheVariants.{Memory}
use Rattle.edit_list.specs.EditLists.{AreEdits, NamesLimit}
use Rattle.generated_network_laws.specs.Laws.{IsGeneratedWithin}

-- each policy has one class, and there are at most EDIT_LIMIT edits: so neither of the two counts
-- passes its limit
pub record HasFewEdits (n : ℕ) (net : Network) (doc : Document) : Type 0 where
  pub one_class : (policy : Policy) (count : ℕ) → Contains doc.policies policy →
      HasClasses net doc.policies policy count → count ≤ 1
  pub classes : (classes : List Class) → AreAllClasses net doc.policies doc.policies classes →
      length classes ≤ n + 1
  pub first_classes : (count : ℕ) → FirstHaveMore net doc.policies count → count ≤ n + 1
  pub edits : (list : List Edit) → AreEdits net doc list → length list ≤ EDIT_LIMIT
  pub no_limit : (fault : EditFault) → NamesLimit net doc fault → fault ≡ Memory

-- the network of a generated network's files has so few
abbrev pub GeneratedNetworksHaveFewEdits : Type 0
GeneratedNetworksHaveFewEdits =
    (n most : ℕ) (generated : Generated) (net : Network) → IsGeneratedWithin n generated →
    IsNetworkWithin [] most generated.doc generated.files net → HasFewEdits n net generated.doc
