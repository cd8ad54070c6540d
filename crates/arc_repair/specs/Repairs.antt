-- Which edits mend a network: after them it meets the document.
use Rattle.std.specs.Prelude.{◌≡◌, ℕ, ◌≤◌, Bool, List, length}
use Rattle.net_model.specs.declared.policies.Document.{Document}
use Rattle.net_model.specs.declared.rows.Network.{Network}
use Rattle.net_model.specs.Policies.{MeetsDocument}
use Rattle.edit_list.specs.declared.edit_kinds.Edit.{Edit}
use Rattle.edit_list.specs.After.{IsAfter}
use Rattle.edit_list.specs.Prices.{chosen_of, price_of_flags}

-- the flags mend the network: there is one for each edit, and the network after the edits that they
-- choose meets the document
pub record Mends (net : Network) (doc : Document) (list : List Edit)
    (flags : List Bool) : Type 0 where
  pub one_each : length flags ≡ length list
  pub after : Network
  pub is_after : IsAfter net (chosen_of list flags) after
  pub meets : MeetsDocument after doc

-- no edits that mend the network cost less
abbrev pub IsLeastPrice : Network → Document → List Edit → ℕ → Type 0
IsLeastPrice net doc list price =
    (flags : List Bool) → Mends net doc list flags → price ≤ price_of_flags doc list flags
