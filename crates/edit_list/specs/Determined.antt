-- Laws of the network after edits and of the list of edits: each is there, and is one.
use Rattle.std.specs.Prelude.{◌≡◌, ℕ, ◌<◌, ◌^◌, List, length, All}
use Rattle.net_model.specs.declared.policies.Document.{Document}
use Rattle.net_model.specs.declared.rows.Network.{Network}
use Rattle.net_model.specs.Forwarding.{HasEnds}
use Rattle.net_model.specs.Packets.{subject}
use Rattle.net_model.specs.Validity.{IsValid}
use Rattle.edit_list.specs.declared.edit_kinds.Edit.{Edit}
use Rattle.edit_list.specs.After.{IsAfter}
use Rattle.edit_list.specs.EditLists.{AreEdits}
use Rattle.edit_list.specs.NewLists.{names_of}

-- the interfaces, the sessions and the names of each router can be counted in 32 bits, as those of
-- every network in memory can
pub record IsCountable (net : Network) : Type 0 where
  pub faces : length net.faces < 2 ^ 32
  pub sessions : length net.sessions < 2 ^ 32
  pub names : (router : ℕ) → router < length net.routers → length (names_of net router) < 2 ^ 32

-- this is the network after the edits, and it is valid
pub record IsValidAfter (net : Network) (chosen : List Edit) (after : Network) : Type 0 where
  pub is_after : IsAfter net chosen after
  pub valid : IsValid after

-- there is a network after any edits of a valid network
abbrev pub AfterIsThere : Type 0
AfterIsThere =
    (net : Network) → IsValid net → IsCountable net → (chosen : List Edit) →
    (after : Network) × IsValidAfter net chosen after

-- it is valid
abbrev pub AfterIsValid : Type 0
AfterIsValid =
    (net : Network) → IsValid net → IsCountable net →
    (chosen : List Edit) (after : Network) → IsAfter net chosen after → IsValid after

-- and there is no other
abbrev pub AfterIsOne : Type 0
AfterIsOne =
    (net : Network) → IsValid net → IsCountable net →
    (chosen : List Edit) (after other : Network) → IsAfter net chosen after →
    IsAfter net chosen other → after ≡ other

-- there is a list of the edits of a network for a document whose policies have their ends
abbrev pub EditListsAreThere : Type 0
EditListsAreThere =
    (net : Network) (doc : Document) →
    All (λ policy. HasEnds net (subject policy)) doc.policies →
    (list : List Edit) × AreEdits net doc list

-- a valid network has one list of edits for a document
abbrev pub EditListsAreOne : Type 0
EditListsAreOne =
    (net : Network) (doc : Document) (list other : List Edit) → IsValid net →
    AreEdits net doc list → AreEdits net doc other → list ≡ other
