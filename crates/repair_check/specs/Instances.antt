-- What a repair, and the certificate of one, is judged over.
use Rattle.std.specs.Prelude.{◌≤◌, List, length, All}
use Rattle.arc_base.specs.declared.limits.TheConstants.{EDIT_LIMIT, POLICY_LIMIT}
use Rattle.net_model.specs.declared.policies.Document.{Document}
use Rattle.net_model.specs.declared.rows.Network.{Network}
use Rattle.net_model.specs.Forwarding.{HasEnds}
use Rattle.net_model.specs.Packets.{subject}
use Rattle.net_model.specs.Policies.{HasFewFailures}
use Rattle.net_model.specs.Validity.{IsValid}
use Rattle.edit_list.specs.declared.edit_kinds.Edit.{Edit}
use Rattle.edit_list.specs.EditLists.{AreEdits, DocumentHasFewClasses}

-- verdicts on the policies can be judged in the network: it is valid, and has the ends of each
-- policy
pub record IsJudgeable (doc : Document) (net : Network) : Type 0 where
  pub valid : IsValid net
  pub ends : All (λ policy. HasEnds net (subject policy)) doc.policies

-- an instance of the repair problem: verdicts can be judged in the network, the document is within
-- its limits, and the list has all edits of the network, within the limit on edits
pub record IsInstance (net : Network) (doc : Document) (list : List Edit) : Type 0 where
  pub judgeable : IsJudgeable doc net
  pub policies : length doc.policies ≤ POLICY_LIMIT
  pub failures : All (λ policy. HasFewFailures policy.kind) doc.policies
  pub few_classes : DocumentHasFewClasses net doc
  pub edits : AreEdits net doc list
  pub few : length list ≤ EDIT_LIMIT
