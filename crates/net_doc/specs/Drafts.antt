-- Documents as they are written, before the number of failures of a policy is known to be within
-- its limit.
use Rattle.std.specs.Prelude.{map}
use Rattle.net_model.specs.declared.policies.PolicyKind.{PolicyKind}
use Rattle.net_model.specs.declared.policies.PolicyKind.TheVariants as kinds
use Rattle.net_model.specs.declared.policies.Policy.{Policy}
use Rattle.net_model.specs.declared.policies.Document.{Document}
use Rattle.net_doc.specs.declared.drafts.KindText.{KindText}
use Rattle.net_doc.specs.declared.drafts.KindText.TheVariants.{Blocked, Through, Reach}
use Rattle.net_doc.specs.declared.drafts.PolicyText.{PolicyText}
use Rattle.net_doc.specs.declared.drafts.Draft.{Draft}

-- what the policy asks
abbrev pub kind_meant : KindText → PolicyKind
kind_meant Blocked = kinds.Blocked
kind_meant Through = kinds.Through
kind_meant (Reach failures) = kinds.Reach failures

-- the policy that is meant
abbrev pub policy_meant : PolicyText → Policy
policy_meant text =
    record { kind = kind_meant text.kind; from = text.from; to = text.to; service = text.service }

-- the document that is meant
abbrev pub document_meant : Draft → Document
document_meant draft = record {
  routers = draft.routers;
  links = draft.links;
  policies = map policy_meant draft.policies.items;
  weights = draft.weights;
}
