use Rattle.std.proofs.Common.{◌≡◌, map, take}
use Rattle.net_doc.specs.Drafts.{policy_meant}
use Rattle.net_doc.proofs.document_text.meant.Given as goal

abbrev pub invariant-loop-text : goal.invariant-loop-text
invariant-loop-text l = l.policies.items ≡ map policy_meant (take l.text-index l.text-items)
