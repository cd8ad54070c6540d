use Rattle.std.proofs.Common.{◌≡◌, Some, map, take}
use Rattle.serde_json.specs.View.{items_view}
use Rattle.net_doc.specs.Members.{all_of}
use Rattle.net_doc.specs.Documents.{policy_of}
use Rattle.net_doc.specs.Drafts.{policy_meant}
use Rattle.net_doc.proofs.items.read_policies.Given as goal

abbrev pub invariant-loop-item : goal.invariant-loop-item
invariant-loop-item l = all_of (policy_of l.version) (items_view (take l.item-index l.items)) ≡ Some (map policy_meant l.policies.items)
