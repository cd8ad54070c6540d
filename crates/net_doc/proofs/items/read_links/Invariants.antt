use Rattle.std.proofs.Common.{◌≡◌, Some, take}
use Rattle.serde_json.specs.View.{items_view}
use Rattle.net_doc.specs.Members.{all_of}
use Rattle.net_doc.specs.Documents.{data_link}
use Rattle.net_doc.proofs.items.read_links.Given as goal

abbrev pub invariant-loop-item : goal.invariant-loop-item
invariant-loop-item l = all_of data_link (items_view (take l.item-index l.items)) ≡ Some l.links.items
