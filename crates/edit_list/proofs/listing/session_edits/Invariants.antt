use Rattle.std.proofs.Common.{◌≡◌, take}
use Rattle.std.specs.List.{flat_map}
use Rattle.edit_list.specs.EditLists.{link_edits}
use Rattle.edit_list.proofs.listing.session_edits.Given as goal

abbrev pub invariant-loop-link : goal.invariant-loop-link
invariant-loop-link l = l.list.items ≡ flat_map (link_edits l.net) (take l.link-index l.link-items)
