use Rattle.std.proofs.Common.{◌≡◌, ◌++◌, take, map}
use Rattle.std.specs.List.{flat_map}
use Rattle.edit_list.specs.declared.sites.Site.{Site}
use Rattle.edit_list.specs.EditLists.{packet_edit}
use Rattle.edit_list.proofs.listing.add_packet_edits.Given as goal

abbrev pub invariant-loop-site : goal.invariant-loop-site
invariant-loop-site l = l.list.items ≡ l.fn.list.items ++ flat_map (λ (site : Site). map (packet_edit site) l.classes) (take l.site-index l.sites)
