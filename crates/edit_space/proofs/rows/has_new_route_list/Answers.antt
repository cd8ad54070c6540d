use Rattle.std.proofs.Common.{length, ◌∙◌}
use Rattle.edit_list.specs.Changes.{new_prefixes}
use Rattle.arc_base.proofs.Grouped.{filled_told}
use Rattle.edit_space.proofs.rows.has_new_route_list.Goals as goal

pub returns : goal.returns
returns c =
    filled_told c.deref.result.now (new_prefixes c.args.changes.now.edits.items) (length c.args.net.now.faces) c.args.face.0 c.is_filled.result
    (c.deref.ensures.value ∙ c.requires.changes.new_routes) c.requires.within c.is_filled.ensures
