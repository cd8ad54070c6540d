use Rattle.std.proofs.Common.{◌<◌, ◌∙◌, length, arith}
use Rattle.edit_list.specs.Changes.{turns_session}
use Rattle.arc_base.proofs.Grouped.{told_within, told_or}
use Rattle.edit_space.proofs.rows.is_turned.Goals as goal

pub index-requires : goal.index-requires
index-requires c =
    let within : c.args.face.0 < length c.args.changes.now.turned.items =
    told_within (turns_session c.args.changes.now.edits.items) (length c.args.net.now.faces) c.args.face.0 c.args.changes.now.turned.items c.requires.changes.turned c.requires.within in
    omega (arith, within, c.args.changes.now.turned.ok.0)

pub returns : goal.returns
returns c =
    c.index.ensures ∙
    told_or (turns_session c.args.changes.now.edits.items) (length c.args.net.now.faces) c.args.face.0 c.args.changes.now.turned.items c.index.result.now c.requires.changes.turned c.requires.within
