use Rattle.std.proofs.Common.{◌≡◌, ◌∙◌, ℕ, true, false, Option, Some, None, List, length, sym, ap, if◌then◌else◌}
use Rattle.std.specs.Prelude.{slice_get, option_map}
use Rattle.std.proofs.lemmas.Option.{slice_get_within}
use Rattle.arc_base.specs.declared.prefix.Prefix.{Prefix}
use Rattle.net_model.specs.declared.rows.FaceRow.{FaceRow}
use Rattle.edit_list.specs.Changes.{new_prefixes}
use Rattle.arc_base.specs.Numbered.{is_empty}
use Rattle.edit_list.specs.declared.list_kinds.NewList.{NewList}
use Rattle.edit_list.specs.declared.list_kinds.NewList.TheVariants.{Route}
use Rattle.arc_base.proofs.Grouped.{picked_unless_empty}
use Rattle.edit_space.proofs.new_lists.new_route_list.Goals as goal

pub returns-then-not-is_filled : goal.returns-then-not-is_filled
returns-then-not-is_filled c =
    let row : slice_get c.args.net.now.faces c.args.session.now.face.0 ≡ Some c.in_ok-face.face.now = sym c.in_ok-face.ensures.item in
    let list : Option (ℕ × NewList) = Some (c.in_ok-face.face.now.router.0, Route c.args.session.now.face) in
    let groups : List (List Prefix) = c.deref.result.now in
    picked_unless_empty groups (new_prefixes c.args.changes.now.edits.items) (length c.args.net.now.faces) (c.args.session.now.face.0) c.is_filled.result false list
    (c.deref.ensures.value ∙ c.requires.new_routes) (slice_get_within c.args.net.now.faces c.args.session.now.face.0 c.in_ok-face.face.now row) c.is_filled.ensures
    c.if-not-is_filled.true
    ∙ ap (λ o. if is_empty (new_prefixes c.args.changes.now.edits.items c.args.session.now.face.0) then None else option_map
    (λ (f : FaceRow). (f.router.0, Route c.args.session.now.face)) o) (sym row)

pub returns : goal.returns
returns c =
    let row : slice_get c.args.net.now.faces c.args.session.now.face.0 ≡ Some c.in_ok-face.face.now = sym c.in_ok-face.ensures.item in
    let list : Option (ℕ × NewList) = Some (c.in_ok-face.face.now.router.0, Route c.args.session.now.face) in
    let groups : List (List Prefix) = c.deref.result.now in
    picked_unless_empty groups (new_prefixes c.args.changes.now.edits.items) (length c.args.net.now.faces) (c.args.session.now.face.0) c.is_filled.result true list
    (c.deref.ensures.value ∙ c.requires.new_routes) (slice_get_within c.args.net.now.faces c.args.session.now.face.0 c.in_ok-face.face.now row) c.is_filled.ensures
    c.if-not-is_filled.false
    ∙ ap (λ o. if is_empty (new_prefixes c.args.changes.now.edits.items c.args.session.now.face.0) then None else option_map
    (λ (f : FaceRow). (f.router.0, Route c.args.session.now.face)) o) (sym row)
