use Rattle.std.proofs.Common.{◌≡◌, ◌<◌, ◌∙◌, ℕ, List, length, refl, ap, subst, arith}
use Rattle.net_model.specs.declared.rows.RouterRow.{RouterRow}
use Rattle.edit_list.specs.declared.edit_kinds.Edit.{Edit}
use Rattle.edit_list.specs.After.{IsRouterAfter}
use Rattle.edit_list.specs.NewLists.{new_names_of}
use Rattle.edit_space.specs.Working.{AreJoined}
use Rattle.arc_base.proofs.Grouped.{told_within, told_or}
use Rattle.edit_space.proofs.Naming.{rows_more}
use Rattle.edit_space.proofs.rows.routers_after.Goals as goal

pub bounds-names-place : goal.bounds-names-place
bounds-names-place c =
    let within : c.loop-place.place < length c.args.net.now.routers = omega (arith, c.loop-place-test.true, ap length c.slice-router-items.ensures.items) in
    told_within (new_names_of c.args.net.now c.args.changes.now.edits.items) (length c.args.net.now.routers) c.loop-place.place c.args.names.now c.requires within

pub loop-place-preserved : goal.loop-place-preserved
loop-place-preserved c =
    let chosen : List Edit = c.args.changes.now.edits.items in
    let i : ℕ = c.loop-place.place in
    let within : i < length c.args.net.now.routers = omega (arith, c.loop-place-test.true, ap length c.slice-router-items.ensures.items) in
    let names : c.index-names-place.result ≡ new_names_of c.args.net.now chosen i =
    c.index-names-place.is ∙ told_or (new_names_of c.args.net.now chosen) (length c.args.net.now.routers) i c.args.names.now c.index-names-place.result c.requires within in
    let router : RouterRow = c.router-item.result in
    rows_more (IsRouterAfter c.args.net.now chosen) c.slice-router-items.result.now i router c.loop-place.routers.items c.push.new.self.items
    (record { name = c.in_ok-make.field-0; asn = router.asn; names = c.in_ok-joined_names.field-0 })
    c.loop-place-test.true c.router-item.is
    (record {
      name = c.in_ok-make.ensures ∙ c.bytes.ensures;
      asn = refl;
      order = c.in_ok-joined_names.ensures.order;
      names = subst (λ (more : List (List ℕ)). AreJoined router.names more c.in_ok-joined_names.field-0) names c.in_ok-joined_names.ensures.names;
    }) c.in_ok-push.ensures.items c.loop-place.invariant
