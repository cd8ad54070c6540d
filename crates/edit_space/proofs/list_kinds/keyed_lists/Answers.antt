use Rattle.std.proofs.Common.{◌∙◌, ◌∷◌, [], ◌++◌, ap}
use Rattle.std.specs.List.{filter_map}
use Rattle.edit_list.specs.Ordered.{Key}
use Rattle.edit_space.specs.Working.{new_key_by, old_key}
use Rattle.edit_space.proofs.Picking.{old_keys, old_keys_more, old_keys_all}
use Rattle.edit_space.proofs.list_kinds.keyed_lists.Goals as goal

pub loop-place-preserved : goal.loop-place-preserved
loop-place-preserved g c =
    old_keys_more g.L.KeyedList.key c.slice-list-items.result.now c.loop-place.place c.list-item.result c.loop-place.keyed.items c.push.new.self.items c.in_ok-make.field-0
    c.loop-place-test.true c.list-item.is
    (c.in_ok-make.ensures ∙ ap (λ (k : Key). k.1) c.key-router.ensures) c.loop-place.invariant
    (c.in_ok-push.ensures.items ∙ ap (λ (k : Key). c.loop-place.keyed.items ++ old_key c.loop-place.place k.0 c.in_ok-make.field-0 ∷ []) c.key-router.ensures)

pub returns : goal.returns
returns g c =
    c.in_ok-add_new_lists.ensures ∙ ap (λ l. l ++ filter_map (new_key_by g.L.KeyedList.face) c.args.named.now)
    (old_keys_all g.L.KeyedList.key c.slice-list-items.result.now c.loop-place.place c.loop-place.keyed.items c.loop-place-test.false c.loop-place.invariant ∙
    ap (old_keys g.L.KeyedList.key) c.slice-list-items.ensures.items)
