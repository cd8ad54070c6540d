use Rattle.std.proofs.Common.{◌≡◌, length, refl, sym, subst}
use Rattle.std.proofs.lemmas.Result.{IfOk-weaker}
use Rattle.arc_base.specs.Numbered.{EachRow}
use Rattle.edit_space.proofs.Naming.{rows_more, no_rows, all_rows}
use Rattle.edit_space.proofs.PlacesFound.{within_at}
use Rattle.edit_space.proofs.list_kinds.lists_after.Goals as goal

pub list_after-requires : goal.list_after-requires
list_after-requires g c = record {
  changes = c.requires.changes;
  within = within_at (length (g.L.KeyedList.lists c.args.net.now))
      (length c.args.net.now.faces) c.args.keyed.now c.loop-key.key-index c.key-item.result c.requires.within c.loop-key-test.true c.key-item.is;
}

pub loop-key-init : goal.loop-key-init
loop-key-init g c = no_rows (λ place. g.L.KeyedList.IsFor c.args.net.now c.args.changes.now.edits.items) c.new-lists.result.items c.new-lists.ensures.items

pub loop-key-preserved : goal.loop-key-preserved
loop-key-preserved g c =
    rows_more (λ place. g.L.KeyedList.IsFor c.args.net.now c.args.changes.now.edits.items) c.args.keyed.now c.loop-key.key-index c.key-item.result c.loop-key.lists.items
    c.push.new.self.items c.in_ok-list_after.field-0
    c.loop-key-test.true c.key-item.is c.in_ok-list_after.ensures c.in_ok-push.ensures.items c.loop-key.invariant

pub returns : goal.returns
returns g c =
    let all : EachRow (λ place. g.L.KeyedList.IsFor c.args.net.now c.args.changes.now.edits.items) c.args.keyed.now c.loop-key.lists.items =
    all_rows (λ place. g.L.KeyedList.IsFor c.args.net.now c.args.changes.now.edits.items) c.args.keyed.now c.args.keyed.now c.loop-key.key-index c.loop-key.lists.items
    c.loop-key-test.false refl c.loop-key.invariant in
    IfOk-weaker c.of.result (λ l. l ≡ c.loop-key.lists.items) (EachRow (λ place. g.L.KeyedList.IsFor c.args.net.now c.args.changes.now.edits.items) c.args.keyed.now)
    (λ l e. subst (EachRow (λ place. g.L.KeyedList.IsFor c.args.net.now c.args.changes.now.edits.items) c.args.keyed.now) (sym e) all) c.of.ensures.ok
