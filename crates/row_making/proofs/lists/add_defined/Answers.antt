use Rattle.std.proofs.Common.{◌≡◌, ℕ, List, subst}
use Rattle.std.specs.Prelude.{Any}
use Rattle.ios_config.specs.declared.settings.ListText.{ListText}
use Rattle.row_making.specs.ListTables.{Adds}
use Rattle.row_making.proofs.ListsNames.{adds_no_item, adds_more, adds_all, adds_inserted}
use Rattle.row_making.proofs.lists.add_defined.Goals as goal

abbrev HasName : List ℕ → ListText → Type 0
HasName name list = list.name ≡ name

pub loop-list-init : goal.loop-list-init
loop-list-init c = adds_no_item HasName c.slice-list-items.result.now c.args.names.now.keys

pub loop-list-preserved : goal.loop-list-preserved
loop-list-preserved c =
    let list : ListText = c.list-item.result in
    adds_more HasName c.slice-list-items.result.now c.loop-list.list-index list c.args.names.now.keys c.loop-list.names.keys c.insert.new.self.keys c.loop-list-test.true c.list-item.is
    c.loop-list.invariant
    (subst (λ (n : List ℕ). Adds (λ (name : List ℕ). n ≡ name) c.loop-list.names.keys c.insert.new.self.keys) c.bytes.ensures
    (adds_inserted c.loop-list.names.keys c.insert.new.self.keys c.bytes.result c.in_ok-insert.ensures.keys))

pub returns : goal.returns
returns c =
    subst (λ (lists : List ListText). Adds (λ (name : List ℕ). Any (HasName name) lists) c.args.names.now.keys c.loop-list.names.keys) c.slice-list-items.ensures.items
    (adds_all HasName c.slice-list-items.result.now c.loop-list.list-index c.args.names.now.keys c.loop-list.names.keys c.loop-list-test.false c.loop-list.invariant)
