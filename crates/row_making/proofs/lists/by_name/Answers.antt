use Rattle.std.proofs.Common.{Bool, ◌&&◌, ◌∙◌, ap}
use Rattle.std.specs.Prelude.{find, bytes_eq}
use Rattle.std.proofs.lemmas.List.{take_all}
use Rattle.ios_config.specs.declared.settings.ListText.{ListText}
use Rattle.net_rules.specs.Lists.{is_of_kind}
use Rattle.row_making.specs.ListTables.{list_at}
use Rattle.row_making.proofs.ListsTables.{found_more}
use Rattle.row_making.proofs.lists.by_name.Goals as goal

pub loop-list-preserved : goal.loop-list-preserved
loop-list-preserved c = λ name.
    found_more (λ (list : ListText). bytes_eq list.name name && is_of_kind c.args.packet list) c.slice-list-items.result.now c.loop-list.list-index c.list-item.result
    (list_at c.loop-list.lists name) (list_at c.add_list.new.lists name) c.loop-list-test.true c.list-item.is (c.loop-list.invariant name) (c.in_ok-add_list.ensures name)

pub returns : goal.returns
returns c = λ name.
    let passes : ListText → Bool = λ list. bytes_eq list.name name && is_of_kind c.args.packet list in
    c.loop-list.invariant name ∙ ap (find passes) (take_all c.loop-list.list-index c.slice-list-items.result.now c.loop-list-test.false) ∙ ap (find passes) c.slice-list-items.ensures.items
