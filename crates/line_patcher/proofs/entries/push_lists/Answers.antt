use Rattle.std.proofs.Common.{◌∙◌}
use Rattle.std.specs.List.{flat_map}
use Rattle.line_patcher.specs.EntryLines.{edited_lists, entries_at, list_entries, list_numbers, numbers_of}
use Rattle.line_patcher.proofs.Tables.{few_added, list_more, lists_all}
use Rattle.line_patcher.proofs.entries.push_lists.Goals as goal

pub push_list-requires : goal.push_list-requires
push_list-requires g c =
    few_added g.L.EditedList.change c.args.changes.now.edits.items
    (g.L.EditedList.lists c.args.net.now) c.slice-list-items.result.now c.loop-id.id c.list-item.result c.added-added.result.now c.things_at-subjects.result.now
    (c.slice-list-items.ensures.items ∙ c.lists.ensures) c.loop-id-test.true c.list-item.is c.added-added.ensures c.things_at-subjects.ensures c.requires.few

pub loop-id-preserved : goal.loop-id-preserved
loop-id-preserved g c = (
  list_more g.L.EditedList.change c.args.changes.now.edits.items
      (g.L.EditedList.lists c.args.net.now) c.slice-list-items.result.now c.loop-id.id c.list-item.result c.added-added.result.now c.things_at-subjects.result.now
      (c.slice-list-items.ensures.items ∙ c.lists.ensures) c.loop-id-test.true c.list-item.is c.added-added.ensures c.things_at-subjects.ensures
      g.L.EditedList.router (g.L.EditedList.place_of c.args.own.now)
      (entries_at g.L.EditedList.command) c.args.router c.args.commands.now.items c.loop-id.commands.items c.push_list.new.commands.items c.loop-id.invariant.0 c.in_ok-push_list.ensures.commands,
  list_more g.L.EditedList.change c.args.changes.now.edits.items
      (g.L.EditedList.lists c.args.net.now) c.slice-list-items.result.now c.loop-id.id c.list-item.result c.added-added.result.now c.things_at-subjects.result.now
      (c.slice-list-items.ensures.items ∙ c.lists.ensures) c.loop-id-test.true c.list-item.is c.added-added.ensures c.things_at-subjects.ensures
      g.L.EditedList.router (g.L.EditedList.place_of c.args.own.now)
      (λ l. numbers_of g.L.EditedList.numbering) c.args.router c.args.numbers.now.items c.loop-id.numbers.items c.push_list.new.numbers.items c.loop-id.invariant.1 c.in_ok-push_list.ensures.numbers,
)

pub returns-clause-commands : goal.returns-clause-commands
returns-clause-commands g c =
    lists_all (λ ls. flat_map
    (list_entries (g.L.EditedList.lists c.args.net.now) (g.L.EditedList.place_of c.args.own.now) g.L.EditedList.command g.L.EditedList.change c.args.changes.now.edits.items)
    (edited_lists ls g.L.EditedList.router g.L.EditedList.change c.args.changes.now.edits.items c.args.router))
    (g.L.EditedList.lists c.args.net.now) c.slice-list-items.result.now c.loop-id.id c.args.commands.now.items c.loop-id.commands.items
    (c.slice-list-items.ensures.items ∙ c.lists.ensures) c.loop-id-test.false c.loop-id.invariant.0

pub returns-clause-numbers : goal.returns-clause-numbers
returns-clause-numbers g c =
    lists_all (λ ls. flat_map
    (list_numbers (g.L.EditedList.lists c.args.net.now) (g.L.EditedList.place_of c.args.own.now) g.L.EditedList.numbering g.L.EditedList.change c.args.changes.now.edits.items)
    (edited_lists ls g.L.EditedList.router g.L.EditedList.change c.args.changes.now.edits.items c.args.router))
    (g.L.EditedList.lists c.args.net.now) c.slice-list-items.result.now c.loop-id.id c.args.numbers.now.items c.loop-id.numbers.items
    (c.slice-list-items.ensures.items ∙ c.lists.ensures) c.loop-id-test.false c.loop-id.invariant.1
