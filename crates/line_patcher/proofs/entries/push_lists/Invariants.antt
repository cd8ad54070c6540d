use Rattle.std.proofs.Common.{◌≡◌, ◌++◌, take}
use Rattle.std.specs.List.{flat_map}
use Rattle.arc_base.specs.Numbered.{placed}
use Rattle.line_patcher.specs.EntryLines.{edited_lists, list_entries, list_numbers}
use Rattle.line_patcher.proofs.entries.push_lists.Given as goal

abbrev pub invariant-loop-id : goal.invariant-loop-id
invariant-loop-id g l =
    let chosen = l.changes.edits.items in
    let ids = edited_lists (take l.id (placed l.list-items)) g.L.EditedList.router g.L.EditedList.change chosen l.router in
    (l.commands.items ≡ l.fn.commands.items ++ flat_map (list_entries (g.L.EditedList.lists l.net) (g.L.EditedList.place_of l.own) g.L.EditedList.command g.L.EditedList.change chosen) ids) ×
    (l.numbers.items ≡ l.fn.numbers.items ++ flat_map (list_numbers (g.L.EditedList.lists l.net) (g.L.EditedList.place_of l.own) g.L.EditedList.numbering g.L.EditedList.change chosen) ids)
