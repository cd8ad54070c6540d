use Rattle.std.proofs.Common.{◌∙◌, ◌++◌, ap, length, sym, if◌then◌else◌}
use Rattle.std.specs.Prelude.{[]}
use Rattle.std.specs.Option.{option_map_or}
use Rattle.line_patcher.specs.EntryLines.{entries_at, new_numbers, numbers_of}
use Rattle.line_patcher.proofs.entries.push_list.Goals as goal

pub returns-clause-commands : goal.returns-clause-commands
returns-clause-commands g c =
    let own = sym c.if-not-is_edited.false ∙ c.is_edited.ensures in
    c.in_ok-push_commands.ensures ∙
    (λ i. c.args.commands.now.items ++ (if own i then option_map_or (λ there. entries_at g.L.EditedList.command c.args.list.now there c.args.subjects.now) (c.in-Some.ensures i) [] else []))

pub returns-clause-numbers : goal.returns-clause-numbers
returns-clause-numbers g c =
    let own = sym c.if-not-is_edited.false ∙ c.is_edited.ensures in
    c.in_ok-push_numbers.ensures ∙ ap (λ n. c.args.numbers.now.items ++ new_numbers c.in-Some.place.now n.0 n.1 (length c.args.subjects.now)) c.numbering-word.ensures.numbering ∙
    (λ i. c.args.numbers.now.items ++ (if own i then option_map_or (λ there. numbers_of g.L.EditedList.numbering there c.args.subjects.now) (c.in-Some.ensures i) [] else []))
