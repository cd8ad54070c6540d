use Rattle.std.proofs.Common.{◌≡◌, ◌<◌, ◌∙◌, ℕ, Some, Bool, true, false, List, Option, get_or, length, sym, subst, rules}
use Rattle.std.specs.Prelude.{IfSome}
use Rattle.std.proofs.lemmas.List.{get_or_default}
use Rattle.policy_report.specs.Edits.{edit_of}
use Rattle.edit_reader.proofs.Marked.{names_twice, one_marked, place_within}
use Rattle.edit_reader.proofs.reading.mark.Goals as goal

pub returns-then-index-clause-marked : goal.returns-then-index-clause-marked
returns-then-index-clause-marked c = λ net edits before finds marked.
    let is : edit_of net edits c.args.line.now ≡ Some c.in-Some.place = sym (finds c.args.line.now) ∙ (sym c.get.ensures ∙ c.in-Some.is) in
    let P : Option ℕ → Type 0 = λ o. IfSome o (λ place. place < length c.args.chosen.now.items) in
    let fits : c.in-Some.place < length c.args.chosen.now.items = subst P (sym c.get.ensures ∙ c.in-Some.is) (c.requires c.args.line.now) in
    let flags : List Bool = c.args.chosen.now.items in
    let read : get_or flags c.in-Some.place c.index.result.now ≡ true = search rules in
    let flag : get_or flags c.in-Some.place false ≡ true = get_or_default flags c.in-Some.place false c.index.result.now fits ∙ read in
    names_twice net edits before c.args.line.now flags c.in-Some.place (sym c.is_blank_line.ensures ∙ c.if-is_blank_line.false) is
    (place_within net edits c.args.line.now c.in-Some.place is) flag marked

pub returns-clause-marked : goal.returns-clause-marked
returns-clause-marked c = λ net edits before finds marked.
    let is : edit_of net edits c.args.line.now ≡ Some c.in-Some.place = sym (finds c.args.line.now) ∙ (sym c.get.ensures ∙ c.in-Some.is) in
    let flag : get_or c.args.chosen.now.items c.in-Some.place false ≡ false = search rules in
    one_marked net edits before c.args.line.now c.args.chosen.now.items c.in-Some.place (sym c.is_blank_line.ensures ∙ c.if-is_blank_line.false) is
    (place_within net edits c.args.line.now c.in-Some.place is) flag marked
