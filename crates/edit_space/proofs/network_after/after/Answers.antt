use Rattle.std.proofs.Common.{List, ◌∙◌, ap, subst}
use Rattle.std.specs.Prelude.{IfOk}
use Rattle.edit_list.specs.declared.edit_kinds.Edit.{Edit}
use Rattle.edit_list.specs.After.{IsAfter}
use Rattle.edit_list.specs.Prices.{chosen_of}
use Rattle.edit_space.proofs.network_after.after.Goals as goal

pub changed-requires-clause-made : goal.changed-requires-clause-made
changed-requires-clause-made c = rw (c.deref.ensures.value, c.deref-2.ensures.value) c.in_ok-names.ensures

pub returns-clause-after : goal.returns-clause-after
returns-clause-after c =
    subst (λ (l : List Edit). IfOk c.changed.result (IsAfter c.args.net.now l))
    (c.in_ok-changes.ensures.edits ∙ c.in_ok-chosen_edits.ensures ∙ ap (λ (l : List Edit). chosen_of l c.args.chosen.now) c.slice.ensures.items)
    c.changed.ensures.after
