use Rattle.std.proofs.Common.{◌≡◌, ◌∙◌, ℕ, ◌++◌, List, length, ap, arith}
use Rattle.std.specs.Prelude.{Some, slice_get}
use Rattle.std.specs.List.{zip}
use Rattle.std.proofs.lemmas.Result.{IfOk-weaker}
use Rattle.arc_base.proofs.Grouped.{told_within}
use Rattle.ios_lines.specs.declared.line.Lines.{Lines}
use Rattle.net_build.specs.declared.built.Built.{Built}
use Rattle.net_build.specs.declared.built.Places.{Places}
use Rattle.net_model.specs.declared.rows.Network.{Network}
use Rattle.edit_list.specs.declared.edit_kinds.Edit.{Edit}
use Rattle.edit_list.specs.NewLists.{new_names_of}
use Rattle.line_patcher.specs.Additions.{numbers_at}
use Rattle.line_patcher.specs.Patches.{IsPatched, patched_text}
use Rattle.line_patcher.specs.Written.{lines_at}
use Rattle.line_patcher.proofs.Patched.{is-patched}
use Rattle.line_patcher.proofs.Tables.{item_at, names_counted, named_are}
use Rattle.line_patcher.proofs.patches.patched_file.Goals as goal

pub index-requires : goal.index-requires
index-requires c =
    let net : Network = c.args.built.now.net in
    omega (arith, told_within (new_names_of net c.args.plan.now.changes.edits.items) (length net.routers) c.args.router c.args.plan.now.names.items c.requires.plan.names.told c.requires.file.routed)

pub named_lists-requires : goal.named_lists-requires
named_lists-requires c =
    ap length c.slice-3.ensures.items ∙
    names_counted c.args.built.now.net c.args.plan.now.changes.edits.items c.args.router c.args.plan.now.names.items c.index.result.now c.deref.result.now c.things_at-lists.result.now
    c.requires.plan.names c.requires.file.routed c.index.ensures (c.deref.ensures.value ∙ c.requires.plan.lists) c.things_at-lists.ensures

pub commands_before-requires-clause-named : goal.commands_before-requires-clause-named
commands_before-requires-clause-named c =
    c.deref-2.ensures.value ∙ c.in_ok-named.ensures ∙ ap (zip c.things_at-lists.result.now) c.slice-3.ensures.items ∙
    named_are c.args.built.now.net c.args.plan.now.changes.edits.items c.args.router c.args.plan.now.names.items c.index.result.now c.deref.result.now c.things_at-lists.result.now
    c.requires.plan.names c.requires.file.routed c.index.ensures (c.deref.ensures.value ∙ c.requires.plan.lists) c.things_at-lists.ensures

pub commands_after-requires-clause-named : goal.commands_after-requires-clause-named
commands_after-requires-clause-named c =
    c.deref-3.ensures.value ∙ c.in_ok-named.ensures ∙ ap (zip c.things_at-lists.result.now) c.slice-3.ensures.items ∙
    named_are c.args.built.now.net c.args.plan.now.changes.edits.items c.args.router c.args.plan.now.names.items c.index.result.now c.deref.result.now c.things_at-lists.result.now
    c.requires.plan.names c.requires.file.routed c.index.ensures (c.deref.ensures.value ∙ c.requires.plan.lists) c.things_at-lists.ensures

pub patched_text-requires-clause-lines : goal.patched_text-requires-clause-lines
patched_text-requires-clause-lines c =
    c.requires.file.lines c.index-slice-router.result
    (item_at c.args.built.now.lines c.slice.result.now c.args.router c.index-slice-router.result c.slice.ensures.items c.requires.file.lined c.index-slice-router.is)

pub returns : goal.returns
returns c =
    let built : Built = c.args.built.now in
    let i : ℕ = c.args.router in
    let lines : Lines = c.index-slice-router.result in
    let own : Places = c.index-slice-router-2.result in
    let at : slice_get built.lines i ≡ Some lines = item_at built.lines c.slice.result.now i lines c.slice.ensures.items c.requires.file.lined c.index-slice-router.is in
    let there : slice_get built.places i ≡ Some own = item_at built.places c.slice-2.result.now i own c.slice-2.ensures.items c.requires.file.placed c.index-slice-router-2.is in
    let chosen : List Edit = c.args.plan.now.changes.edits.items in
    let text : List ℕ = c.args.text.now in
    let before = c.in_ok-before.before.items in
    let numbers = c.commands_before.new.numbers.items in
    let after = c.in_ok-after.after.items in
    IfOk-weaker c.patched_text.result (λ (new : List ℕ). new ≡ patched_text text lines (lines_at before) numbers (lines_at after)) (IsPatched built chosen i text)
    (λ new is. is-patched built chosen i text new lines own before after numbers at there c.in_ok-before.ensures.commands
    (c.in_ok-before.ensures.numbers ∙ ap (λ l. l ++ numbers_at built.net own chosen i) c.new-numbers.ensures.items) c.in_ok-after.ensures is)
    c.patched_text.ensures
