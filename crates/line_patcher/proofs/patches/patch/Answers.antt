use Rattle.std.proofs.Common.{◌≡◌, ◌∙◌, ℕ, List, length, get_or, ap, sym, subst, arith}
use Rattle.edit_list.specs.declared.edit_kinds.Edit.{Edit}
use Rattle.arc_base.specs.Numbered.{EachRow}
use Rattle.edit_list.specs.Prices.{chosen_of}
use Rattle.edit_space.proofs.Naming.{rows_more, no_rows, all_rows}
use Rattle.line_patcher.specs.Patches.{IsPatched}
use Rattle.line_patcher.specs.Working.{IsFileOf}
use Rattle.line_patcher.proofs.BuiltFiles.{is-file}
use Rattle.line_patcher.proofs.Tables.{few_chosen}
use Rattle.line_patcher.proofs.patches.patch.Goals as goal

pub patched_file-requires-clause-few : goal.patched_file-requires-clause-few
patched_file-requires-clause-few c =
    let edits : c.in_ok-plan.plan.changes.edits.items ≡ chosen_of c.args.edits.now c.args.chosen.now =
    c.in_ok-plan.ensures.edits ∙ c.in_ok-chosen_edits.ensures ∙ ap (λ (l : List Edit). chosen_of l c.args.chosen.now) c.slice.ensures.items in
    omega (arith, ap length edits, few_chosen c.args.edits.now c.args.chosen.now c.requires.flags c.requires.few)

pub patched_file-requires-clause-file : goal.patched_file-requires-clause-file
patched_file-requires-clause-file c =
    let i : ℕ = c.loop-router.router in
    let text : List ℕ = c.text-item.result in
    subst (IsFileOf c.args.built.now i) (sym c.bytes.ensures)
    (is-file c.args.doc.now c.args.files.now c.args.built.now i text c.requires.built (omega (arith, c.loop-router-test.true, ap length c.slice-text-items.ensures.items))
    (c.text-item.is ∙ ap (λ (l : List (List ℕ)). get_or l i text) c.slice-text-items.ensures.items))

pub loop-router-init : goal.loop-router-init
loop-router-init c = no_rows (IsPatched c.args.built.now c.in_ok-plan.plan.changes.edits.items) c.make-new.result c.make-new.ensures

pub loop-router-preserved : goal.loop-router-preserved
loop-router-preserved c =
    let Holds : ℕ → List ℕ → List ℕ → Type 0 = IsPatched c.args.built.now c.in_ok-plan.plan.changes.edits.items in
    let i : ℕ = c.loop-router.router in
    let text : List ℕ = c.text-item.result in
    let new : List ℕ = c.in_ok-patched_file.field-0 in
    rows_more Holds c.slice-text-items.result.now i text c.loop-router.new c.push.new.self new c.loop-router-test.true c.text-item.is
    (subst (λ (t : List ℕ). Holds i t new) c.bytes.ensures c.in_ok-patched_file.ensures)
    c.in_ok-push.ensures.ok c.loop-router.invariant

pub returns : goal.returns
returns c =
    let edits : c.in_ok-plan.plan.changes.edits.items ≡ chosen_of c.args.edits.now c.args.chosen.now =
    c.in_ok-plan.ensures.edits ∙ c.in_ok-chosen_edits.ensures ∙ ap (λ (l : List Edit). chosen_of l c.args.chosen.now) c.slice.ensures.items in
    subst (λ (l : List Edit). EachRow (IsPatched c.args.built.now l) c.args.files.now c.loop-router.new) edits
    (all_rows (IsPatched c.args.built.now c.in_ok-plan.plan.changes.edits.items) c.slice-text-items.result.now c.args.files.now c.loop-router.router c.loop-router.new
    c.loop-router-test.false c.slice-text-items.ensures.items c.loop-router.invariant)
