use Rattle.std.proofs.Common.{◌≡◌, ℕ, ◌<◌, false, List, [], ◌++◌, get_or, length, sym, ap, ◌∙◌, arith, below_more}
use Rattle.std.specs.Prelude.{bytes_eq}
use Rattle.std.proofs.lemmas.List.{get_or_default}
use Rattle.net_model.specs.declared.rows.Network.{Network}
use Rattle.edit_list.specs.declared.edit_kinds.Edit.{Edit}
use Rattle.policy_report.specs.Edits.{edit_text}
use Rattle.policy_report.proofs.EditsFound.{has_text, position_is, position_none}
use Rattle.policy_report.proofs.edits.find_edit.Goals as goal

-- an edit has the text if what was written of it is the text
has_written : (net : Network) (text : List ℕ) (edit : Edit) (none written seen : List ℕ) → none ≡ [] → written ≡ none ++ edit_text net edit → seen ≡ written →
    has_text net text edit ≡ bytes_eq seen text
has_written net text edit none written seen empty pushed same = ap (λ (t : List ℕ). bytes_eq t text) (sym (same ∙ pushed ∙ ap (λ (t : List ℕ). t ++ edit_text net edit) empty))

pub returns-then-eq-clause-place : goal.returns-then-eq-clause-place
returns-then-eq-clause-place c =
    let net = c.args.net.now in
    let text = c.args.text.now in
    let edit : Edit = c.index-edits-place.result in
    let has = has_written net text edit c.new-written.result.items c.push_edit.new.text.items c.as_slice.result.now
    c.new-written.ensures.items c.in_ok-push_edit.ensures c.as_slice.ensures.value in
    sym (position_is (has_text net text) c.args.edits.now c.loop-place.place edit (omega arith) (λ k l. c.loop-place.invariant k edit l)
    (ap (has_text net text) (sym c.index-edits-place.is) ∙ has ∙ sym c.eq.ensures ∙ c.if-eq.true))

pub loop-place-preserved : goal.loop-place-preserved
loop-place-preserved c k d l =
    let net = c.args.net.now in
    let text = c.args.text.now in
    let edit : Edit = c.index-edits-place.result in
    let within : c.loop-place.place < length c.args.edits.now = omega arith in
    let has = has_written net text edit c.new-written.result.items c.push_edit.new.text.items c.as_slice.result.now
    c.new-written.ensures.items c.in_ok-push_edit.ensures c.as_slice.ensures.value in
    let here : (d : Edit) → has_text net text (get_or c.args.edits.now c.loop-place.place d) ≡ false = λ d.
    ap (has_text net text) (get_or_default c.args.edits.now c.loop-place.place d edit within ∙ sym c.index-edits-place.is) ∙ has ∙ sym c.eq.ensures ∙ c.if-eq.false in
    below_more (λ (k : ℕ). (d : Edit) → has_text net text (get_or c.args.edits.now k d) ≡ false) c.loop-place.place (λ k m d. c.loop-place.invariant k d m) here k l d

pub returns-clause-place : goal.returns-clause-place
returns-clause-place c =
    sym (position_none (has_text c.args.net.now c.args.text.now) c.args.edits.now (λ k d l. c.loop-place.invariant k d (omega (arith, l))))
