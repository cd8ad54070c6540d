use Rattle.std.proofs.Common.{◌≡◌, ℕ, ◌<◌, false, get_or}
use Rattle.std.specs.Prelude.{bytes_eq}
use Rattle.edit_list.specs.declared.edit_kinds.Edit.{Edit}
use Rattle.policy_report.specs.Edits.{edit_text}
use Rattle.policy_report.proofs.edits.find_edit.Given as goal

-- no edit before this place has the text
abbrev pub invariant-loop-place : goal.invariant-loop-place
invariant-loop-place l = (k : ℕ) (d : Edit) → k < l.place → bytes_eq (edit_text l.net (get_or l.edits k d)) l.text ≡ false
