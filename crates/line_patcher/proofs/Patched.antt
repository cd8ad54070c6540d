-- The file of a router after edits, found at its place.
use Rattle.std.proofs.Common.{◌≡◌, ℕ, List, sym, subst, ◌∙◌}
use Rattle.std.specs.Prelude.{Option, Some, IsSomeAnd, slice_get}
use Rattle.ios_lines.specs.declared.line.Lines.{Lines}
use Rattle.net_build.specs.declared.built.Built.{Built}
use Rattle.net_build.specs.declared.built.Places.{Places}
use Rattle.edit_list.specs.declared.edit_kinds.Edit.{Edit}
use Rattle.ios_words.specs.declared.commands.Command.{Command}
use Rattle.line_patcher.specs.declared.additions.NewNumber.{NewNumber}
use Rattle.line_patcher.specs.Additions.{commands_before, commands_after, numbers_at}
use Rattle.line_patcher.specs.Written.{lines_at}
use Rattle.line_patcher.specs.Patches.{patched_text, patched_file, IsPatched}

pub is-patched : (built : Built) (chosen : List Edit) (router : ℕ) (text new : List ℕ) (lines : Lines) (own : Places) (before after : List (ℕ × Command)) (numbers : List (ℕ × NewNumber)) →
    slice_get built.lines router ≡ Some lines → slice_get built.places router ≡ Some own →
    before ≡ commands_before built.net own chosen router → numbers ≡ numbers_at built.net own chosen router → after ≡ commands_after built.net built.places own chosen router →
    new ≡ patched_text text lines (lines_at before) numbers (lines_at after) → IsPatched built chosen router text new
is-patched built chosen router text new lines own before after numbers at there b n a is =
    let whole : new ≡ patched_file built chosen router text lines own = is ∙ (λ i. patched_text text lines (lines_at (b i)) (n i) (lines_at (a i))) in
    subst (λ (o : Option Lines). IsSomeAnd o (λ ls. IsSomeAnd (slice_get built.places router) (λ p. new ≡ patched_file built chosen router text ls p))) (sym at)
    (subst (λ (o : Option Places). IsSomeAnd o (λ p. new ≡ patched_file built chosen router text lines p)) (sym there) whole)
