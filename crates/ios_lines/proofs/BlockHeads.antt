-- Each row that stands in a block has the row that heads it.
use Rattle.std.proofs.Common.{◌≡◌, ◌≢◌, ℕ, zero, suc, ◌+◌, ◌<◌, true, List, [], ◌∷◌, map, length, slice_get, Some, refl, sym, ap, subst, ◌∙◌, arith}
use Rattle.std.proofs.lemmas.Option.{same_Some, none-some, slice_get-map, slice_get_within}
use Rattle.std.specs.Prelude.{option_map}
use Rattle.ios_lines.specs.declared.line.Line.{Line}
use Rattle.ios_lines.specs.declared.line.Lines.{Lines}
use Rattle.ios_lines.specs.Texts.{text_lines}
use Rattle.ios_lines.specs.Kinds.{is_head, kind_at}
use Rattle.ios_lines.specs.Blocks.{Heads, IsOpenBlock}
use Rattle.ios_lines.specs.Lines.{AreLinesOf}
use Rattle.ios_lines.specs.Views.{Mark, mark_of, line_marks}
use Rattle.ios_lines.specs.ChangeLaws.{HasHead, BlocksHaveHeads}

-- an item of a list that was made of another's
get-map : {A B : Type 0} → (f : A → B) (xs : List A) (k : ℕ) (y : B) → slice_get (map f xs) k ≡ Some y → (x : A) × (slice_get xs k ≡ Some x) × (f x ≡ y)
get-map f [] k y is = absurd (none-some y is)
get-map f (x ∷ xs) zero y is = (x, refl, same_Some (f x) y is)
get-map f (x ∷ xs) (suc k) y is = get-map f xs k y is

get-within : {A : Type 0} → (xs : List A) (k : ℕ) → k < length xs → (x : A) × (slice_get xs k ≡ Some x)
get-within [] k low = absurd (omega arith)
get-within (x ∷ xs) zero low = (x, refl)
get-within (x ∷ xs) (suc k) low = get-within xs k (omega arith)

head-of : (text : List ℕ) (lines : Lines) (place block : ℕ) → AreLinesOf text lines → place < length lines.rows →
    IsOpenBlock (kind_at (text_lines text)) (place + 1) block → block ≢ 0 → HasHead (line_marks text lines) block
head-of text lines place zero are low is some = absurd (some refl)
head-of text lines place (suc h) are low is some =
    let before : h < place + 1 = is.before in
    let (row, there) = get-within lines.rows h (omega arith) in
    record {
      place = h;
      head = mark_of text row;
      number = omega arith;
      at_place = slice_get-map (mark_of text) lines.rows h ∙ ap (option_map (mark_of text)) there;
      heads = (are.rows h row there).head ∙ ap is_head is.opens;
    }

pub blocks-have-heads : BlocksHaveHeads
blocks-have-heads text lines place m are there some =
    let (row, at, same) = get-map (mark_of text) lines.rows place m there in
    let low = slice_get_within lines.rows place row at in
    let block : row.block ≡ m.block = ap (λ (n : Mark). n.block) same in
    head-of text lines place m.block are low (subst (IsOpenBlock (kind_at (text_lines text)) (place + 1)) block (are.rows place row at).block) some
