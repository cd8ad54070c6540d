-- The rows of a text are its lines as they are seen.
use Rattle.std.proofs.Common.{◌≡◌, ℕ, suc, ◌+◌, ◌<◌, Bool, List, [], ◌∷◌, map, take, drop, slice_get, Some, None, Option, refl, sym, ap, subst, ◌∙◌, arith}
use Rattle.ios_lines.specs.declared.banner.Delimiter.{Delimiter}
use Rattle.ios_lines.specs.declared.line.Line.{Line}
use Rattle.std.proofs.lemmas.List.Sums.{fold-append}
use Rattle.ios_lines.specs.Texts.{part, bytes_of, text_lines}
use Rattle.arc_base.specs.Words.{words}
use Rattle.ios_lines.specs.Kinds.{after_line, is_head, is_inert, kind_at, kind_within, open_banner}
use Rattle.ios_lines.specs.Blocks.{IsOpenBlock}
use Rattle.ios_lines.specs.Lines.{IsRow}
use Rattle.ios_lines.specs.Reading.{block_after}
use Rattle.ios_lines.specs.ChangeLaws.{RowsAreSeen}
use Rattle.ios_lines.specs.Views.{seen_in, seen_from, Mark, mark_of, mark_seen}
use Rattle.ios_lines.proofs.OneList.{same-open}
use Rattle.ios_lines.proofs.OpenBlocks.{open-step}
use Rattle.ios_lines.proofs.Rows.{stands_at}

-- a mark with these parts
abbrev of_parts : List (List ℕ) → ℕ → Bool → Bool → Mark
of_parts words block head inert = record { words = words; block = block; head = head; inert = inert }

same-mark : (m n : Mark) → m.words ≡ n.words → m.block ≡ n.block → m.head ≡ n.head → m.inert ≡ n.inert → m ≡ n
same-mark m n words block head inert =
    ap (λ w. of_parts w m.block m.head m.inert) words ∙ ap (λ b. of_parts n.words b m.head m.inert) block
    ∙ ap (λ h. of_parts n.words n.block h m.inert) head ∙ ap (of_parts n.words n.block n.head) inert

-- what the next line is
pub kind-next : (lines : List (List ℕ)) (count : ℕ) (line : List ℕ) (rest : List (List ℕ)) (banner : Option Delimiter) → drop count lines ≡ line ∷ rest →
    banner ≡ open_banner (take count lines) → kind_at lines count ≡ kind_within banner line
kind-next lines count line rest banner there is =
    let at = stands_at lines count line rest there in
    ap (λ l. kind_within (open_banner (take count lines)) l) at.here ∙ ap (λ b. kind_within b line) (sym is)

-- the banner that is open after it
pub banner-next : (lines : List (List ℕ)) (count : ℕ) (line : List ℕ) (rest : List (List ℕ)) (banner : Option Delimiter) → drop count lines ≡ line ∷ rest →
    banner ≡ open_banner (take count lines) → after_line banner line ≡ open_banner (take (count + 1) lines)
banner-next lines count line rest banner there is =
    let at = stands_at lines count line rest there in
    sym (ap open_banner at.front ∙ fold-append after_line None (take count lines) (line ∷ []) ∙ ap (λ b. after_line b line) (sym is))

row-of-seen : (text : List ℕ) (count : ℕ) (line : List ℕ) (rest : List (List ℕ)) (row : Line) (banner : Option Delimiter) (block : ℕ) →
    drop count (text_lines text) ≡ line ∷ rest → part text row.span ≡ line → IsRow text count row →
    banner ≡ open_banner (take count (text_lines text)) → IsOpenBlock (kind_at (text_lines text)) count block → mark_of text row ≡ mark_seen (seen_in (count + 1) line (kind_within banner line) block)
row-of-seen text count line rest row banner block there same row-is is open_block =
    let kind = kind-next (text_lines text) count line rest banner there is in
    let k = kind_within banner line in
    same-mark (mark_of text row) (mark_seen (seen_in (count + 1) line k block))
    (row-is.texts ∙ ap words same)
    (same-open (kind_at (text_lines text)) (count + 1) row.block (block_after k (count + 1) block) row-is.block (open-step (kind_at (text_lines text)) count block k kind open_block))
    (row-is.head ∙ ap is_head kind)
    (row-is.inert ∙ ap is_inert kind)

rows-seen : (text : List ℕ) (count : ℕ) (rest : List (List ℕ)) (rows : List Line) (banner : Option Delimiter) (block : ℕ) → drop count (text_lines text) ≡ rest → bytes_of text rows ≡ rest →
    ((place : ℕ) (line : Line) → slice_get rows place ≡ Some line → IsRow text (count + place) line) →
    banner ≡ open_banner (take count (text_lines text)) → IsOpenBlock (kind_at (text_lines text)) count block →
    map (mark_of text) rows ≡ map mark_seen (seen_from count banner block rest)
rows-seen text count [] [] banner block there bytes all is open_block = refl
rows-seen text count [] (row ∷ rows) banner block there bytes all is open_block = absurd cc
rows-seen text count (line ∷ rest) [] banner block there bytes all is open_block = absurd cc
rows-seen text count (line ∷ rest) (row ∷ rows) banner block there bytes all is open_block =
    let at = stands_at (text_lines text) count line rest there in
    let same : part text row.span ≡ line = cc in
    let more : bytes_of text rows ≡ rest = cc in
    let here : IsRow text count row = subst (λ n. IsRow text n row) (omega arith) (all 0 row refl) in
    let k = kind_within banner line in
    let kind = kind-next (text_lines text) count line rest banner there is in
    ap (λ m. m ∷ map (mark_of text) rows) (row-of-seen text count line rest row banner block there same here is open_block)
    ∙ ap (λ ms. mark_seen (seen_in (count + 1) line k block) ∷ ms)
    (rows-seen text (count + 1) rest rows (after_line banner line) (block_after k (count + 1) block) at.left more
    (λ place l at-place. subst (λ n. IsRow text n l) (omega arith) (all (suc place) l at-place))
    (banner-next (text_lines text) count line rest banner there is)
    (open-step (kind_at (text_lines text)) count block k kind open_block))

-- the rows of a text say what its lines are seen to say
pub rows-are-seen : RowsAreSeen
rows-are-seen text lines is =
    rows-seen text 0 (text_lines text) lines.rows None 0 refl is.texts (λ place line h. subst (λ n. IsRow text n line) (omega arith) (is.rows place line h)) refl
    (λ head heads. let low : head < 0 = heads.before in absurd (omega arith))
