-- Lines of blocks: they are indented, and one with a carriage return at its end is a line of its block without it too.
use Rattle.std.proofs.Common.{◌≡◌, ◌≢◌, ℕ, ◌+◌, Bool, true, false, if◌then◌else◌, List, [], ◌∷◌, ◌++◌, get_or, take, codes, refl, sym, ap, ◌∙◌}
use Rattle.std.specs.Prelude.{option_map}
use Rattle.std.proofs.lemmas.Bool.{true≢false, false≢true}
use Rattle.std.proofs.lemmas.Option.{same_Some, slice_get-map}
use Rattle.ios_lines.specs.Kinds.{is_banner, is_head, is_indented, is_inert, is_mark, kind, kind_at, opens_block, top_kind, words_kind}
use Rattle.ios_lines.specs.Reading.{block_after}
use Rattle.ios_lines.specs.Views.{Mark, mark_seen, open_block, seen, seen_in}
use Rattle.arc_base.specs.Words.{words}
use Rattle.ios_lines.proofs.ChangedTexts.{open-after, seen-at}
use Rattle.ios_lines.proofs.Replacements.{kind-there}
use Rattle.ios_words.proofs.Returns.{last-word, with_return, without_return}
use Rattle.ios_config.specs.declared.commands.FileCommand.{FileCommand}
use Rattle.line_edit_laws.proofs.Shifts.{RowOf}

-- what a top line leaves open, whether it says something and whether it heads a block, by its words
abbrev inert_by : Bool → Bool → Bool → Bool
inert_by mark banner opens =
    is_inert (if mark then words_kind false ((33 ∷ []) ∷ []) else
    (if banner then top_kind (codes "banner" ∷ []) else (if opens then top_kind (codes "router" ∷ []) else top_kind (codes "hostname" ∷ []))))

abbrev head_by : Bool → Bool → Bool → Bool
head_by mark banner opens =
    is_head (if mark then words_kind false ((33 ∷ []) ∷ []) else
    (if banner then top_kind (codes "banner" ∷ []) else (if opens then top_kind (codes "router" ∷ []) else top_kind (codes "hostname" ∷ []))))

abbrev block_by : ℕ → ℕ → Bool → Bool → Bool → ℕ
block_by number block mark banner opens =
    block_after (if mark then words_kind false ((33 ∷ []) ∷ []) else
    (if banner then top_kind (codes "banner" ∷ []) else (if opens then top_kind (codes "router" ∷ []) else top_kind (codes "hostname" ∷ [])))) number block

no-top : (number block : ℕ) (mark banner opens : Bool) → inert_by mark banner opens ≡ false → head_by mark banner opens ≡ false → block_by number block mark banner opens ≢ 0 → ⊥
no-top number block true banner opens says head some = true≢false says
no-top number block false true opens says head some = true≢false says
no-top number block false false true says head some = true≢false head
no-top number block false false false says head some = some refl

-- a line that says something, heads no block and leaves one open is indented
indented-by : (indented : Bool) (ws : List (List ℕ)) (number block : ℕ) → is_inert (words_kind indented ws) ≡ false → is_head (words_kind indented ws) ≡ false →
    block_after (words_kind indented ws) number block ≢ 0 → indented ≡ true
indented-by true ws number block says head some = refl
indented-by false [] number block says head some = absurd (true≢false says)
indented-by false (w ∷ ws) number block says head some = absurd (no-top number block (is_mark w) (is_banner (w ∷ ws)) (opens_block (w ∷ ws)) says head some)

-- the line of a command that stands in a block and heads none is indented
pub row-indented : (lines : List (List ℕ)) (cs : List FileCommand) (c : FileCommand) (r : RowOf lines cs c) → r.mark.head ≡ false → r.mark.block ≢ 0 → is_indented (get_or lines r.place []) ≡ true
row-indented lines cs c r no_head some =
    let line : List ℕ = get_or lines r.place [] in
    let kind_is : kind_at lines r.place ≡ kind line = kind-there lines r.place r.told.within r.told.before in
    let same : mark_seen (seen_in (r.place + 1) line (kind_at lines r.place) (open_block (take r.place lines))) ≡ r.mark =
    same_Some (mark_seen (seen_in (r.place + 1) line (kind_at lines r.place) (open_block (take r.place lines)))) r.mark
    (sym (slice_get-map mark_seen (seen lines) r.place ∙ ap (option_map mark_seen) (seen-at lines r.place r.told.within)) ∙ r.at) in
    let says : is_inert (kind line) ≡ false = ap is_inert (sym kind_is) ∙ r.plain in
    let head : is_head (kind line) ≡ false = ap is_head (sym kind_is) ∙ ap (λ (m : Mark). m.head) same ∙ no_head in
    let block : block_after (kind line) (r.place + 1) (open_block (take r.place lines)) ≡ r.mark.block =
    ap (λ k. block_after k (r.place + 1) (open_block (take r.place lines))) (sym kind_is) ∙ sym (open-after lines r.place r.told.within) ∙ r.told.block in
    indented-by (is_indented line) (words line) (r.place + 1) (open_block (take r.place lines)) says head (λ none. some (sym block ∙ none))

-- the kind of an indented line is seen from its first word
by-mark : (v w : List ℕ) (vs ws : List (List ℕ)) → is_mark v ≡ is_mark w → words_kind true (v ∷ vs) ≡ words_kind true (w ∷ ws)
by-mark v w vs ws same = ap (λ (m : Bool). if m then words_kind true ((33 ∷ []) ∷ []) else words_kind true ((0 ∷ []) ∷ [])) same

-- a carriage return is no blank
indented-kept : (line : List ℕ) → is_indented (line ++ 13 ∷ []) ≡ true → is_indented line ≡ true
indented-kept [] is = absurd (false≢true is)
indented-kept (b ∷ line) is = is

-- an indented line with words and a carriage return at its end is of the same kind without it
pub kept-kind : (line : List ℕ) → is_indented (line ++ 13 ∷ []) ≡ true → words line ≢ [] → kind (line ++ 13 ∷ []) ≡ kind line
kept-kind line indented some =
    let l = last-word line in
    ap (λ (i : Bool). words_kind i (words (line ++ 13 ∷ []))) indented ∙ ap (words_kind true) l.with_it ∙ by l.front l.last l.without ∙ ap (words_kind true) (sym l.without) ∙
    ap (λ (i : Bool). words_kind i (words line)) (sym (indented-kept line indented))
  where
    by : (front : List (List ℕ)) (last : List ℕ) → words line ≡ without_return front last → words_kind true (with_return front last) ≡ words_kind true (without_return front last)
    by (f ∷ front) last is = by-mark f f (with_return front last) (without_return front last) refl
    by [] [] is = absurd (some is)
    by [] (b ∷ last) is = by-mark (b ∷ (last ++ 13 ∷ [])) (b ∷ last) [] [] refl
