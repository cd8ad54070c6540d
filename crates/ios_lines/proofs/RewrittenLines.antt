-- A line of which one word is another may take its place.
use Rattle.std.proofs.Common.{◌≡◌, ◌≢◌, ℕ, zero, suc, ◌+◌, ◌-◌, ◌<◌, ◌≤◌, ◌⊎◌, inl, inr, nat_lt, Bool, true, false, cond, List, [], ◌∷◌}
use Rattle.std.proofs.Common.{◌++◌, map, length, length-append, length-take-le, take, slice_get, get_or, Some, refl, sym, ap, subst, ◌∙◌, arith, ⊎_elim, slice_index, slice_range, IsFalse, append-nil}
use Rattle.std.proofs.lemmas.Bool.{cases_eq, cases_lt, and_parts, ltb-true, cond-false}
use Rattle.std.proofs.lemmas.List.{nil_from_length, length-map}
use Rattle.std.proofs.lemmas.Option.{same_Some, none-some, slice_get-map}
use Rattle.std.specs.Prelude.{option_map}
use Rattle.arc_base.specs.declared.span.Span.{Span}
use Rattle.ios_lines.specs.declared.kind.Kind.{Kind}
use Rattle.ios_lines.specs.declared.kind.Kind.TheVariants.{Blank, Comment, Remark, Inner, Single, Head, Banner}
use Rattle.ios_lines.specs.declared.line.Line.{Line}
use Rattle.ios_lines.specs.Texts.{part, IsLine, Join, text_lines, bytes_of}
use Rattle.ios_lines.specs.Words.{AreWords}
use Rattle.arc_base.specs.Words.{is_blank, words}
use Rattle.ios_lines.specs.Kinds.{is_head, is_indented, is_inert, is_mark, kind, kind_at, words_kind, top_kind, is_banner, opens_block}
use Rattle.ios_lines.specs.Reading.{block_after}
use Rattle.ios_lines.specs.Views.{Mark, mark_of, line_marks, open_block}
use Rattle.ios_lines.specs.Changes.{replaced}
use Rattle.ios_lines.specs.Ended.{IsFree, HasNoReturn}
use Rattle.ios_lines.specs.Written.{is_plain}
use Rattle.ios_lines.specs.Rewritten.{rewritten, AWordMayBeReplaced}
use Rattle.ios_lines.proofs.ChangedTexts.{mark-there, rows-tell, no-banner-line}
use Rattle.ios_lines.proofs.EndedLines.{free-part, front-at, after-at}
use Rattle.ios_lines.proofs.LineSteps.{line-bounds}
use Rattle.ios_lines.proofs.Replacements.{kind-there}
use Rattle.ios_lines.proofs.RewrittenWords.{WordAt, word-at, words-rewritten}
use Rattle.ios_lines.proofs.Slices.{slice-at, slice-cut, length-slice_range}
use Rattle.ios_lines.proofs.WrittenLines.{each-at, plain-filled}

-- a row is a line of its text
pub row-line : (text : List ℕ) (at : ℕ) (rows : List Line) (place : ℕ) (row : Line) → Join text at rows → slice_get rows place ≡ Some row → IsLine text row.span.from row.span.to row.end
row-line text at [] place row join is = absurd (none-some row is)
row-line text at (r ∷ rows) zero row join is =
    let same : r ≡ row = same_Some r row is in
    subst (λ (l : Line). IsLine text l.span.from l.span.to l.end) same (subst (λ from. IsLine text from r.span.to r.end) (sym join.0) join.1)
row-line text at (r ∷ rows) (suc place) row join is = row-line text (r.span.to + r.end) rows place row join.2 is

-- bytes of two parts
free-append : (xs ys : List ℕ) → IsFree xs → IsFree ys → IsFree (xs ++ ys)
free-append xs ys one two place low feed = ⊎_elim
    (λ front. one place front (sym (front-at xs ys place front) ∙ feed))
    (λ back.
    let there : place ≡ length xs + (place - length xs) = omega arith in
    two (place - length xs) (let long = length-append xs ys in omega arith) (sym (after-at xs ys (place - length xs) place there) ∙ feed))
    (cases_lt place (length xs))

last-append : (xs ys : List ℕ) → 0 < length ys → slice_index (xs ++ ys) (length (xs ++ ys) - 1) ≡ slice_index ys (length ys - 1)
last-append xs ys some = let long = length-append xs ys in after-at xs ys (length ys - 1) (length (xs ++ ys) - 1) (omega arith)

plain-byte : (word : List ℕ) (k : ℕ) → is_plain word ≡ true → k < length word → 32 < slice_index word k
plain-byte word k plain low = ltb-true _ _ (each-at (nat_lt 32) word k (and_parts _ _ plain).1 low)

plain-free : (word : List ℕ) → is_plain word ≡ true → IsFree word
plain-free word plain place low feed = let high = plain-byte word place plain low in absurd (omega arith)

-- whether a line is indented is seen from its front
indented-front : (front one two : List ℕ) → 0 < length front → is_indented (front ++ one) ≡ is_indented (front ++ two)
indented-front [] one two some = absurd (omega arith)
indented-front (b ∷ front) one two some = refl

first-blank : (line : List ℕ) → is_indented line ≡ true → (0 < length line) × (is_blank (slice_index line 0) ≡ true)
first-blank [] is = absurd cc
first-blank (b ∷ line) is = (omega arith, is)

-- the kinds of lines whose first two words are the same
kind-later : (indented : Bool) (ws : List (List ℕ)) (k : ℕ) (other : List ℕ) → 2 ≤ k → k < length ws → words_kind indented (replaced k other ws) ≡ words_kind indented ws
kind-later indented [] k other high low = refl
kind-later indented (a ∷ []) k other high low = absurd (omega arith)
kind-later indented (a ∷ b ∷ ws) zero other high low = absurd (omega arith)
kind-later indented (a ∷ b ∷ ws) (suc zero) other high low = absurd (omega arith)
kind-later true (a ∷ b ∷ ws) (suc (suc k)) other high low = refl
kind-later false (a ∷ b ∷ ws) (suc (suc k)) other high low = refl

kind-first : (ws : List (List ℕ)) (other : List ℕ) → 0 < length ws → is_mark other ≡ false → words_kind true (replaced 0 other ws) ≡ Inner
kind-first [] other some mark = absurd (omega arith)
kind-first (w ∷ ws) other some mark = cond-false (is_mark other) Remark Inner mark

-- only an indented line belongs to a block
inner-indented : (indented : Bool) (ws : List (List ℕ)) → words_kind indented ws ≡ Inner → indented ≡ true
inner-indented true ws is = refl
inner-indented false [] is = absurd cc
inner-indented false (w ∷ ws) is = absurd (no-inner (is_mark w) w ws is)
  where
    no-top : (w : List ℕ) (ws : List (List ℕ)) (b o : Bool) → cond b Banner (cond o Head Single) ≡ Inner → ⊥
    no-top w ws true o is = cc
    no-top w ws false true is = cc
    no-top w ws false false is = cc

    no-inner : (m : Bool) (w : List ℕ) (ws : List (List ℕ)) → cond m Comment (top_kind (w ∷ ws)) ≡ Inner → ⊥
    no-inner true w ws is = cc
    no-inner false w ws is = no-top w ws (is_banner (w ∷ ws)) (opens_block (w ∷ ws)) is

inner-kind : (k : Kind) (number block : ℕ) → is_inert k ≡ false → is_head k ≡ false → (block_after k number block ≡ 0 → ⊥) → k ≡ Inner
inner-kind Blank number block says head some = absurd cc
inner-kind Comment number block says head some = absurd cc
inner-kind Remark number block says head some = absurd cc
inner-kind Inner number block says head some = refl
inner-kind Single number block says head some = absurd (some refl)
inner-kind Head number block says head some = absurd cc
inner-kind Banner number block says head some = absurd cc

-- the bytes of a row are those at its place
row-bytes : (text : List ℕ) (rows : List Line) (place : ℕ) (row : Line) → slice_get rows place ≡ Some row → get_or (bytes_of text rows) place [] ≡ part text row.span
row-bytes text [] place row is = absurd (none-some row is)
row-bytes text (r ∷ rows) zero row is = ap (λ (l : Line). part text l.span) (same_Some r row is)
row-bytes text (r ∷ rows) (suc place) row is = row-bytes text rows place row is

within-spans : (spans : List Span) (k : ℕ) (span : Span) → slice_get spans k ≡ Some span → k < length spans
within-spans [] k span is = absurd (none-some span is)
within-spans (w ∷ spans) zero span is = omega arith
within-spans (w ∷ spans) (suc k) span is = let low = within-spans spans k span is in omega arith

first-later : (text : List ℕ) (at from : ℕ) (spans : List Span) → 0 < length spans → AreWords text at from spans → at < from
first-later text at from [] some words = absurd (omega arith)
first-later text at from (w ∷ spans) some (next, rest) = let low : at ≤ w.from = next.after in let long : w.from < w.to = next.some in let high : w.to ≤ from = next.within in omega arith

module _ (text : List ℕ) (row : Line) (k : ℕ) (span : Span) (other : List ℕ) (ends : IsLine text row.span.from row.span.to row.end)
    (are : AreWords text row.span.from row.span.to row.words) (is : slice_get row.words k ≡ Some span) (plain : is_plain other ≡ true) where
  abbrev before : List ℕ
  before = slice_range text row.span.from span.from

  abbrev after : List ℕ
  after = slice_range text span.to row.span.to

  at : WordAt text row.span.from row.span.to row.words k span
  at = word-at text row.span.from row.span.to row.words k span are is

  some-other : 0 < length other
  some-other = ltb-true _ _ (and_parts _ _ plain).0

  pub new-words : words (rewritten text row span other) ≡ replaced k other (map (part text) row.words)
  new-words =
      let bounds = line-bounds text row.span.from row.span.to row.end ends in
      words-rewritten text row.span.from row.span.to row.words k span other ends.ordered bounds.2 are is some-other (plain-filled other (and_parts _ _ plain).1)

  pub new-free : IsFree (rewritten text row span other)
  new-free =
      let bounds = line-bounds text row.span.from row.span.to row.end ends in
      let w = at in
      let low : row.span.from ≤ span.from = w.low in
      let some : span.from < span.to = w.some in
      let high : span.to ≤ row.span.to = w.high in
      free-append before (other ++ after) (free-part text row.span.from span.from (omega arith) (λ place from to. ends.no_feed place from (omega arith)))
      (free-append other after (plain-free other plain) (free-part text span.to row.span.to bounds.2 (λ place from to. ends.no_feed place (omega arith) to)))

  pub new-no-return : HasNoReturn (part text row.span) → HasNoReturn (rewritten text row span other)
  new-no-return old more return =
      let bounds = line-bounds text row.span.from row.span.to row.end ends in
      let w = at in
      let low : row.span.from ≤ span.from = w.low in
      let some : span.from < span.to = w.some in
      let high : span.to ≤ row.span.to = w.high in
      let written = some-other in
      let tail : 0 < length (other ++ after) = let long = length-append other after in omega arith in
      let last : slice_index (other ++ after) (length (other ++ after) - 1) ≡ 13 = sym (last-append before (other ++ after) tail) ∙ return in
      ⊎_elim
      (λ left.
      let long = length-slice_range text span.to row.span.to bounds.2 in
      let whole = length-slice_range text row.span.from row.span.to bounds.2 in
      let here : slice_index after (length after - 1) ≡ 13 = sym (last-append other after left) ∙ last in
      let place : span.to + (length after - 1) ≡ row.span.from + (length (part text row.span) - 1) = omega arith in
      let old_last : slice_index (part text row.span) (length (part text row.span) - 1) ≡ 13 =
      slice-at text row.span.from row.span.to (length (part text row.span) - 1) (omega arith) ∙ ap (slice_index text) (sym place)
      ∙ sym (slice-at text span.to row.span.to (length after - 1) (omega arith)) ∙ here in
      old (omega arith) old_last)
      (λ none.
      let gone : after ≡ [] = nil_from_length after (omega arith) in
      let alone : slice_index other (length other - 1) ≡ 13 = sym (ap (λ bs. slice_index bs (length bs - 1)) (ap (λ bs. other ++ bs) gone ∙ append-nil other)) ∙ last in
      let high_byte = plain-byte other (length other - 1) plain (omega arith) in
      omega arith)
      (cases_lt 0 (length after))

-- the kind of a line of which one word is another
kind-rewritten : (text : List ℕ) (row : Line) (k : ℕ) (span : Span) (other : List ℕ) → IsLine text row.span.from row.span.to row.end →
    AreWords text row.span.from row.span.to row.words → slice_get row.words k ≡ Some span → is_plain other ≡ true →
    words (part text row.span) ≡ map (part text) row.words → (2 ≤ k) ⊎ ((k ≡ 0) × (kind (part text row.span) ≡ Inner) × (is_mark other ≡ false)) →
    kind (rewritten text row span other) ≡ kind (part text row.span)
kind-rewritten text row k span other ends are is plain texts free =
    let bounds = line-bounds text row.span.from row.span.to row.end ends in
    let w = word-at text row.span.from row.span.to row.words k span are is in
    let low : row.span.from ≤ span.from = w.low in
    let some : span.from < span.to = w.some in
    let high : span.to ≤ row.span.to = w.high in
    let before = slice_range text row.span.from span.from in
    let whole : part text row.span ≡ before ++ slice_range text span.from row.span.to = slice-cut text row.span.from span.from row.span.to low (omega arith) in
    let long : length before ≡ span.from - row.span.from = length-slice_range text row.span.from span.from (omega arith) in
    let count = within-spans row.words k span is in
    let same_front : row.span.from < span.from → is_indented (rewritten text row span other) ≡ is_indented (part text row.span) = λ more.
    indented-front before (other ++ slice_range text span.to row.span.to) (slice_range text span.from row.span.to) (omega arith) ∙ ap is_indented (sym whole) in
    let new : row.span.from < span.from → kind (rewritten text row span other) ≡ words_kind (is_indented (part text row.span)) (replaced k other (words (part text row.span))) = λ more.
    ap (λ i. words_kind i (words (rewritten text row span other))) (same_front more)
    ∙ ap (words_kind (is_indented (part text row.span))) (new-words text row k span other ends are is plain ∙ ap (replaced k other) (sym texts)) in
    let number : length (words (part text row.span)) ≡ length row.words = ap length texts ∙ length-map row.words (part text) in
    ⊎_elim
    (λ later.
    let some_before : 0 < length (take k row.words) = let l = length-take-le k row.words (omega arith) in omega arith in
    let more : row.span.from < span.from = first-later text row.span.from span.from (take k row.words) some_before w.before in
    new more ∙ kind-later (is_indented (part text row.span)) (words (part text row.span)) k other later (omega arith))
    (λ (first : (k ≡ 0) × (kind (part text row.span) ≡ Inner) × (is_mark other ≡ false)).
    let indented : is_indented (part text row.span) ≡ true = inner-indented (is_indented (part text row.span)) (words (part text row.span)) first.1 in
    let blank = first-blank (part text row.span) indented in
    let here : slice_index (part text row.span) 0 ≡ slice_index text row.span.from = slice-at text row.span.from row.span.to 0 (omega arith) ∙ ap (slice_index text) (omega arith) in
    let more : row.span.from < span.from = ⊎_elim
    (λ same. let filled : is_blank (slice_index text span.from) ≡ false = w.filled span.from (omega arith) some in
    let both : is_blank (slice_index text span.from) ≡ true = ap (λ n. is_blank (slice_index text n)) (sym same) ∙ sym (ap is_blank here) ∙ blank.1 in absurd cc)
    (λ other_place. omega arith)
    (cases_eq row.span.from span.from) in
    new more ∙ ap (λ i. words_kind i (replaced k other (words (part text row.span)))) indented ∙ ap (λ n. words_kind true (replaced n other (words (part text row.span)))) first.0
    ∙ kind-first (words (part text row.span)) other (omega arith) first.2 ∙ sym first.1)
    free

pub a-word-replaced : AWordMayBeReplaced
a-word-replaced text lines place row k span other are cut there says word plain free =
    let ls = text_lines text in
    let mark : slice_get (line_marks text lines) place ≡ Some (mark_of text row) = slice_get-map (mark_of text) lines.rows place ∙ ap (option_map (mark_of text)) there in
    let known = mark-there text lines place (mark_of text row) are mark in
    let told = rows-tell text lines place (mark_of text row) are cut mark says in
    let ends = row-line text 0 lines.rows place row are.join there in
    let is = are.rows place row there in
    let bytes : get_or ls place [] ≡ part text row.span = ap (λ xs. get_or xs place []) (sym are.texts) ∙ row-bytes text lines.rows place row there in
    let kind_is : kind_at ls place ≡ kind (part text row.span) = kind-there ls place known.0 told.before ∙ ap kind bytes in
    let head : is_head (kind_at ls place) ≡ row.head = ap (λ (m : Mark). m.head) known.1 in
    let inert : is_inert (kind_at ls place) ≡ false = ap (λ (m : Mark). m.inert) known.1 ∙ says in
    let block : block_after (kind_at ls place) (place + 1) (open_block (take place ls)) ≡ row.block = ap (λ (m : Mark). m.block) known.1 in
    let case : (2 ≤ k) ⊎ ((k ≡ 0) × (kind (part text row.span) ≡ Inner) × (is_mark other ≡ false)) = ⊎_elim
    (λ later. inl later)
    (λ (first : (k ≡ 0) × (row.head ≡ false) × (row.block ≢ 0) × IsFalse (is_mark other)).
    inr (first.0, sym kind_is ∙ inner-kind (kind_at ls place) (place + 1) (open_block (take place ls)) inert (head ∙ first.1) (λ none. first.2 (sym block ∙ none)), first.3))
    free in
    let same : kind (rewritten text row span other) ≡ kind (part text row.span) = kind-rewritten text row k span other ends is.spans word plain (sym is.texts) case in
    record {
      may = record {
        within = known.0;
        outside = told.before;
        no_banner = subst (λ x. x ≢ Banner) (kind_is ∙ sym same) (no-banner-line (kind_at ls place) inert);
        alike = kind_is ∙ sym same;
      };
      words = new-words text row k span other ends is.spans word plain;
      free = new-free text row k span other ends is.spans word plain;
      no_return = new-no-return text row k span other ends is.spans word plain;
    }
