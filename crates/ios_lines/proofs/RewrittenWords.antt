-- A line of which one word is another.
use Rattle.std.proofs.Common.{◌≡◌, ℕ, zero, suc, ◌+◌, ◌-◌, ◌<◌, ◌≤◌, ◌⊎◌, inl, inr, true, false, List, [], ◌∷◌, ◌++◌, map}
use Rattle.std.proofs.Common.{length, take, drop, slice_get, Some, refl, sym, ap, subst, ◌∙◌, arith, ⊎_elim, slice_index, slice_range, IsTrue, IsFalse, append_assoc, append-nil, filter}
use Rattle.std.proofs.lemmas.Bool.{cases_eq, cases_lt, cases_Bool}
use Rattle.std.proofs.lemmas.List.{drop_more}
use Rattle.std.proofs.lemmas.List.Elements.{filter-append}
use Rattle.std.proofs.lemmas.List.Splits.{slice_split-cons_yes, slice_split-cons_no}
use Rattle.std.proofs.lemmas.Option.{same_Some, none-some}
use Rattle.std.specs.List.{slice_split, onto_first}
use Rattle.arc_base.specs.declared.span.Span.{Span}
use Rattle.ios_lines.specs.Texts.{part}
use Rattle.ios_lines.specs.Words.{AreFilled, IsNextWord, AreWords}
use Rattle.arc_base.specs.Words.{is_blank, is_filled, words}
use Rattle.ios_lines.specs.Changes.{replaced}
use Rattle.ios_lines.proofs.Slices.{slice-at, slice-cut, length-slice_range}
use Rattle.ios_lines.proofs.WordCuts.{split-first}
use Rattle.ios_lines.proofs.WordSpans.{words-after_word, spans-words, BeginsBlank}

-- the parts of a line that a blank cuts
onto-append : (x : ℕ) (xs ys : List (List ℕ)) → 0 < length xs → onto_first x (xs ++ ys) ≡ onto_first x xs ++ ys
onto-append x [] ys some = absurd (omega arith)
onto-append x (part ∷ xs) ys some = refl

split-some : (line : List ℕ) → 0 < length (slice_split is_blank line)
split-some line = let parts = split-first line in let count = ap length parts.1 in omega arith

split-cut : (xs ys : List ℕ) (b : ℕ) → is_blank b ≡ true → slice_split is_blank (xs ++ b ∷ ys) ≡ slice_split is_blank xs ++ slice_split is_blank ys
split-cut [] ys b blank = slice_split-cons_yes is_blank b ys blank
split-cut (x ∷ xs) ys b blank = ⊎_elim
    (λ yes. slice_split-cons_yes is_blank x (xs ++ b ∷ ys) yes ∙ ap (λ parts. [] ∷ parts) (split-cut xs ys b blank)
    ∙ ap (λ parts. parts ++ slice_split is_blank ys) (sym (slice_split-cons_yes is_blank x xs yes)))
    (λ no_blank. slice_split-cons_no is_blank x (xs ++ b ∷ ys) no_blank ∙ ap (onto_first x) (split-cut xs ys b blank)
    ∙ onto-append x (slice_split is_blank xs) (slice_split is_blank ys) (split-some xs)
    ∙ ap (λ parts. parts ++ slice_split is_blank ys) (sym (slice_split-cons_no is_blank x xs no_blank)))
    (cases_Bool (is_blank x))

words-cut : (xs ys : List ℕ) (b : ℕ) → is_blank b ≡ true → words (xs ++ b ∷ ys) ≡ words xs ++ words ys
words-cut xs ys b blank = ap (filter is_filled) (split-cut xs ys b blank) ∙ filter-append is_filled (slice_split is_blank xs) (slice_split is_blank ys)

-- bytes that are none, or end with a blank
abbrev EndsBlank : List ℕ → Type 0
EndsBlank bytes = (bytes ≡ []) ⊎ ((front : List ℕ) × (b : ℕ) × (bytes ≡ front ++ b ∷ []) × (is_blank b ≡ true))

words-before : (before rest : List ℕ) → EndsBlank before → words (before ++ rest) ≡ words before ++ words rest
words-before before rest (inl none) = ap (λ bs. words (bs ++ rest)) none ∙ ap (λ bs. words bs ++ words rest) (sym none)
words-before before rest (inr (front, b, is, blank)) =
    ap (λ bs. words (bs ++ rest)) is ∙ ap words (append_assoc front (b ∷ []) rest) ∙ words-cut front rest b blank
    ∙ ap (λ ws. ws ++ words rest) (sym (ap words is ∙ words-cut front [] b blank ∙ append-nil (words front)))

-- a word among others
pub words-apart : (before word after : List ℕ) → EndsBlank before → 0 < length word → ((k : ℕ) → k < length word → IsFalse (is_blank (slice_index word k))) →
    BeginsBlank after → words (before ++ (word ++ after)) ≡ words before ++ word ∷ words after
words-apart before word after ends some filled begins = words-before before (word ++ after) ends ∙ ap (λ ws. words before ++ ws) (words-after_word word after some filled begins)

-- where a word of a line stands
pub record WordAt (text : List ℕ) (at to : ℕ) (spans : List Span) (k : ℕ) (span : Span) : Type 0 where
  pub low : at ≤ span.from
  pub some : span.from < span.to
  pub high : span.to ≤ to
  pub filled : AreFilled text span.from span.to
  pub blank_before : at < span.from → IsTrue (is_blank (slice_index text (span.from - 1)))
  pub blank_after : span.to < to → IsTrue (is_blank (slice_index text span.to))
  pub before : AreWords text at span.from (take k spans)
  pub after : AreWords text span.to to (drop (k + 1) spans)

clash : {A : Type 0} → (b : ℕ) → is_blank b ≡ true → is_blank b ≡ false → A
clash b one two = let both : true ≡ false = sym one ∙ two in absurd cc

pub word-at : (text : List ℕ) (at to : ℕ) (spans : List Span) (k : ℕ) (span : Span) → AreWords text at to spans → slice_get spans k ≡ Some span → WordAt text at to spans k span
word-at text at to [] k span words is = absurd (none-some span is)
word-at text at to (w ∷ ws) zero span (next, rest) is =
    let same : w ≡ span = same_Some w span is in
    subst (λ (s : Span). WordAt text at to (w ∷ ws) 0 s) same (record {
      low = next.after;
      some = next.some;
      high = next.within;
      filled = next.filled;
      blank_before = λ more. next.blanks (w.from - 1) (omega arith) (omega arith);
      blank_after = next.whole;
      before = next.blanks;
      after = rest;
    })
word-at text at to (w ∷ ws) (suc k) span (next, rest) is =
    let deeper = word-at text w.to to ws k span rest is in
    let low : w.to ≤ span.from = deeper.low in
    let some : span.from < span.to = deeper.some in
    let high : span.to ≤ to = deeper.high in
    let first : at ≤ w.from = next.after in
    let long : w.from < w.to = next.some in
    let apart : w.to < span.from = ⊎_elim
    (λ same. clash (slice_index text span.from) (ap (λ n. is_blank (slice_index text n)) (sym same) ∙ next.whole (omega arith)) (deeper.filled span.from (omega arith) some))
    (λ other. omega arith)
    (cases_eq w.to span.from) in
    let start : IsNextWord text at span.from w = record { after = next.after; blanks = next.blanks; some = next.some; within = low; filled = next.filled; whole = λ less. next.whole (omega arith) } in
    let count : suc k + 1 ≡ suc (k + 1) = omega arith in
    record {
      low = omega arith;
      some = deeper.some;
      high = deeper.high;
      filled = deeper.filled;
      blank_before = λ more. deeper.blank_before apart;
      blank_after = deeper.blank_after;
      before = (start, deeper.before);
      after = subst (λ n. AreWords text span.to to (drop n (w ∷ ws))) (sym count) deeper.after;
    }

-- the bytes before a word end with a blank
ends-blank : (text : List ℕ) (at from : ℕ) → at ≤ from → from ≤ length text → (at < from → IsTrue (is_blank (slice_index text (from - 1)))) → EndsBlank (slice_range text at from)
ends-blank text at from low within blank = ⊎_elim
    (λ more.
    let one : from - (from - 1) ≡ 1 = omega arith in
    let last : slice_range text (from - 1) from ≡ slice_index text (from - 1) ∷ [] = ap (λ n. take n (drop (from - 1) text)) one ∙ ap (take 1) (drop_more text (from - 1) 0 (omega arith)) in
    inr (slice_range text at (from - 1), slice_index text (from - 1), slice-cut text at (from - 1) from (omega arith) (omega arith) ∙ ap (λ bs. slice_range text at (from - 1) ++ bs) last, blank more))
    (λ level. let none : from - at ≡ 0 = omega arith in inl (ap (λ n. take n (drop at text)) none))
    (cases_lt at from)

-- the items before one, another, and the items after it
replaced-parts : {A B : Type 0} → (f : A → B) (items : List A) (k : ℕ) (x : A) (other : B) → slice_get items k ≡ Some x →
    replaced k other (map f items) ≡ map f (take k items) ++ other ∷ map f (drop (k + 1) items)
replaced-parts f [] k x other is = absurd (none-some x is)
replaced-parts f (y ∷ items) zero x other is = refl
replaced-parts f (y ∷ items) (suc k) x other is =
    let count : suc k + 1 ≡ suc (k + 1) = omega arith in
    ap (λ ys. f y ∷ ys) (replaced-parts f items k x other is) ∙ ap (λ n. f y ∷ (map f (take k items) ++ other ∷ map f (drop n (y ∷ items)))) (sym count)

-- the words of a line of which one is another
pub words-rewritten : (text : List ℕ) (at to : ℕ) (spans : List Span) (k : ℕ) (span : Span) (other : List ℕ) → at ≤ to → to ≤ length text → AreWords text at to spans → slice_get spans k ≡ Some span →
    0 < length other → ((place : ℕ) → place < length other → IsFalse (is_blank (slice_index other place))) →
    words (slice_range text at span.from ++ (other ++ slice_range text span.to to)) ≡ replaced k other (map (part text) spans)
words-rewritten text at to spans k span other order within are is some filled =
    let w = word-at text at to spans k span are is in
    let low : at ≤ span.from = w.low in
    let long : span.from < span.to = w.some in
    let high : span.to ≤ to = w.high in
    let left = length-slice_range text span.to to within in
    let begins : BeginsBlank (slice_range text span.to to) = λ more. ap is_blank (slice-at text span.to to 0 (omega arith) ∙ ap (slice_index text) (omega arith)) ∙ w.blank_after (omega arith) in
    words-apart (slice_range text at span.from) other (slice_range text span.to to) (ends-blank text at span.from low (omega arith) w.blank_before) some filled begins
    ∙ ap (λ ws. ws ++ other ∷ words (slice_range text span.to to)) (sym (spans-words text at span.from (take k spans) low (omega arith) w.before))
    ∙ ap (λ ws. map (part text) (take k spans) ++ other ∷ ws) (sym (spans-words text span.to to (drop (k + 1) spans) high within w.after))
    ∙ sym (replaced-parts (part text) spans k span other is)
