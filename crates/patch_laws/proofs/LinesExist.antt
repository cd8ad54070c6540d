-- Each text that can be cut has lines.
use Rattle.std.proofs.Common.{◌≡◌, ◌≢◌, ℕ, zero, suc, ◌+◌, ◌-◌, ◌<◌, ◌≤◌, ◌==◌, inl, inr, Bool, true, false, not, List, [], ◌∷◌, map, length, drop, slice_get, slice_index, slice_range, Some}
use Rattle.std.proofs.Common.{None, refl, sym, ap, subst, ◌∙◌, arith, ⊎_elim, All}
use Rattle.std.proofs.lemmas.Bool.{cases_lt, cases_eq, cases_Bool, eqb-true, eqb-false, false≢true, not-true, not-false}
use Rattle.std.proofs.lemmas.List.{drop_all}
use Rattle.std.proofs.lemmas.List.Elements.{All-nil, All-cons}
use Rattle.std.proofs.lemmas.Option.{none-some, same_Some}
use Rattle.bstr.specs.Text.{without_terminator}
use Rattle.bstr.proofs.lemmas.LineLemmas.{lines-nil}
use Rattle.arc_base.specs.declared.span.Span.{Span}
use Rattle.ios_lines.specs.declared.line.Line.{Line}
use Rattle.ios_lines.specs.declared.line.Lines.{Lines}
use Rattle.ios_lines.specs.Blocks.{IsOrphan, IsFirstOrphan}
use Rattle.ios_lines.specs.Texts.{part, HasWordsIn, IsLine, Join, bytes_of, text_lines}
use Rattle.ios_lines.specs.Words.{AreWords}
use Rattle.arc_base.specs.Words.{is_blank}
use Rattle.ios_lines.specs.Kinds.{after_line, kind_within, is_head, is_inert}
use Rattle.ios_lines.specs.Lines.{IsRow, AreLinesOf, HasOrphanAt}
use Rattle.ios_lines.specs.Reading.{block_after, first_after, is_alone, Stands}
use Rattle.ios_lines.proofs.WordSpans.{spans-words}
use Rattle.ios_lines.proofs.LineSteps.{line-bounds}
use Rattle.ios_lines.proofs.Rows.{orphan-here, is-next}

-- the first place from one on where this holds, or the end
pub record Found (p : ℕ → Bool) (at to : ℕ) : Type 0 where
  pub place : ℕ
  pub low : at ≤ place
  pub high : place ≤ to
  pub before : (k : ℕ) → at ≤ k → k < place → p k ≡ false
  pub there : place < to → p place ≡ true

found : (p : ℕ → Bool) (at to n : ℕ) → at + n ≡ to → Found p at to
found p at to zero e = record { place = at; low = omega arith; high = omega arith; before = λ k low high. absurd (omega arith); there = λ low. absurd (omega arith) }
found p at to (suc n) e = by (p at) refl (found p (suc at) to n (omega arith))
  where
    by : (b : Bool) → p at ≡ b → Found p (suc at) to → Found p at to
    by true is rest = record { place = at; low = omega arith; high = omega arith; before = λ k low high. absurd (omega arith); there = λ low. is }
    by false is rest =
        let low : suc at ≤ rest.place = rest.low in
        record {
          place = rest.place;
          low = omega arith;
          high = rest.high;
          before = λ k from to. ⊎_elim (λ (same : k ≡ at). ap p same ∙ is) (λ (other : k ≡ at → ⊥). rest.before k (omega arith) to) (cases_eq k at);
          there = rest.there;
        }

differ : {A : Type 0} → (b : Bool) → b ≡ true → b ≡ false → A
differ b one two = let clash : true ≡ false = sym one ∙ two in absurd cc

-- the words between two places
pub record Spans (text : List ℕ) (at to : ℕ) : Type 0 where
  pub words : List Span
  pub are : AreWords text at to words

module _ (text : List ℕ) (to n at : ℕ) (f : Found (λ k. not (is_blank (slice_index text k))) at to) (more : (next : ℕ) → next ≤ to → to ≤ next + n → Spans text next to) (room : to ≤ at + suc n) where
  all-blank : to ≤ f.place → Spans text at to
  all-blank last = record { words = []; are = λ k from below. not-false (is_blank (slice_index text k)) (f.before k from (omega arith)) }

  one-word : f.place < to → Found (λ k. is_blank (slice_index text k)) f.place to → Spans text at to
  one-word inside g =
      let after : at ≤ f.place = f.low in
      let filled : is_blank (slice_index text f.place) ≡ false = not-true (is_blank (slice_index text f.place)) (f.there inside) in
      let within : g.place ≤ to = g.high in
      let start : f.place ≤ g.place = g.low in
      let some : f.place < g.place = ⊎_elim
      (λ (low : f.place < g.place). low)
      (λ (high : g.place ≤ f.place).
      let same : g.place ≡ f.place = omega arith in
      differ (is_blank (slice_index text f.place)) (ap (λ (k : ℕ). is_blank (slice_index text k)) (sym same) ∙ g.there (omega arith)) filled)
      (cases_lt f.place g.place) in
      let rest = more g.place within (omega arith) in
      record {
        words = record { from = f.place; to = g.place } ∷ rest.words;
        are = (
          record {
            after = f.low;
            blanks = λ k from below. not-false (is_blank (slice_index text k)) (f.before k from below);
            some = some;
            within = within;
            filled = λ k from below. g.before k from below;
            whole = g.there;
          },
          rest.are,
        );
      }

  some-words : Spans text at to
  some-words = ⊎_elim
      (λ (inside : f.place < to). one-word inside (found (λ k. is_blank (slice_index text k)) f.place to (to - f.place) (omega arith)))
      (λ (last : to ≤ f.place). all-blank last)
      (cases_lt f.place to)

spans : (text : List ℕ) (to n at : ℕ) → at ≤ to → to ≤ at + n → Spans text at to
spans text to zero at low high = record { words = []; are = λ k from below. absurd (omega arith) }
spans text to (suc n) at low high =
    some-words text to n at (found (λ k. not (is_blank (slice_index text k))) at to (to - at) (omega arith)) (spans text to n) high

-- the line that begins at a place
pub record NextLine (text : List ℕ) (at : ℕ) : Type 0 where
  pub to : ℕ
  pub end : ℕ
  pub is : IsLine text at to end

module _ (text : List ℕ) (at : ℕ) (some : at < length text) where
  feed-line : (k : ℕ) → at ≤ k → k < length text → slice_index text k ≡ 10 → ((j : ℕ) → at ≤ j → j < k → slice_index text j ≢ 10) → NextLine text at
  feed-line k low high feed free = ⊎_elim
      (λ (more : at < k). ⊎_elim
      (λ (return : slice_index text (k - 1) ≡ 13).
      let place : k - 1 + 1 ≡ k = omega arith in
      record { to = k - 1; end = 2; is = record { ordered = omega arith; no_feed = λ j from below. free j from (omega arith); ending = (omega arith, return, ap (slice_index text) place ∙ feed) } })
      (λ (other : slice_index text (k - 1) ≢ 13). record { to = k; end = 1; is = record { ordered = low; no_feed = free; ending = (high, feed, λ _. other) } })
      (cases_eq (slice_index text (k - 1)) 13))
      (λ (none : k ≤ at). record { to = k; end = 1; is = record { ordered = low; no_feed = free; ending = (high, feed, λ (below : at < k). absurd (omega arith)) } })
      (cases_lt at k)

  by-feed : Found (λ k. slice_index text k == 10) at (length text) → NextLine text at
  by-feed f = ⊎_elim
      (λ (inside : f.place < length text). feed-line f.place f.low inside (eqb-true (slice_index text f.place) 10 (f.there inside))
      (λ j from below. eqb-false (slice_index text j) 10 (f.before j from below)))
      (λ (last : length text ≤ f.place).
      let high : f.place ≤ length text = f.high in
      record { to = f.place; end = 0; is = record { ordered = f.low; no_feed = λ j from below. eqb-false (slice_index text j) 10 (f.before j from below); ending = (omega arith, omega arith) } })
      (cases_lt f.place (length text))

  pub next-line : NextLine text at
  next-line = by-feed (found (λ k. slice_index text k == 10) at (length text) (length text - at) (omega arith))

-- the rows from a place on
pub record Rest (text : List ℕ) (at count : ℕ) : Type 0 where
  pub rows : List Line
  pub join : Join text at rows
  pub texts : bytes_of text rows ≡ drop count (text_lines text)
  pub inside : All (HasWordsIn text) rows
  pub each : (place : ℕ) (line : Line) → slice_get rows place ≡ Some line → IsRow text (count + place) line

each-row : (text : List ℕ) (count : ℕ) (line : Line) (rows : List Line) → IsRow text count line →
    ((place : ℕ) (l : Line) → slice_get rows place ≡ Some l → IsRow text (count + 1 + place) l) → (place : ℕ) (l : Line) → slice_get (line ∷ rows) place ≡ Some l → IsRow text (count + place) l
each-row text count line rows first rest zero l is = let same : count ≡ count + 0 = omega arith in subst (λ (n : ℕ). IsRow text n l) same (subst (IsRow text count) (same_Some line l is) first)
each-row text count line rows first rest (suc place) l is = let same : count + 1 + place ≡ count + suc place = omega arith in subst (λ (n : ℕ). IsRow text n l) same (rest place l is)

pub record HasLines (text : List ℕ) : Type 0 where
  pub lines : Lines
  pub are : AreLinesOf text lines

module _ (text : List ℕ) (none : (number : ℕ) → ¬ HasOrphanAt text number) where
  end-here : (at : ℕ) (state : _) → Stands text at state → length text ≤ at → Rest text at state.count
  end-here at state stands last =
      let within : at ≤ length text = stands.within in
      let gone : drop state.count (text_lines text) ≡ [] = stands.lines ∙ ap text_lines (drop_all at text last) ∙ ap (map without_terminator) lines-nil in
      record { rows = []; join = omega arith; texts = sym gone; inside = All-nil (HasWordsIn text); each = λ place line is. absurd (none-some line is) }

  row-here : (at : ℕ) (state : _) → Stands text at state → at < length text → (next : NextLine text at) → Spans text at next.to →
      ((to : ℕ) (after : _) → Stands text to after → at < to → Rest text to after.count) → Rest text at state.count
  row-here at state stands some next spans more =
      let k = kind_within state.banner (slice_range text at next.to) in
      let bytes : List ℕ = slice_range text at next.to in
      let line : Line = record {
        span = record { from = at; to = next.to };
        end = next.end;
        block = block_after k (state.count + 1) state.block;
        head = is_head k;
        inert =
            is_inert k;
        words = spans.words;
      } in
      let bounds = line-bounds text at next.to next.end next.is in
      let test : is_alone k state.block ≡ false = ⊎_elim
      (λ (yes : is_alone k state.block ≡ true). absurd (none (state.count + 1) (orphan-here text at next.to next.end state k some stands next.is refl yes)))
      (λ (no : is_alone k state.block ≡ false). no)
      (cases_Bool (is_alone k state.block)) in
      let low : at ≤ next.to = next.is.ordered in
      let is = is-next text at state
      (record {
        count = state.count + 1;
        block = block_after k (state.count + 1) state.block;
        banner = after_line state.banner bytes;
        first =
            first_after state.banner (state.count + 1) state.first;
      }) line k
      some stands refl next.is refl test refl refl refl refl refl refl refl spans.are (spans-words text at next.to spans.words low bounds.2 spans.are) in
      let rest : Rest text (next.to + next.end) (state.count + 1) = more (next.to + next.end) _ is.stands bounds.0 in
      record {
        rows = line ∷ rest.rows;
        join = (refl, next.is, rest.join);
        texts = ap (λ (ls : List (List ℕ)). part text line.span ∷ ls) rest.texts ∙ sym is.bytes;
        inside = All-cons (HasWordsIn text) line rest.rows is.inside rest.inside;
        each = each-row text state.count line rest.rows is.row rest.each;
      }

  rest-from : (n at : ℕ) (state : _) → Stands text at state → length text ≤ at + n → Rest text at state.count
  rest-from zero at state stands room = end-here at state stands (omega arith)
  rest-from (suc n) at state stands room =
      ⊎_elim
      (λ (some : at < length text).
      let next = next-line text at some in
      let low : at ≤ next.to = next.is.ordered in
      row-here at state stands some next (spans text next.to (next.to - at) at low (omega arith)) (λ to after there more. rest-from n to after there (omega arith)))
      (λ (last : length text ≤ at). end-here at state stands last)
      (cases_lt at (length text))

  pub lines-exist : HasLines text
  lines-exist =
      let stands : Stands text 0 (record { count = 0; block = 0; banner = None; first = 0 }) = record {
        within = omega arith;
        few = omega arith;
        counted = omega arith;
        lines = refl;
        banner = refl;
        block = λ head heads. let low : head < 0 = heads.before in omega arith;
        first = λ some. absurd (false≢true some);
        no_orphan = λ place low. absurd (omega arith);
      } in
      let rest = rest-from (length text) 0 (record { count = 0; block = 0; banner = None; first = 0 }) stands (omega arith) in
      record {
        lines = record { rows = rest.rows };
        are = record {
          join = rest.join;
          texts = rest.texts;
          inside = rest.inside;
          rows = λ place line is. let same : 0 + place ≡ place =
              omega arith in subst (λ (n : ℕ). IsRow text n line) same (rest.each place line is);
        };
      }

-- no line is an orphan where none is the first one
pub no_orphans : (lines : List (List ℕ)) → ((n : ℕ) → ¬ IsFirstOrphan lines n) → (n k : ℕ) → k < n → ¬ IsOrphan lines k
no_orphans lines none zero k low o = omega (arith, low)
no_orphans lines none (suc n) k low o = elim (cases_lt k n) [
  | inl before ↦ no_orphans lines none n k before o
  | inr last ↦
      let same : k ≡ n = omega (arith, low, last) in
      none (suc n) (subst (λ (m : ℕ). IsOrphan lines m) same o, λ earlier below. no_orphans lines none n earlier below)
]
