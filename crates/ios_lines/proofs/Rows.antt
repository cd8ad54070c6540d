-- One more line, and its row.
use Rattle.std.proofs.Common.{◌≡◌, ℕ, suc, ◌+◌, ◌-◌, ◌<◌, ◌≤◌, true, false, List, [], ◌∷◌, ◌++◌, map}
use Rattle.std.proofs.Common.{length, length-drop, take, drop, get_or, slice_range, sym, ap, subst, ◌∙◌, arith, ⊎_elim, add-one, None, IsSome}
use Rattle.std.proofs.lemmas.Bool.{cases_eq}
use Rattle.std.proofs.lemmas.List.{drop_more, take_more}
use Rattle.std.proofs.lemmas.List.Sums.{fold-append}
use Rattle.ios_lines.specs.declared.kind.Kind.{Kind}
use Rattle.ios_lines.specs.declared.kind.Kind.TheVariants.{Inner}
use Rattle.ios_lines.specs.declared.line.Line.{Line}
use Rattle.ios_lines.specs.declared.reading.Open.{Open}
use Rattle.ios_lines.specs.Texts.{part, IsLine, text_lines}
use Rattle.ios_lines.specs.Words.{AreWords}
use Rattle.arc_base.specs.Words.{words}
use Rattle.ios_lines.specs.Kinds.{after_line, kind_at, kind_within, is_head, is_inert, open_banner}
use Rattle.ios_lines.specs.Blocks.{IsOpenBlock, IsOrphan, IsFirstOrphan, IsUnclosed}
use Rattle.ios_lines.specs.Lines.{HasOrphanAt}
use Rattle.ios_lines.specs.Reading.{block_after, first_after, is_alone, Stands, IsNext}
use Rattle.ios_lines.proofs.LineSteps.{line-step, line-bounds}
use Rattle.ios_lines.proofs.WordSpans.{words-inside}
use Rattle.ios_lines.proofs.OpenBlocks.{alone, open-step, no-orphan, unclosed-step}

-- where a list goes on with an item, that item stands there
pub record At (lines : List (List ℕ)) (count : ℕ) (line : List ℕ) (rest : List (List ℕ)) : Type 0 where
  pub more : count < length lines
  pub here : get_or lines count [] ≡ line
  pub left : drop (count + 1) lines ≡ rest
  pub front : take (count + 1) lines ≡ take count lines ++ line ∷ []

pub stands_at : (lines : List (List ℕ)) (count : ℕ) (line : List ℕ) (rest : List (List ℕ)) → drop count lines ≡ line ∷ rest → At lines count line rest
stands_at lines count line rest is =
    let some : length lines - count ≡ suc (length rest) = sym (length-drop count lines) ∙ ap length is in
    let more : count < length lines = omega arith in
    let both : get_or lines count [] ∷ drop (count + 1) lines ≡ line ∷ rest = sym (drop_more lines count [] more) ∙ is in
    let here : get_or lines count [] ≡ line = cc in
    record { more = more; here = here; left = cc; front = take_more lines count [] more ∙ ap (λ l. take count lines ++ l ∷ []) here }

-- what the next line is
kind-here : (lines : List (List ℕ)) (state : Open) (line : List ℕ) (rest : List (List ℕ)) (k : Kind) → At lines state.count line rest →
    state.banner ≡ open_banner (take state.count lines) → k ≡ kind_within state.banner line → kind_at lines state.count ≡ k
kind-here lines state line rest k there banner is =
    ap (λ l. kind_within (open_banner (take state.count lines)) l) there.here ∙ ap (λ b. kind_within b line) (sym banner) ∙ sym is

-- the banner that is open after the next line
banner-step : (lines : List (List ℕ)) (state : Open) (line : List ℕ) (rest : List (List ℕ)) → At lines state.count line rest →
    state.banner ≡ open_banner (take state.count lines) → open_banner (take (state.count + 1) lines) ≡ after_line state.banner line
banner-step lines state line rest there banner =
    ap open_banner there.front ∙ fold-append after_line None (take state.count lines) (line ∷ []) ∙ ap (λ b. after_line b line) (sym banner)

-- the orphan that the code finds is the first
pub orphan-here : (text : List ℕ) (at to end : ℕ) (state : Open) (k : Kind) → at < length text → Stands text at state → IsLine text at to end →
    k ≡ kind_within state.banner (slice_range text at to) → is_alone k state.block ≡ true → HasOrphanAt text (state.count + 1)
orphan-here text at to end state k some stands line is test =
    let next : drop state.count (text_lines text) ≡ slice_range text at to ∷ text_lines (drop (to + end) text) = stands.lines ∙ line-step text at to end some line in
    let there = stands_at (text_lines text) state.count _ _ next in
    let both = alone k state.block test in
    let kind : kind_at (text_lines text) state.count ≡ Inner = kind-here (text_lines text) state _ _ k there stands.banner is ∙ both.0 in
    let orphan : IsOrphan (text_lines text) state.count = record { within = there.more; inner = kind; alone = subst (IsOpenBlock (kind_at (text_lines text)) state.count) both.1 stands.block } in
    subst (IsFirstOrphan (text_lines text)) (sym (add-one state.count)) (orphan, stands.no_orphan)

module _ (text : List ℕ) (at : ℕ) (state after : Open) (line : Line) (k : Kind) (some : at < length text) (stands : Stands text at state) (begins : line.span.from ≡ at)
    (ends : IsLine text at line.span.to line.end)
    (is : k ≡ kind_within state.banner (slice_range text at line.span.to)) (test : is_alone k state.block ≡ false)
    (count : after.count ≡ state.count + 1) (block : after.block ≡ block_after k (state.count + 1) state.block) (banner : after.banner ≡ after_line state.banner (slice_range text at line.span.to))
    (first : after.first ≡ first_after state.banner (state.count + 1) state.first) where
  next-lines : drop state.count (text_lines text) ≡ slice_range text at line.span.to ∷ text_lines (drop (line.span.to + line.end) text)
  next-lines = stands.lines ∙ line-step text at line.span.to line.end some ends

  next-at : At (text_lines text) state.count (slice_range text at line.span.to) (text_lines (drop (line.span.to + line.end) text))
  next-at = stands_at (text_lines text) state.count _ _ next-lines

  next-kind : kind_at (text_lines text) state.count ≡ k
  next-kind = kind-here (text_lines text) state _ _ k next-at stands.banner is

  next-banner : open_banner (take (state.count + 1) (text_lines text)) ≡ after.banner
  next-banner = banner-step (text_lines text) state _ _ next-at stands.banner ∙ sym banner

  next-block : IsOpenBlock (kind_at (text_lines text)) (state.count + 1) after.block
  next-block = subst (IsOpenBlock (kind_at (text_lines text)) (state.count + 1)) (sym block) (open-step (kind_at (text_lines text)) state.count state.block k next-kind stands.block)

  next-orphans : (place : ℕ) → place < after.count → ¬ IsOrphan (text_lines text) place
  next-orphans place low orphan = ⊎_elim
      (λ last. no-orphan (text_lines text) state.count state.block k next-kind stands.block test (subst (IsOrphan (text_lines text)) last orphan))
      (λ other. stands.no_orphan place (omega arith) orphan)
      (cases_eq place state.count)

  next-first : IsSome after.banner → IsUnclosed (text_lines text) after.count after.first
  next-first open_after =
      let still : IsSome (open_banner (take (state.count + 1) (text_lines text))) = subst IsSome (sym next-banner) open_after in
      subst (λ n. IsUnclosed (text_lines text) n after.first) (sym count) (subst (IsUnclosed (text_lines text) (state.count + 1)) (sym first)
      (unclosed-step (text_lines text) state.count state.first state.banner stands.banner stands.first still))

  pub next-stands : Stands text (line.span.to + line.end) after
  next-stands =
      let bounds = line-bounds text at line.span.to line.end ends in
      let few : state.count ≤ at = stands.few in
      let more : state.count < length (text_lines text) = next-at.more in
      record {
        within = bounds.1;
        few = omega arith;
        counted = omega arith;
        lines = ap (λ n. drop n (text_lines text)) count ∙ next-at.left;
        banner = sym next-banner ∙ ap (λ n. open_banner (take n (text_lines text))) (sym count);
        block = subst (λ n. IsOpenBlock (kind_at (text_lines text)) n after.block) (sym count) next-block;
        first = next-first;
        no_orphan = next-orphans;
      }

  pub is-next : line.block ≡ after.block → line.head ≡ is_head k → line.inert ≡ is_inert k → AreWords text at line.span.to line.words →
      map (part text) line.words ≡ words (slice_range text at line.span.to) → IsNext text at state line after
  is-next same_block head inert spans texts =
      let bounds = line-bounds text at line.span.to line.end ends in
      let here : part text line.span ≡ slice_range text at line.span.to = ap (λ from. slice_range text from line.span.to) begins in
      record {
        begins = begins;
        ends = ends;
        bytes = next-lines ∙ ap (λ l. l ∷ text_lines (drop (line.span.to + line.end) text)) (sym here)
            ∙ ap (λ rest. part text line.span ∷ rest) (sym (ap (λ n. drop n (text_lines text)) count ∙ next-at.left));
        row = record {
          spans = subst (λ from. AreWords text from line.span.to line.words) (sym begins) spans;
          texts = texts ∙ ap words (sym here);
          block = subst (IsOpenBlock (kind_at (text_lines text)) (state.count + 1)) (sym same_block) next-block;
          head = head ∙ ap is_head (sym next-kind);
          inert = inert ∙ ap is_inert (sym next-kind);
        };
        inside = words-inside text at line.span.to line.words bounds.2 spans;
        count = count;
        stands = next-stands;
      }
