-- The rows so far, and what stands at the end of a text.
use Rattle.std.proofs.Common.{◌≡◌, ℕ, zero, suc, ◌+◌, ◌-◌, ◌<◌, ◌≤◌, ◌⊎◌, inl, inr, List, [], ◌∷◌, ◌++◌, map, length, length-drop}
use Rattle.std.proofs.Common.{take, drop, slice_get, refl, sym, ap, subst, ◌∙◌, arith, ⊎_elim, append-nil, append_assoc, Some, None, IsSome, is_some, true, false, All}
use Rattle.std.proofs.lemmas.List.{map-append, drop_all, take_all}
use Rattle.std.proofs.lemmas.List.Elements.{All-nil, All-cons, All-append}
use Rattle.std.proofs.lemmas.Option.{none-some, same_Some}
use Rattle.bstr.specs.Text.{without_terminator}
use Rattle.bstr.proofs.lemmas.LineLemmas.{lines-nil}
use Rattle.ios_lines.specs.declared.line.Line.{Line}
use Rattle.ios_lines.specs.declared.reading.Open.{Open}
use Rattle.ios_lines.specs.Texts.{part, HasWordsIn, Join, bytes_of, text_lines}
use Rattle.ios_lines.specs.Kinds.{open_banner}
use Rattle.ios_lines.specs.Blocks.{IsUnclosed}
use Rattle.ios_lines.specs.Lines.{IsRow, AreLinesOf, HasOrphanAt, HasOpenBannerAt}
use Rattle.ios_lines.specs.Reading.{Stands, IsNext}
use Rattle.ios_lines.proofs.Rows.{stands_at}

-- the items of a list and one more
one-more : {X : Type 0} (xs : List X) (y x : X) (place : ℕ) → slice_get (xs ++ y ∷ []) place ≡ Some x → (slice_get xs place ≡ Some x) ⊎ ((place ≡ length xs) × (y ≡ x))
one-more [] y x zero is = inr (refl, same_Some y x is)
one-more [] y x (suc place) is = absurd (none-some x is)
one-more (z ∷ xs) y x zero is = inl is
one-more (z ∷ xs) y x (suc place) is = ⊎_elim (λ before. inl before) (λ last. inr (ap suc last.0, last.1)) (one-more xs y x place is)

module _ (text : List ℕ) (at : ℕ) (state after : Open) (line : Line) (rows : List Line) (next : IsNext text at state line after) where
  pub join-more : ((rest : List Line) → Join text at rest → Join text 0 (rows ++ rest)) → (rest : List Line) → Join text (line.span.to + line.end) rest → Join text 0 ((rows ++ line ∷ []) ++ rest)
  join-more join rest joined = subst (Join text 0) (sym (append_assoc rows (line ∷ []) rest)) (join (line ∷ rest) (next.begins, next.ends, joined))

  pub texts-more : bytes_of text rows ≡ take state.count (text_lines text) → bytes_of text (rows ++ line ∷ []) ≡ take after.count (text_lines text)
  texts-more texts =
      let there = stands_at (text_lines text) state.count _ _ next.bytes in
      map-append (λ (l : Line). part text l.span) rows (line ∷ []) ∙ ap (λ front. front ++ part text line.span ∷ []) texts
      ∙ sym (ap (λ n. take n (text_lines text)) next.count ∙ there.front)

  pub inside-more : All (HasWordsIn text) rows → All (HasWordsIn text) (rows ++ line ∷ [])
  inside-more all = All-append (HasWordsIn text) rows (line ∷ []) all (All-cons (HasWordsIn text) line [] next.inside (All-nil (HasWordsIn text)))

  pub rows-more : length rows ≡ state.count → ((place : ℕ) (l : Line) → slice_get rows place ≡ Some l → IsRow text place l) → (place : ℕ) (l : Line) →
      slice_get (rows ++ line ∷ []) place ≡ Some l → IsRow text place l
  rows-more count all place l is = ⊎_elim
      (λ before. all place l before)
      (λ last. subst (λ n. IsRow text n l) (sym (last.0 ∙ count)) (subst (IsRow text state.count) last.1 next.row))
      (one-more rows line l place is)

module _ (text : List ℕ) (at : ℕ) (state : Open) (stands : Stands text at state) (end : length text ≤ at) where
  -- no line is left
  pub all-lines : state.count ≡ length (text_lines text)
  all-lines =
      let gone : drop state.count (text_lines text) ≡ [] = stands.lines ∙ ap text_lines (drop_all at text end) ∙ ap (map without_terminator) lines-nil in
      let left : length (text_lines text) - state.count ≡ 0 = sym (length-drop state.count (text_lines text)) ∙ ap length gone in
      let counted : state.count ≤ length (text_lines text) = stands.counted in
      omega arith

  pub no-orphans : (number : ℕ) → HasOrphanAt text number → ⊥
  no-orphans zero is = is
  no-orphans (suc place) is =
      let within : place < length (text_lines text) = is.0.within in
      let all = all-lines in
      stands.no_orphan place (omega arith) is.0

  pub no-banner : state.banner ≡ None → (number : ℕ) → HasOpenBannerAt text number → ⊥
  no-banner closed zero is = is
  no-banner closed (suc place) is =
      let within : place < length (text_lines text) = is.within in
      let some : IsSome (open_banner (take state.count (text_lines text))) =
      subst (λ n. IsSome (open_banner (take n (text_lines text)))) (sym all-lines) (is.stays (length (text_lines text)) within (omega arith)) in
      let none : open_banner (take state.count (text_lines text)) ≡ None = sym stands.banner ∙ closed in
      let yes : is_some (open_banner (take state.count (text_lines text))) ≡ true = some in
      let no : is_some (open_banner (take state.count (text_lines text))) ≡ false = ap is_some none in
      cc

  pub open-banner : IsSome state.banner → HasOpenBannerAt text state.first
  open-banner still = subst (λ n. IsUnclosed (text_lines text) n state.first) all-lines (stands.first still)

  pub are-lines : (rows : List Line) → ((rest : List Line) → Join text at rest → Join text 0 (rows ++ rest)) →
      bytes_of text rows ≡ take state.count (text_lines text) → All (HasWordsIn text) rows →
      ((place : ℕ) (l : Line) → slice_get rows place ≡ Some l → IsRow text place l) → AreLinesOf text (record { rows = rows })
  are-lines rows join texts inside all =
      let within : at ≤ length text = stands.within in
      let whole : take state.count (text_lines text) ≡ text_lines text = let count = all-lines in take_all state.count (text_lines text) (omega arith) in
      record {
        join = subst (Join text 0) (append-nil rows) (join [] (omega arith));
        texts = texts ∙ whole;
        inside = inside;
        rows = all;
      }
