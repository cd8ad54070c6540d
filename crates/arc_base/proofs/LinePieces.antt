-- How the lines of a text and the words of a line begin.
use Rattle.std.proofs.Common.{◌≡◌, ℕ, suc, zero, ◌+◌, ◌<◌, ◌≤◌, Bool, true, false, not, List, [], ◌∷◌, length, take, drop, filter}
use Rattle.std.proofs.Common.{refl, ap, sym, ◌∙◌, arith, ⊎_elim, one-add, Some, None, Option, option_map, position, take_all, get_or, All, add-one, ap₂, length-take, length-drop}
use Rattle.std.specs.List.{position_or_len, onto_first, slice_split}
use Rattle.std.proofs.lemmas.Bool.{cases_Bool, not-true, false≢true}
use Rattle.std.proofs.lemmas.Bool.Decides.{nat_tests}
use Rattle.std.proofs.lemmas.List.{drop_all, drop_more}
use Rattle.std.proofs.lemmas.List.Quantifiers.{position-Some}
use Rattle.std.proofs.lemmas.List.Splits.{slice_split_first, slice_split_none}
use Rattle.std.proofs.lemmas.List.Sums.{fails_before_first}
use Rattle.std.proofs.lemmas.List.Elements.{All-from_get_or}
use Rattle.std.proofs.lemmas.Option.{none-some}
use Rattle.std.proofs.NetLemmas.Options.{map_some}
use Rattle.arc_base.specs.Cuts.{cut_at}
use Rattle.arc_base.specs.TextLines.{lines, is_line_feed}
use Rattle.arc_base.specs.Words.{words, is_blank, is_filled}

-- what `position` says of the first place
pub first_place : {X : Type 0} (p : X → Bool) (xs : List X) (i : ℕ) → position p xs ≡ Some i → (i ≡ position_or_len p xs) × (i < length xs)
first_place p xs i e = (grind (arith, nat_tests), grind (arith, nat_tests))

pub no_place : {X : Type 0} (p : X → Bool) (xs : List X) → position p xs ≡ None → length xs ≤ position_or_len p xs
no_place p xs e = grind (arith, nat_tests)

-- the first line ends before the first line feed
abbrev EndsAtFeed : List ℕ → Type 0
EndsAtFeed text = position_or_len is_line_feed text < length text → lines text ≡ take (position_or_len is_line_feed text) text ∷ lines (drop (suc (position_or_len is_line_feed text)) text)

feed_first : (b : ℕ) (bytes : List ℕ) → is_line_feed b ≡ true → EndsAtFeed (b ∷ bytes)
feed_first b bytes e = rw e (λ h. refl)

feed_later : (b : ℕ) (bytes : List ℕ) → is_line_feed b ≡ false → EndsAtFeed bytes → EndsAtFeed (b ∷ bytes)
feed_later b bytes e rest = rw (e, one-add) (λ h. ap (onto_first b) (rest (omega arith)))

ends_at_feed : (text : List ℕ) → EndsAtFeed text
ends_at_feed [] = λ h. absurd (omega arith)
ends_at_feed (b ∷ bytes) = ⊎_elim (λ e. feed_first b bytes e) (λ e. feed_later b bytes e (ends_at_feed bytes)) (cases_Bool (is_line_feed b))

pub lines_at_feed : (text : List ℕ) (i : ℕ) → position is_line_feed text ≡ Some i → lines text ≡ take i text ∷ lines (drop (suc i) text)
lines_at_feed text i e = rw ((first_place is_line_feed text i e).0) (ends_at_feed text (omega (arith, first_place is_line_feed text i e)))

-- a text without a line feed is one line
abbrev IsOneLine : List ℕ → Type 0
IsOneLine text = 0 < length text → length text ≤ position_or_len is_line_feed text → lines text ≡ text ∷ []

one_line_first : (b : ℕ) (bytes : List ℕ) → is_line_feed b ≡ true → IsOneLine (b ∷ bytes)
one_line_first b bytes e = rw e (λ h k. absurd (omega arith))

one_line_later : (b c : ℕ) (bytes : List ℕ) → is_line_feed b ≡ false → IsOneLine (c ∷ bytes) → IsOneLine (b ∷ c ∷ bytes)
one_line_later b c bytes e rest = rw e (λ h k. ap (onto_first b) (rest (omega arith) (omega arith)))

one_byte : (b : ℕ) → is_line_feed b ≡ false → IsOneLine (b ∷ [])
one_byte b e = rw e (λ h k. refl)

one_line : (text : List ℕ) → IsOneLine text
one_line [] = λ h. absurd (omega arith)
one_line (b ∷ []) = ⊎_elim (λ e. one_line_first b [] e) (λ e. one_byte b e) (cases_Bool (is_line_feed b))
one_line (b ∷ c ∷ bytes) = ⊎_elim (λ e. one_line_first b (c ∷ bytes) e) (λ e. one_line_later b c bytes e (one_line (c ∷ bytes))) (cases_Bool (is_line_feed b))

pub lines_without_feed : (text : List ℕ) → 0 < length text → position is_line_feed text ≡ None → lines text ≡ text ∷ []
lines_without_feed text filled e = one_line text filled (no_place is_line_feed text e)

-- blanks in front are no word
abbrev SkipsBlanks : List ℕ → Type 0
SkipsBlanks line = words line ≡ words (drop (position_or_len (λ b. not (is_blank b)) line) line)

blank_first : (b : ℕ) (bytes : List ℕ) → is_blank b ≡ true → SkipsBlanks bytes → SkipsBlanks (b ∷ bytes)
blank_first b bytes e rest = rw (e, one-add) rest

word_first : (b : ℕ) (bytes : List ℕ) → is_blank b ≡ false → SkipsBlanks (b ∷ bytes)
word_first b bytes e = rw (e, e) refl

skips_blanks : (line : List ℕ) → SkipsBlanks line
skips_blanks [] = refl
skips_blanks (b ∷ bytes) = ⊎_elim (λ e. blank_first b bytes e (skips_blanks bytes)) (λ e. word_first b bytes e) (cases_Bool (is_blank b))

pub no_words : (line : List ℕ) → position (λ b. not (is_blank b)) line ≡ None → words line ≡ []
no_words line e = skips_blanks line ∙ ap words (drop_all _ line (no_place (λ b. not (is_blank b)) line e))

pub words_from_start : (line : List ℕ) (i : ℕ) → position (λ b. not (is_blank b)) line ≡ Some i → words line ≡ words (drop i line)
words_from_start line i e = rw ((first_place (λ b. not (is_blank b)) line i e).0) (skips_blanks line)

-- a word ends before the first blank
filled_front : (word : List ℕ) (rest : List (List ℕ)) → 0 < length word → filter is_filled (word ∷ rest) ≡ word ∷ filter is_filled rest
filled_front [] rest h = absurd (omega arith)
filled_front (b ∷ bytes) rest h = refl

words_at_blank : (b : ℕ) (bytes : List ℕ) → is_blank b ≡ true → words bytes ≡ words (b ∷ bytes)
words_at_blank b bytes e = rw e refl

-- where no element passes before the length, none does
fails_everywhere : (p : ℕ → Bool) (xs : List ℕ) → length xs ≤ position_or_len p xs → All (λ x. p x ≡ false) xs
fails_everywhere p xs h = All-from_get_or (λ x. p x ≡ false) xs 0 (λ i k. fails_before_first p xs i 0 (omega arith))

-- a line of which a word begins at i, and the rest from there on
module _ (line rest : List ℕ) (i : ℕ) (start : position (λ b. not (is_blank b)) line ≡ Some i) (rest_is : rest ≡ drop i line) where
  begins : rest ≡ get_or line i 0 ∷ drop (i + 1) line
  begins = rest_is ∙ drop_more line i 0 (first_place (λ b. not (is_blank b)) line i start).1

  no_blank : is_blank (get_or line i 0) ≡ false
  no_blank = not-true _ (position-Some (λ b. not (is_blank b)) line i 0 start).1

  not_at_once : position is_blank rest ≡ Some 0 → ⊥
  not_at_once e =
      let here : is_blank (get_or line i 0) ≡ true = rw begins at (position-Some is_blank rest 0 0 e).1 in
      false≢true (sym no_blank ∙ here)

  end_is_later : (j : ℕ) → position is_blank rest ≡ Some j → 0 < j
  end_is_later zero e = absurd (not_at_once e)
  end_is_later (suc j) e = omega arith

  pub word_and_rest : (word after : List ℕ) (j : ℕ) → position is_blank rest ≡ Some j → word ≡ take j rest → after ≡ drop j rest → words line ≡ word ∷ words after
  word_and_rest word after j e word_is after_is =
      let place = first_place is_blank rest j e in
      let some : 0 < length (take j rest) = omega (arith, length-take j rest, end_is_later j e) in
      let parts : slice_split is_blank rest ≡ take j rest ∷ slice_split is_blank (drop (j + 1) rest) = rw (place.0) (slice_split_first is_blank rest 0 (omega (arith, place))) in
      let rest_words : words rest ≡ take j rest ∷ words (drop (j + 1) rest) = ap (filter is_filled) parts ∙ filled_front (take j rest) (slice_split is_blank (drop (j + 1) rest)) some in
      let next : words (drop (j + 1) rest) ≡ words after = words_at_blank (get_or rest j 0) (drop (j + 1) rest) (position-Some is_blank rest j 0 e).1
      ∙ ap words (sym (after_is ∙ drop_more rest j 0 place.1)) in
      words_from_start line i start ∙ ap words (sym rest_is) ∙ rest_words ∙ ap₂ (λ w ws. w ∷ ws) (sym word_is) next

  pub whole_word : (word after : List ℕ) → position is_blank rest ≡ None → word ≡ take (length rest) rest → after ≡ drop (length rest) rest → words line ≡ word ∷ words after
  whole_word word after e word_is after_is =
      let word_whole : word ≡ rest = word_is ∙ take_all (length rest) rest (omega arith) in
      let after_empty : after ≡ [] = after_is ∙ drop_all (length rest) rest (omega arith) in
      let some : 0 < length rest = rw begins (omega arith) in
      let parts : slice_split is_blank rest ≡ rest ∷ [] = slice_split_none is_blank rest (fails_everywhere is_blank rest (no_place is_blank rest e)) in
      let rest_words : words rest ≡ rest ∷ [] = ap (filter is_filled) parts ∙ filled_front rest [] some in
      words_from_start line i start ∙ ap words (sym rest_is) ∙ rest_words ∙ ap₂ (λ w ws. w ∷ ws) (sym word_whole) (ap words (sym after_empty))

  pub rest_is_shorter : (j : ℕ) (after : List ℕ) → position is_blank rest ≡ Some j → after ≡ drop j rest → length after < length line
  rest_is_shorter j after e after_is =
      omega (arith, ap length after_is, length-drop j rest, ap length rest_is, length-drop i line, end_is_later j e, (first_place (λ b. not (is_blank b)) line i start).1)

pub line_and_rest : (text front after : List ℕ) → cut_at 10 text ≡ Some (front, after) → lines text ≡ front ∷ lines after
line_and_rest text front after e =
    map_some _ (position is_line_feed text) (front, after) e λ place place_is parts.
    let after_is : drop (suc place) text ≡ after = ap (λ n. drop n text) (sym (add-one place)) ∙ ap (λ p. p.1) parts in
    lines_at_feed text place place_is ∙ ap₂ (λ l r. l ∷ lines r) (ap (λ p. p.0) parts) after_is

pub parts_fit : (text front after : List ℕ) → cut_at 10 text ≡ Some (front, after) → length front + length after < length text
parts_fit text front after e =
    map_some _ (position is_line_feed text) (front, after) e λ place place_is parts.
    omega (arith, (first_place is_line_feed text place place_is).1, ap (λ p. length p.0) parts, ap (λ p. length p.1) parts, length-take place text, length-drop (place + 1) text)

no_feed : (text : List ℕ) (place : Option ℕ) → option_map {U = List ℕ × List ℕ} (λ i. (take i text, drop (i + 1) text)) place ≡ None → place ≡ None
no_feed text None e = refl
no_feed text (Some i) e = absurd (none-some _ (sym e))

pub whole_line : (text front rest : List ℕ) → 0 < length text → cut_at 10 text ≡ None → front ≡ take (length text) text → rest ≡ drop (length text) text → lines text ≡ front ∷ lines rest
whole_line text front rest filled none front_is rest_is =
    let front_whole : front ≡ text = front_is ∙ take_all (length text) text (omega arith) in
    let rest_empty : rest ≡ [] = rest_is ∙ drop_all (length text) text (omega arith) in
    rw (front_whole, rest_empty) (lines_without_feed text filled (no_feed text (position is_line_feed text) none))
