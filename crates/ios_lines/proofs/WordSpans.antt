-- The words of a line as spans.
use Rattle.std.proofs.Common.{◌≡◌, ℕ, suc, ◌+◌, ◌-◌, ◌<◌, ◌≤◌, not, List, [], ◌∷◌, ◌++◌, map, length, take, drop}
use Rattle.std.proofs.Common.{Result, Ok, Err, IfOk, IsTrue, IsFalse, refl, sym, ap, subst, ◌∙◌, arith, append-nil, slice_index, slice_range, All}
use Rattle.std.proofs.Math.Seq.{take-append_seam, drop-append_seam}
use Rattle.std.proofs.lemmas.Bool.{cond-true, cond-false}
use Rattle.std.proofs.lemmas.List.Elements.{All-nil, All-cons}
use Rattle.arc_base.specs.declared.span.Span.{Span}
use Rattle.ios_lines.specs.Texts.{part, LiesInText}
use Rattle.ios_lines.specs.Words.{AreBlank, AreWords}
use Rattle.arc_base.specs.Words.{is_blank, words}
use Rattle.ios_lines.proofs.Slices.{slice-at, length-slice_range, slice-cut}
use Rattle.ios_lines.proofs.WordCuts.{front, first-here, words-blank}

-- what holds of the value that a result gives
pub of_value : {A E : Type 0} → (P : A → Type 0) (r : Result A E) (x : A) → IfOk r (λ v. v ≡ x) → P x → IfOk r P
of_value P (Ok v) x is holds = subst P (sym is) holds
of_value P (Err e) x is holds = tt

-- blanks before some bytes add no word
words-after_blanks : (xs ys : List ℕ) → ((k : ℕ) → k < length xs → IsTrue (is_blank (slice_index xs k))) → words (xs ++ ys) ≡ words ys
words-after_blanks [] ys all = refl
words-after_blanks (x ∷ xs) ys all = words-blank x (xs ++ ys) (all 0 (omega arith)) ∙ words-after_blanks xs ys (λ k low. all (suc k) (omega arith))

-- the bytes are none, or begin with a blank
abbrev pub BeginsBlank : List ℕ → Type 0
BeginsBlank bytes = 0 < length bytes → IsTrue (is_blank (slice_index bytes 0))

-- a word ends where a blank stands
front-filled : (xs ys : List ℕ) → ((k : ℕ) → k < length xs → IsFalse (is_blank (slice_index xs k))) → BeginsBlank ys → front is_blank (xs ++ ys) ≡ length xs
front-filled [] [] all begins = refl
front-filled [] (y ∷ ys) all begins = cond-true _ _ _ (begins (omega arith))
front-filled (x ∷ xs) ys all begins = cond-false _ _ _ (all 0 (omega arith)) ∙ ap suc (front-filled xs ys (λ k low. all (suc k) (omega arith)) begins)

-- bytes other than blanks, and then a blank or nothing, are a word and the words after it
pub words-after_word : (xs ys : List ℕ) → 0 < length xs → ((k : ℕ) → k < length xs → IsFalse (is_blank (slice_index xs k))) → BeginsBlank ys → words (xs ++ ys) ≡ xs ∷ words ys
words-after_word [] ys some all begins = absurd (omega arith)
words-after_word (x ∷ xs) ys some all begins =
    let line = (x ∷ xs) ++ ys in
    let start : front (λ b. not (is_blank b)) line ≡ 0 = cond-true (not (is_blank x)) 0 (suc (front (λ b. not (is_blank b)) (xs ++ ys))) (ap not (all 0 (omega arith))) in
    let end : front is_blank line ≡ length (x ∷ xs) = front-filled (x ∷ xs) ys all begins in
    first-here line start (omega arith)
    ∙ ap (λ n. take n line ∷ words (drop n line)) end
    ∙ ap (λ w. w ∷ words (drop (length (x ∷ xs)) line)) (take-append_seam (x ∷ xs) ys)
    ∙ ap (λ rest. (x ∷ xs) ∷ words rest) (drop-append_seam (x ∷ xs) ys)

-- a part of blanks
blank-part : (text : List ℕ) (from to : ℕ) → to ≤ length text → AreBlank text from to → (k : ℕ) → k < length (slice_range text from to) → IsTrue (is_blank (slice_index (slice_range text from to) k))
blank-part text from to within blank k low =
    let inside : k < to - from = omega (arith, length-slice_range text from to within) in
    ap is_blank (slice-at text from to k inside) ∙ blank (from + k) (omega arith) (omega arith)

-- the parts that the spans of the words cover are the words
pub spans-words : (text : List ℕ) (at to : ℕ) (spans : List Span) → at ≤ to → to ≤ length text → AreWords text at to spans → map (part text) spans ≡ words (slice_range text at to)
spans-words text at to [] order within blank =
    sym (ap words (sym (append-nil (slice_range text at to))) ∙ words-after_blanks (slice_range text at to) [] (blank-part text at to within blank))
spans-words text at to (w ∷ ws) order within (next, rest) =
    let before = slice_range text at w.from in
    let word = slice_range text w.from w.to in
    let after = slice_range text w.to to in
    let some : w.from < w.to = next.some in
    let inside : w.to ≤ to = next.within in
    let later : at ≤ w.from = next.after in
    let long : length word ≡ w.to - w.from = length-slice_range text w.from w.to (omega arith) in
    let left : length after ≡ to - w.to = length-slice_range text w.to to within in
    let filled : (k : ℕ) → k < length word → IsFalse (is_blank (slice_index word k)) = λ k low.
    ap is_blank (slice-at text w.from w.to k (omega arith)) ∙ next.filled (w.from + k) (omega arith) (omega arith) in
    let begins : BeginsBlank after = λ some_left.
    ap is_blank (slice-at text w.to to 0 (omega arith) ∙ ap (slice_index text) (omega arith)) ∙ next.whole (omega arith) in
    let cut : slice_range text at to ≡ before ++ (word ++ after) =
    slice-cut text at w.from to later (omega arith) ∙ ap (λ bytes. before ++ bytes) (slice-cut text w.from w.to to (omega arith) inside) in
    ap (λ parts. word ∷ parts) (spans-words text w.to to ws inside within rest)
    ∙ sym (ap words cut ∙ words-after_blanks before (word ++ after) (blank-part text at w.from (omega arith) next.blanks) ∙ words-after_word word after (omega arith) filled begins)

-- the words lie in the text
pub words-inside : (text : List ℕ) (at to : ℕ) (spans : List Span) → to ≤ length text → AreWords text at to spans → All (LiesInText text) spans
words-inside text at to [] within words = All-nil (LiesInText text)
words-inside text at to (w ∷ ws) within (next, rest) =
    let some : w.from < w.to = next.some in
    let inside : w.to ≤ to = next.within in
    All-cons (LiesInText text) w ws (omega arith, omega arith) (words-inside text w.to to ws within rest)
