-- Lines of words: the words of a line are read back, and a line is its words with one space between them.
use Rattle.std.proofs.Common.{◌≡◌, ℕ, ◌<◌, ◌==◌, false, List, [], ◌∷◌, ◌++◌, length, refl, ap, sym, ◌∙◌, arith, All, append_assoc, append-nil}
use Rattle.std.specs.List.{join_with_byte}
use Rattle.std.proofs.lemmas.Bool.{ne_eqb}
use Rattle.std.proofs.lemmas.List.Elements.{All-nil, All-cons, All-append, All-weaker}
use Rattle.std.proofs.lemmas.List.Splits.{slice_split_at, slice_split_none, join_with_byte-slice_split}
use Rattle.arc_base.specs.TextLines.{lines}
use Rattle.proof_log.proofs.Printed.{IsInLine, line_and_rest}
use Rattle.policy_report.specs.Lines.{after_spaces, line}
use Rattle.policy_report.specs.Readings.{line_words}

-- neither a space nor a control byte stands in it
unfoldable pub IsWord : List ℕ → Type 0
IsWord w = All (λ b. 32 < b) w

-- each is such a word
abbrev pub AreWords : List (List ℕ) → Type 0
AreWords [] = Unit {0}
AreWords (w ∷ ws) = IsWord w × AreWords ws

-- the firsts of two lists, and the others
pub heads : {X : Type 0} (x y : X) (xs ys : List X) → x ∷ xs ≡ y ∷ ys → (x ≡ y) × (xs ≡ ys)
heads x y xs ys e = (cc, cc)

-- words, and others after them
pub words_append : (vs ws : List (List ℕ)) → AreWords vs → AreWords ws → AreWords (vs ++ ws)
words_append [] ws h k = k
words_append (v ∷ vs) ws h k = (h.0, words_append vs ws h.1 k)

-- the words with one space between them
abbrev pub joined : List (List ℕ) → List ℕ
joined [] = []
joined (w ∷ ws) = w ++ after_spaces ws

no_spaces : (w : List ℕ) → IsWord w → All (λ b. (b == 32) ≡ false) w
unfolding IsWord
no_spaces w h = All-weaker (λ b. 32 < b) (λ b. (b == 32) ≡ false) (λ b k. ne_eqb b 32 (λ e. omega arith)) w h

read_from : (first : List ℕ) (ws : List (List ℕ)) → AreWords (first ∷ ws) → line_words (joined (first ∷ ws)) ≡ first ∷ ws
read_from first [] h =
    ap line_words (append-nil first) ∙ slice_split_none (λ b. b == 32) first (no_spaces first h.0)
read_from first (w ∷ ws) h =
    slice_split_at (λ b. b == 32) first 32 (joined (w ∷ ws)) (no_spaces first h.0) refl ∙ ap (λ vs. first ∷ vs) (read_from w ws h.1)

-- the words of a line are read back
pub words_read : (ws : List (List ℕ)) → 0 < length ws → AreWords ws → line_words (joined ws) ≡ ws
words_read [] some h = absurd (omega arith)
words_read (w ∷ ws) some h = read_from w ws h

joined_by_spaces : (ws : List (List ℕ)) → join_with_byte 32 ws ≡ joined ws
joined_by_spaces [] = refl
joined_by_spaces (w ∷ []) = sym (append-nil w)
joined_by_spaces (w ∷ v ∷ ws) = ap (λ text. w ++ 32 ∷ text) (joined_by_spaces (v ∷ ws))

-- a line is its words
pub line_of_words : (text : List ℕ) (ws : List (List ℕ)) → line_words text ≡ ws → text ≡ joined ws
line_of_words text ws e = sym (join_with_byte-slice_split 32 text) ∙ ap (join_with_byte 32) e ∙ joined_by_spaces ws

word_in_line : (w : List ℕ) → IsWord w → IsInLine w
unfolding IsWord
word_in_line w h = All-weaker (λ b. 32 < b) (λ b. 31 < b) (λ b k. omega arith) w h

spaced_in_line : (ws : List (List ℕ)) → AreWords ws → IsInLine (after_spaces ws)
spaced_in_line [] h = All-nil (λ b. 31 < b)
spaced_in_line (w ∷ ws) h =
    All-cons (λ b. 31 < b) 32 (w ++ after_spaces ws) (omega arith) (All-append (λ b. 31 < b) w (after_spaces ws) (word_in_line w h.0) (spaced_in_line ws h.1))

-- a line that is written is the first line of the text
pub line_first : (first : List ℕ) (ws : List (List ℕ)) (rest : List ℕ) → AreWords (first ∷ ws) → lines (line first ws ++ rest) ≡ joined (first ∷ ws) ∷ lines rest
line_first first ws rest h =
    let inside : IsInLine (joined (first ∷ ws)) =
    All-append (λ b. 31 < b) first (after_spaces ws) (word_in_line first h.0) (spaced_in_line ws h.1) in
    ap lines (append_assoc (joined (first ∷ ws)) (10 ∷ []) rest) ∙ line_and_rest (joined (first ∷ ws)) rest inside
