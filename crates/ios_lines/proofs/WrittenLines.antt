-- Lines that are written word for word.
use Rattle.std.proofs.Common.{◌≡◌, ℕ, zero, suc, ◌-◌, ◌<◌, nat_lt, nat_le, Bool, true, false, List, [], ◌∷◌, ◌++◌, length, refl, ap, ◌∙◌, arith, slice_index, IsFalse}
use Rattle.std.proofs.lemmas.Bool.{and_parts, and_from, ltb-true, leb-true, le-leb, ne_eqb}
use Rattle.std.proofs.lemmas.List.Folds.{list_all-append}
use Rattle.std.specs.List.{list_all}
use Rattle.ios_lines.specs.Kinds.{is_indented, words_kind}
use Rattle.arc_base.specs.Words.{is_blank, words}
use Rattle.ios_lines.specs.Ended.{IsFree, HasNoReturn}
use Rattle.ios_lines.specs.Written.{is_plain, ArePlain, spaced, IndentedLinesAreWritten, TopLinesAreWritten, IndentedLinesAreInner, TopLinesHaveTheirKind}
use Rattle.ios_lines.proofs.WordCuts.{words-blank}
use Rattle.ios_lines.proofs.WordSpans.{words-after_word, BeginsBlank}

pub each-at : (p : ℕ → Bool) (xs : List ℕ) (k : ℕ) → list_all p xs ≡ true → k < length xs → p (slice_index xs k) ≡ true
each-at p [] k all low = absurd (omega arith)
each-at p (x ∷ xs) zero all low = (and_parts _ _ all).0
each-at p (x ∷ xs) (suc k) all low = each-at p xs k (and_parts _ _ all).1 (omega arith)

not-blank : (b : ℕ) → 32 < b → is_blank b ≡ false
not-blank b high = rw (ne_eqb b 32 (omega arith), ne_eqb b 9 (omega arith)) refl

pub plain-filled : (word : List ℕ) → list_all (nat_lt 32) word ≡ true → (k : ℕ) → k < length word → IsFalse (is_blank (slice_index word k))
plain-filled word all k low = not-blank (slice_index word k) (ltb-true _ _ (each-at (nat_lt 32) word k all low))

spaced-begins : (ws : List (List ℕ)) → BeginsBlank (spaced ws)
spaced-begins [] some = absurd (omega arith)
spaced-begins (w ∷ ws) some = refl

words-first : (word : List ℕ) (ws : List (List ℕ)) → is_plain word ≡ true → words (word ++ spaced ws) ≡ word ∷ words (spaced ws)
words-first word ws plain =
    let parts = and_parts _ _ plain in
    words-after_word word (spaced ws) (ltb-true _ _ parts.0) (plain-filled word parts.1) (spaced-begins ws)

spaced-words : (ws : List (List ℕ)) → ArePlain ws → words (spaced ws) ≡ ws
spaced-words [] plain = refl
spaced-words (w ∷ ws) plain = words-blank 32 (w ++ spaced ws) refl ∙ words-first w ws plain.0 ∙ ap (λ rest. w ∷ rest) (spaced-words ws plain.1)

-- bytes from the space on end no line
weaker : (xs : List ℕ) → list_all (nat_lt 32) xs ≡ true → list_all (nat_le 32) xs ≡ true
weaker [] all = refl
weaker (x ∷ xs) all =
    let parts = and_parts _ _ all in
    let high : 32 < x = ltb-true _ _ parts.0 in
    and_from _ _ (le-leb 32 x (omega arith)) (weaker xs parts.1)

spaced-high : (ws : List (List ℕ)) → ArePlain ws → list_all (nat_le 32) (spaced ws) ≡ true
spaced-high [] plain = refl
spaced-high (w ∷ ws) plain = list_all-append (nat_le 32) w (spaced ws) ∙ and_from _ _ (weaker w (and_parts _ _ plain.0).1) (spaced-high ws plain.1)

high-free : (line : List ℕ) → list_all (nat_le 32) line ≡ true → IsFree line
high-free line all place low feed = let high = leb-true _ _ (each-at (nat_le 32) line place all low) in absurd (omega arith)

high-no-return : (line : List ℕ) → list_all (nat_le 32) line ≡ true → HasNoReturn line
high-no-return line all some return = let high = leb-true _ _ (each-at (nat_le 32) line (length line - 1) all (omega arith)) in absurd (omega arith)

pub indented-written : IndentedLinesAreWritten
indented-written ws plain = let high = spaced-high ws plain in record { words = spaced-words ws plain; free = high-free (spaced ws) high; no_return = high-no-return (spaced ws) high }

pub top-written : TopLinesAreWritten
top-written word ws plain rest =
    let high : list_all (nat_le 32) (word ++ spaced ws) ≡ true = list_all-append (nat_le 32) word (spaced ws) ∙ and_from _ _ (weaker word (and_parts _ _ plain).1) (spaced-high ws rest) in
    record { words = words-first word ws plain ∙ ap (λ r. word ∷ r) (spaced-words ws rest); free = high-free (word ++ spaced ws) high; no_return = high-no-return (word ++ spaced ws) high }

pub indented-inner : IndentedLinesAreInner
indented-inner word ws plain mark = ap (words_kind true) (spaced-words (word ∷ ws) plain) ∙ rw mark refl

not-indented : (word rest : List ℕ) → is_plain word ≡ true → is_indented (word ++ rest) ≡ false
not-indented [] rest plain = absurd cc
not-indented (b ∷ word) rest plain = not-blank b (ltb-true _ _ (each-at (nat_lt 32) (b ∷ word) 0 (and_parts _ _ plain).1 (omega arith)))

pub top-kinds : TopLinesHaveTheirKind
top-kinds word ws plain rest =
    ap (λ indented. words_kind indented (words (word ++ spaced ws))) (not-indented word (spaced ws) plain)
    ∙ ap (words_kind false) (top-written word ws plain rest).words
