-- How a line falls into words.
use Rattle.std.proofs.Common.{Option, Some, None, length-drop, ◌≡◌, ℕ, ◌<◌, ◌≤◌, suc, Bool, true, false, not, cond, List}
use Rattle.std.proofs.Common.{[], ◌∷◌, length, take, drop, refl, sym, ap, subst, ◌∙◌, arith, ⊎_elim, nat_lt, filter, unwrap_or}
use Rattle.std.proofs.lemmas.Bool.{cases_Bool, ltb-false, cond-true, cond-false}
use Rattle.std.proofs.lemmas.List.Splits.{slice_split-cons_yes, slice_split-cons_no}
use Rattle.std.proofs.lemmas.List.{drop_all}
use Rattle.std.proofs.lemmas.List.Recursion.{is_position_or_len}
use Rattle.std.proofs.lemmas.List.Quantifiers.{position-Some}
use Rattle.std.specs.List.{position, position_or_len, slice_split, onto_first}
use Rattle.arc_base.specs.Words.{is_blank, is_filled, words}
use Rattle.ios_lines.specs.Banners.{skip, after_word}

-- how many items stand before the first that passes
abbrev pub front : (ℕ → Bool) → List ℕ → ℕ
front p [] = 0
front p (x ∷ xs) = cond (p x) 0 (suc (front p xs))

front-is : (p : ℕ → Bool) (xs : List ℕ) → front p xs ≡ position_or_len p xs
front-is p xs = is_position_or_len (front p) p refl (λ x ys. ap (cond (p x) 0) (omega arith)) xs

front-le : (p : ℕ → Bool) (xs : List ℕ) → front p xs ≤ length xs
front-le p [] = omega arith
front-le p (x ∷ xs) = ⊎_elim
    (λ passes. subst (λ v. cond v 0 (suc (front p xs)) ≤ suc (length xs)) (sym passes) (omega arith))
    (λ fails. let deeper = front-le p xs in subst (λ v. cond v 0 (suc (front p xs)) ≤ suc (length xs)) (sym fails) (omega arith))
    (cases_Bool (p x))

-- `position` finds this place
front-some : (p : ℕ → Bool) (xs : List ℕ) (k : ℕ) → position p xs ≡ Some k → front p xs ≡ k
front-some p xs k found = ⊎_elim
    (λ inside. let here : Some (position_or_len p xs) ≡ Some k = sym (cond-true _ _ _ inside) ∙ found in front-is p xs ∙ cc)
    (λ past. let none : None ≡ Some k = sym (cond-false _ _ _ past) ∙ found in cc)
    (cases_Bool (nat_lt (position_or_len p xs) (length xs)))

-- or there is none, and all stand before it
front-none : (p : ℕ → Bool) (xs : List ℕ) → position p xs ≡ None → front p xs ≡ length xs
front-none p xs missing = ⊎_elim
    (λ inside. let here : Some (position_or_len p xs) ≡ None = sym (cond-true _ _ _ inside) ∙ missing in cc)
    (λ past. let same = front-is p xs in let low = ltb-false _ _ past in let high = front-le p xs in omega arith)
    (cases_Bool (nat_lt (position_or_len p xs) (length xs)))

front-or : (p : ℕ → Bool) (xs : List ℕ) (o : Option ℕ) → o ≡ position p xs → unwrap_or o (length xs) ≡ front p xs
front-or p xs None is = sym (front-none p xs (sym is))
front-or p xs (Some k) is = sym (front-some p xs k (sym is))

-- parts without the empty ones
abbrev kept : List (List ℕ) → List (List ℕ)
kept parts = filter is_filled parts

-- a blank before a line adds no word
pub words-blank : (b : ℕ) (line : List ℕ) → is_blank b ≡ true → words (b ∷ line) ≡ words line
words-blank b line blank = ap kept (slice_split-cons_yes is_blank b line blank)

-- the blanks before a line add no word
pub words-blanks : (line : List ℕ) → words (drop (front (λ b. not (is_blank b)) line) line) ≡ words line
words-blanks [] = refl
words-blanks (b ∷ line) = ⊎_elim
    (λ blank. subst (λ v. words (drop (cond (not v) 0 (suc (front (λ b. not (is_blank b)) line))) (b ∷ line)) ≡ words (b ∷ line)) (sym blank)
    (words-blanks line ∙ sym (words-blank b line blank)))
    (λ other. subst (λ v. words (drop (cond (not v) 0 (suc (front (λ b. not (is_blank b)) line))) (b ∷ line)) ≡ words (b ∷ line)) (sym other) refl)
    (cases_Bool (is_blank b))

-- the parts of a line: what stands before its first blank, and the parts after that
pub split-first : (line : List ℕ) → (rest : List (List ℕ)) × (slice_split is_blank line ≡ take (front is_blank line) line ∷ rest) × (kept rest ≡ words (drop (front is_blank line) line))
split-first [] = ([], refl, refl)
split-first (b ∷ line) = ⊎_elim
    (λ blank. subst (λ v.
    (rest : List (List ℕ)) × (slice_split is_blank (b ∷ line) ≡ take (cond v 0 (suc (front is_blank line))) (b ∷ line) ∷ rest) × (kept rest ≡ words
    (drop (cond v 0 (suc (front is_blank line))) (b ∷ line)))) (sym blank)
    (slice_split is_blank line, slice_split-cons_yes is_blank b line blank, sym (words-blank b line blank)))
    (λ other. subst (λ v.
    (rest : List (List ℕ)) × (slice_split is_blank (b ∷ line) ≡ take (cond v 0 (suc (front is_blank line))) (b ∷ line) ∷ rest) × (kept rest ≡ words
    (drop (cond v 0 (suc (front is_blank line))) (b ∷ line)))) (sym other)
    (let deeper = split-first line in
    (deeper.0, slice_split-cons_no is_blank b line other ∙ ap (onto_first b) deeper.1, deeper.2)))
    (cases_Bool (is_blank b))

-- a line that begins with no blank is its first word and what follows that
pub first-here : (line : List ℕ) → front (λ b. not (is_blank b)) line ≡ 0 → 0 < length line → words line ≡ take (front is_blank line) line ∷ words (drop (front is_blank line) line)
first-here [] start some = absurd (omega arith)
first-here (b ∷ line) start some = ⊎_elim
    (λ blank. let late : suc (front (λ b. not (is_blank b)) line) ≡ 0 = subst (λ v. cond (not v) 0 (suc (front (λ b. not (is_blank b)) line)) ≡ 0) blank start in absurd (omega arith))
    (λ other.
    let parts = split-first (b ∷ line) in
    let whole : words (b ∷ line) ≡ kept (take (cond (is_blank b) 0 (suc (front is_blank line))) (b ∷ line) ∷ parts.0) = ap kept parts.1 in
    whole ∙ subst (λ v. kept (take (cond v 0 (suc (front is_blank line))) (b ∷ line) ∷ parts.0) ≡ take (cond v 0 (suc (front is_blank line))) (b ∷ line) ∷ words
    (drop (cond v 0 (suc (front is_blank line))) (b ∷ line))) (sym other)
    (ap (λ rest. (b ∷ take (front is_blank line) line) ∷ rest) (subst (λ v. kept parts.0 ≡ words (drop (cond v 0 (suc (front is_blank line))) (b ∷ line))) other parts.2)))
    (cases_Bool (is_blank b))

-- where the blanks end, no blank stands
front-after : (p : ℕ → Bool) (xs : List ℕ) → front p (drop (front p xs) xs) ≡ 0
front-after p [] = refl
front-after p (x ∷ xs) = ⊎_elim
    (λ passes. subst (λ v. front p (drop (cond v 0 (suc (front p xs))) (x ∷ xs)) ≡ 0) (sym passes) (cond-true _ _ _ passes))
    (λ fails. subst (λ v. front p (drop (cond v 0 (suc (front p xs))) (x ∷ xs)) ≡ 0) (sym fails) (front-after p xs))
    (cases_Bool (p x))

-- a line of blanks has no words
pub words_none : (line : List ℕ) → position (λ b. not (is_blank b)) line ≡ None → words line ≡ []
words_none line missing =
    let all = front-none (λ b. not (is_blank b)) line missing in
    sym (words-blanks line) ∙ ap words (ap (λ n. drop n line) all ∙ drop_all (length line) line (omega arith))

-- another line is its first word, which begins where the blanks end, and what follows that
pub words_first : (line : List ℕ) (k : ℕ) (tail first rest : List ℕ) (o : Option ℕ) → position (λ b. not (is_blank b)) line ≡ Some k → tail ≡ drop k line → o ≡ position is_blank tail →
    first ≡ take (unwrap_or o (length tail)) tail → rest ≡ drop (unwrap_or o (length tail)) tail → words line ≡ first ∷ words rest
words_first line k tail first rest o start tail-is end first-is rest-is =
    let here : front (λ b. not (is_blank b)) line ≡ k = front-some (λ b. not (is_blank b)) line k start in
    let inside = position-Some (λ b. not (is_blank b)) line k 0 start in
    let left = length-drop k line in
    let there : unwrap_or o (length tail) ≡ front is_blank tail = front-or is_blank tail o end in
    let begin : tail ≡ drop (front (λ b. not (is_blank b)) line) line = tail-is ∙ sym (ap (λ n. drop n line) here) in
    let some : 0 < length tail = omega (arith, inside.0, ap length tail-is) in
    let begun : front (λ b. not (is_blank b)) tail ≡ 0 = ap (front (λ b. not (is_blank b))) begin ∙ front-after (λ b. not (is_blank b)) line in
    sym (words-blanks line) ∙ ap words (sym begin) ∙ first-here tail begun some
    ∙ sym (ap (λ w. w ∷ words rest) (first-is ∙ ap (λ n. take n tail) there) ∙ ap (λ r. take (front is_blank tail) tail ∷ words r) (rest-is ∙ ap (λ n. drop n tail) there))

-- the bytes from the first on that does not pass
skip-front : (p q : ℕ → Bool) → ((b : ℕ) → p b ≡ not (q b)) → (xs : List ℕ) → skip p xs ≡ drop (front q xs) xs
skip-front p q turned [] = refl
skip-front p q turned (x ∷ xs) =
    subst (λ v. cond v (skip p xs) (x ∷ xs) ≡ drop (cond (q x) 0 (suc (front q xs))) (x ∷ xs)) (sym (turned x)) (⊎_elim
    (λ passes. subst (λ v. cond (not v) (skip p xs) (x ∷ xs) ≡ drop (cond v 0 (suc (front q xs))) (x ∷ xs)) (sym passes) refl)
    (λ fails. subst (λ v. cond (not v) (skip p xs) (x ∷ xs) ≡ drop (cond v 0 (suc (front q xs))) (x ∷ xs)) (sym fails) (skip-front p q turned xs))
    (cases_Bool (q x)))

turned-twice : (b : Bool) → b ≡ not (not b)
turned-twice true = refl
turned-twice false = refl

-- a line without the blanks that it begins with
pub skip-blanks : (line : List ℕ) → skip is_blank line ≡ drop (front (λ b. not (is_blank b)) line) line
skip-blanks line = skip-front is_blank (λ b. not (is_blank b)) (λ b. turned-twice (is_blank b)) line

-- the blanks end where the first other byte stands
pub skip-some : (line : List ℕ) (k : ℕ) → position (λ b. not (is_blank b)) line ≡ Some k → skip is_blank line ≡ drop k line
skip-some line k found = skip-blanks line ∙ ap (λ n. drop n line) (front-some (λ b. not (is_blank b)) line k found)

-- nothing is left of a line of blanks
pub skip-none : (line : List ℕ) → position (λ b. not (is_blank b)) line ≡ None → skip is_blank line ≡ []
skip-none line missing = skip-blanks line ∙ ap (λ n. drop n line) (front-none (λ b. not (is_blank b)) line missing) ∙ drop_all (length line) line (omega arith)

-- what follows the first word is the rest after the blank that ends it
pub after_first : (line : List ℕ) (k : ℕ) (tail rest : List ℕ) (o : Option ℕ) → position (λ b. not (is_blank b)) line ≡ Some k → tail ≡ drop k line → o ≡ position is_blank tail →
    rest ≡ drop (unwrap_or o (length tail)) tail → rest ≡ after_word line
after_first line k tail rest o start tail-is end rest-is =
    let begin : tail ≡ skip is_blank line = tail-is ∙ sym (skip-some line k start) in
    let there : unwrap_or o (length tail) ≡ front is_blank tail = front-or is_blank tail o end in
    rest-is ∙ ap (λ n. drop n tail) there ∙ sym (skip-front (λ b. not (is_blank b)) is_blank (λ b. refl) tail)
    ∙ ap (skip (λ b. not (is_blank b))) begin
