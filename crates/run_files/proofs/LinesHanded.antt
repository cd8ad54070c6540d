-- The lines that are handed out one by one are the lines of the text.
use Rattle.std.proofs.Common.{◌≡◌, ◌≢◌, ℕ, ◌<◌, true, false, List, [], ◌∷◌, ◌++◌, length, refl, sym, ◌∙◌, ap, arith, inl, inr, ◌⊎◌, ⊎_elim, subst, ◌↔◌}
use Rattle.std.specs.List.{AllByRecursion, onto_first}
use Rattle.std.proofs.lemmas.Bool.{cases_Bool, false_from_ne_true}
use Rattle.std.proofs.lemmas.Bool.Decides.{nat_tests}
use Rattle.std.proofs.lemmas.List.Elements.{recursion_from_All, All-cons, All-nil}
use Rattle.arc_outside.specs.Lines.{IsFirstLine}
use Rattle.run_files.specs.HandedOut.{AreHandedOut}
use Rattle.arc_base.specs.TextLines.{lines, is_line_feed}

ten_from_feed : (b : ℕ) → is_line_feed b ≡ true → b ≡ 10
ten_from_feed b e = grind (arith, nat_tests)

other_byte : (b : ℕ) → b ≢ 10 → is_line_feed b ≡ false
other_byte b other = false_from_ne_true _ (λ e. other (ten_from_feed b e))

-- a line that a line feed ends
at_feed : (line rest : List ℕ) → AllByRecursion (λ b. b ≢ 10) line → lines (line ++ 10 ∷ rest) ≡ line ∷ lines rest
at_feed [] rest h = refl
at_feed (b ∷ bytes) rest h = rw (other_byte b h.0) (ap (onto_first b) (at_feed bytes rest h.1))

-- a last line without one
at_end : (line : List ℕ) → AllByRecursion (λ b. b ≢ 10) line → 0 < length line → lines line ≡ line ∷ []
at_end [] h some = absurd (omega arith)
at_end (b ∷ []) h some = rw (other_byte b h.0) refl
at_end (b ∷ c ∷ bytes) h some = rw (other_byte b h.0) (ap (onto_first b) (at_end (c ∷ bytes) h.1 (omega arith)))

split_lines : (text line rest : List ℕ) → AllByRecursion (λ b. b ≢ 10) line → (text ≡ line ++ 10 ∷ rest) ⊎ ((text ≡ line) × ((0 < length line) × (rest ≡ []))) → lines text ≡ line ∷ lines rest
split_lines text line rest h (inl e) = ap lines e ∙ at_feed line rest h
split_lines text line rest h (inr e) = ap lines e.0 ∙ at_end line h e.1.0 ∙ ap (λ (r : List ℕ). line ∷ lines r) (sym e.1.1)

pub lines_of_first : (text line rest : List ℕ) → IsFirstLine text line rest → lines text ≡ line ∷ lines rest
lines_of_first text line rest first = split_lines text line rest (recursion_from_All (λ b. b ≢ 10) line first.unbroken) first.split

-- all of them
handed : (ls : List (List ℕ)) (text : List ℕ) → AreHandedOut text ls → ls ≡ lines text
handed [] text h = sym (ap lines h)
handed (line ∷ ls) text h = ap (λ (rest : List (List ℕ)). line ∷ rest) (handed ls h.0 h.1.1) ∙ sym (lines_of_first text line h.0 h.1.0)

-- a byte before the first line belongs to it
split_on : (b : ℕ) (bytes line rest : List ℕ) → (bytes ≡ line ++ 10 ∷ rest) ⊎ ((bytes ≡ line) × ((0 < length line) × (rest ≡ []))) →
    (b ∷ bytes ≡ (b ∷ line) ++ 10 ∷ rest) ⊎ ((b ∷ bytes ≡ b ∷ line) × ((0 < length (b ∷ line)) × (rest ≡ [])))
split_on b bytes line rest (inl e) = inl (ap (λ (l : List ℕ). b ∷ l) e)
split_on b bytes line rest (inr e) = inr (ap (λ (l : List ℕ). b ∷ l) e.0, (omega arith, e.1.1))

onto : (b : ℕ) → b ≢ 10 → (bytes : List ℕ) (ls : List (List ℕ)) → AreHandedOut bytes ls → AreHandedOut (b ∷ bytes) (onto_first b ls)
onto b other bytes [] h = ([], (record { unbroken = All-cons (λ c. c ≢ 10) b [] other (All-nil (λ c. c ≢ 10)); split = inr (ap (λ (l : List ℕ). b ∷ l) h, (omega arith, refl)) }, refl))
onto b other bytes (line ∷ ls) h = (h.0, (record { unbroken = All-cons (λ c. c ≢ 10) b line other h.1.0.unbroken; split = split_on b bytes line h.0 h.1.0.split }, h.1.1))

other_from_false : (b : ℕ) → is_line_feed b ≡ false → b ≢ 10
other_from_false b e = grind (arith, nat_tests)

all_handed : (text : List ℕ) → AreHandedOut text (lines text)
all_handed [] = refl
all_handed (b ∷ bytes) =
    ⊎_elim
    (λ e. rw e (bytes, (record { unbroken = All-nil (λ c. c ≢ 10); split = inl (ap (λ (c : ℕ). c ∷ bytes) (ten_from_feed b e)) }, all_handed bytes)))
    (λ e. rw e (onto b (other_from_false b e) bytes (lines bytes) (all_handed bytes)))
    (cases_Bool (is_line_feed b))

pub lines_are_handed_out : (text : List ℕ) (ls : List (List ℕ)) → AreHandedOut text ls ↔ (ls ≡ lines text)
lines_are_handed_out text ls = (handed ls text, λ e. subst (AreHandedOut text) (sym e) (all_handed text))
