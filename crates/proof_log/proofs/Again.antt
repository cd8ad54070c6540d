-- Each line that is written is read as the step that it was written from.
use Rattle.std.proofs.Common.{◌≡◌, ℕ, suc, zero, ◌+◌, ◌*◌, ◌/◌, ◌%◌, ◌<◌, ◌^◌, ℤ, pos, negsuc, unsigned_abs, Bool, true, false, cond, ◌&&◌, ◌==◌, nat_lt}
use Rattle.std.proofs.Common.{List, [], ◌∷◌, ◌++◌, length, map, refl, ap, ap₂, sym, ◌∙◌, subst, arith, All, Some, None, Ok, decimal, append_assoc, append-nil, ⊎_elim}
use Rattle.std.specs.List.{list_any, list_all}
use Rattle.std.specs.Fmt.{signed_decimal}
use Rattle.std.proofs.lemmas.Bool.{cond-true, ne_eqb, eq-eqb, cases_eq, lt-ltb, and_from}
use Rattle.std.proofs.lemmas.List.Splits.{slice_split_at}
use Rattle.std.proofs.lemmas.List.Elements.{All-cons, All-nil, All-append, All-head, All-tail}
use Rattle.cnf_types.specs.declared.literal.Lit.{Lit}
use Rattle.cnf_types.specs.Literals.{literal, variable, is_positive}
use Rattle.arc_base.specs.TextLines.{lines}
use Rattle.arc_base.specs.Words.{words}
use Rattle.cnf_types.specs.Dimacs.{is_comment, is_zero, literal_of}
use Rattle.proof_log.specs.declared.steps.Step.{Step}
use Rattle.proof_log.specs.declared.steps.Step.TheVariants.{Add, Drop, Bound}
use Rattle.proof_log.specs.declared.steps.Log.{Log}
use Rattle.proof_log.specs.declared.numbers.Sign.TheVariants.{Adds, Drops, Bounds}
use Rattle.proof_log.specs.Reading.{reading, log_number, numbers, is_bad, sign, sign_of, number_words, unless_sign, formed, add_of, drop_of, is_positive_number as positive_number}
use Rattle.proof_log.specs.Texts.{literal_text, before_spaces, step_text, last_added, steps_text, log_text, IsId, IsLiteral, IsHint, HasLine}
use Rattle.proof_log.proofs.Forms.{reads_step}
use Rattle.proof_log.proofs.Printed.{IsPlain, IsWord, plain_word, decimal_plain, minus_plain, number_decimal, number_minus, AreWords, words_spaced, spaced_append}
use Rattle.proof_log.proofs.Printed.{IsInLine, spaced_in_line, line_and_rest, no_return, no_comment, adds_by, Write, written_good, written_numbers, write_append, words_append}

-- the number of a literal, from its sign and variable
abbrev signed : Bool → ℕ → ℤ
signed true v = pos v
signed false zero = pos 0
signed false (suc n) = negsuc n

abbrev number_of : Lit → ℤ
number_of l = signed (is_positive l) (variable l)

-- what literals are written as, and read as
literal_number : (b : Bool) (v : ℕ) → 0 < v → v < 2 ^ 63 → log_number (cond b (decimal v) (45 ∷ decimal v)) ≡ Some (signed b v)
literal_number true v some fits = number_decimal v fits
literal_number false zero some fits = absurd (omega arith)
literal_number false (suc n) some fits = number_minus n fits

literal_plain : (b : Bool) (v : ℕ) → v < 2 ^ 63 → IsPlain (cond b (decimal v) (45 ∷ decimal v))
literal_plain true v fits = decimal_plain v (omega arith)
literal_plain false v fits = minus_plain v (omega arith)

signed_literal : (b : Bool) (v : ℕ) → 0 < v → literal_of (signed b v) ≡ literal v b
signed_literal true v some = refl
signed_literal false zero some = absurd (omega arith)
signed_literal false (suc n) some = refl

signed_nonzero : (b : Bool) (v : ℕ) → 0 < v → is_zero (signed b v) ≡ false
signed_nonzero true v some = ne_eqb v 0 (λ e. omega arith)
signed_nonzero false zero some = absurd (omega arith)
signed_nonzero false (suc n) some = refl

abbrev of_code : ℕ → Lit
of_code n = record { code = n }

literal_back : (l : Lit) → literal (variable l) (is_positive l) ≡ l
literal_back l = ⊎_elim
    (λ (e : l.code % 2 ≡ 0). ap (λ b. of_code (cond b (2 * (l.code / 2)) (2 * (l.code / 2) + 1))) (eq-eqb (l.code % 2) 0 e) ∙ ap of_code (let same : 2 * (l.code / 2) ≡ l.code = omega arith in same))
    (λ (h : l.code % 2 ≡ 0 → ⊥). ap (λ b. of_code (cond b (2 * (l.code / 2)) (2 * (l.code / 2) + 1))) (ne_eqb (l.code % 2) 0 h)
    ∙ ap of_code (let same : 2 * (l.code / 2) + 1 ≡ l.code = omega arith in same))
    (cases_eq (l.code % 2) 0)

hint_number : (h : ℤ) → unsigned_abs h < 2 ^ 63 → log_number (signed_decimal h) ≡ Some h
hint_number (pos n) fits = number_decimal n fits
hint_number (negsuc n) fits = number_minus n fits

hint_plain : (h : ℤ) → unsigned_abs h < 2 ^ 63 → IsPlain (signed_decimal h)
hint_plain (pos n) fits = decimal_plain n (omega arith)
hint_plain (negsuc n) fits = minus_plain (suc n) (omega arith)

hint_nonzero : (h : ℤ) → 0 < unsigned_abs h → is_zero h ≡ false
hint_nonzero (pos n) some = ne_eqb n 0 (λ e. omega arith)
hint_nonzero (negsuc n) some = refl

-- lists of them
lits_write : (lits : List Lit) → All IsLiteral lits → Write (map literal_text lits) (map number_of lits)
lits_write [] h = tt
lits_write (l ∷ lits) h =
    let here = All-head IsLiteral l lits h in
    (literal_number (is_positive l) (variable l) here.0 here.1, lits_write lits (All-tail IsLiteral l lits h))

lits_words : (lits : List Lit) → All IsLiteral lits → AreWords (map literal_text lits)
lits_words [] h = tt
lits_words (l ∷ lits) h = (plain_word (literal_text l) (literal_plain (is_positive l) (variable l) (All-head IsLiteral l lits h).1), lits_words lits (All-tail IsLiteral l lits h))

lits_back : (lits : List Lit) → All IsLiteral lits → map literal_of (map number_of lits) ≡ lits
lits_back [] h = refl
lits_back (l ∷ lits) h =
    ap₂ (λ m ms. m ∷ ms) (signed_literal (is_positive l) (variable l) (All-head IsLiteral l lits h).0 ∙ literal_back l) (lits_back lits (All-tail IsLiteral l lits h))

lits_nonzero : (lits : List Lit) → All IsLiteral lits → All (λ z. is_zero z ≡ false) (map number_of lits)
lits_nonzero [] h = All-nil (λ z. is_zero z ≡ false)
lits_nonzero (l ∷ lits) h = All-cons (λ z. is_zero z ≡ false) (number_of l) (map number_of lits) (signed_nonzero (is_positive l) (variable l) (All-head IsLiteral l lits h).0)
    (lits_nonzero lits (All-tail IsLiteral l lits h))

hints_write : (hints : List ℤ) → All IsHint hints → Write (map signed_decimal hints) hints
hints_write [] h = tt
hints_write (z ∷ hints) h = (hint_number z (All-head IsHint z hints h).1, hints_write hints (All-tail IsHint z hints h))

hints_words : (hints : List ℤ) → All IsHint hints → AreWords (map signed_decimal hints)
hints_words [] h = tt
hints_words (z ∷ hints) h = (plain_word (signed_decimal z) (hint_plain z (All-head IsHint z hints h).1), hints_words hints (All-tail IsHint z hints h))

hints_nonzero : (hints : List ℤ) → All IsHint hints → All (λ z. is_zero z ≡ false) hints
hints_nonzero [] h = All-nil (λ z. is_zero z ≡ false)
hints_nonzero (z ∷ hints) h = All-cons (λ y. is_zero y ≡ false) z hints (hint_nonzero z (All-head IsHint z hints h).0) (hints_nonzero hints (All-tail IsHint z hints h))

ids_write : (ids : List ℕ) → All IsId ids → Write (map decimal ids) (map pos ids)
ids_write [] h = tt
ids_write (id ∷ ids) h = (number_decimal id (All-head IsId id ids h).1, ids_write ids (All-tail IsId id ids h))

ids_words : (ids : List ℕ) → All IsId ids → AreWords (map decimal ids)
ids_words [] h = tt
ids_words (id ∷ ids) h = (plain_word (decimal id) (decimal_plain id (let fits = (All-head IsId id ids h).1 in omega (arith, fits))), ids_words ids (All-tail IsId id ids h))

ids_back : (ids : List ℕ) → map unsigned_abs (map pos ids) ≡ ids
ids_back [] = refl
ids_back (id ∷ ids) = ap (λ r. id ∷ r) (ids_back ids)

ids_positive : (ids : List ℕ) → All IsId ids → list_all positive_number (map pos ids) ≡ true
ids_positive [] h = refl
ids_positive (id ∷ ids) h = and_from _ _ (lt-ltb 0 id (All-head IsId id ids h).0) (ids_positive ids (All-tail IsId id ids h))

ids_nonzero : (ids : List ℕ) → All IsId ids → All (λ z. is_zero z ≡ false) (map pos ids)
ids_nonzero [] h = All-nil (λ z. is_zero z ≡ false)
ids_nonzero (id ∷ ids) h = All-cons (λ z. is_zero z ≡ false) (pos id) (map pos ids) (ne_eqb id 0 (λ e. let some = (All-head IsId id ids h).0 in omega (arith, some)))
    (ids_nonzero ids (All-tail IsId id ids h))

-- a line of words and a zero at its end
not_nothing : (bytes : List ℕ) → false ≡ (length (bytes ++ 48 ∷ []) == 0)
not_nothing [] = refl
not_nothing (b ∷ bytes) = sym (ne_eqb (suc (length (bytes ++ 48 ∷ []))) 0 (λ e. omega arith))

letter_is_word : (b : ℕ) → 32 < b → IsWord (b ∷ [])
letter_is_word b h = (omega arith, All-cons (λ c. 32 < c) b [] h (All-nil (λ c. 32 < c)))

zero_is_word : IsWord (48 ∷ [])
zero_is_word = letter_is_word 48 (omega arith)

reads_line : (w : List ℕ) (ws : List (List ℕ)) (s : Step) → IsPlain w → AreWords ws → list_any is_bad (number_words ((w ∷ ws) ++ (48 ∷ []) ∷ [])) ≡ false →
    Some s ≡ formed (sign ((w ∷ ws) ++ (48 ∷ []) ∷ [])) (numbers (number_words ((w ∷ ws) ++ (48 ∷ []) ∷ []))) → reading (before_spaces (w ∷ ws) ++ 48 ∷ []) ≡ Ok (Some s)
reads_line w ws s plain others good form =
    let line = before_spaces (w ∷ ws) ++ 48 ∷ [] in
    let all : words line ≡ (w ∷ ws) ++ (48 ∷ []) ∷ [] = words_spaced (w ∷ ws) (plain_word w plain, others) in
    let off : false ≡ is_comment line =
    sym (ap is_comment (append_assoc (w ++ 32 ∷ []) (before_spaces ws) (48 ∷ []) ∙ append_assoc w (32 ∷ []) (before_spaces ws ++ 48 ∷ []))
    ∙ no_comment w (32 ∷ (before_spaces ws ++ 48 ∷ [])) plain) in
    reads_step line line s (sym (no_return (before_spaces (w ∷ ws)))) (not_nothing (before_spaces (w ∷ ws))) off (ap (λ vs. list_any is_bad (number_words vs)) all ∙ good)
    (form ∙ sym (ap (λ vs. formed (sign vs) (numbers (number_words vs))) all))

-- the words of a line that adds a clause, but the last zero
abbrev add_words : ℕ → List Lit → List ℤ → List (List ℕ)
add_words id lits hints = map literal_text lits ++ (48 ∷ []) ∷ map signed_decimal hints

add_text : (last id : ℕ) (lits : List Lit) (hints : List ℤ) → step_text last (Add id lits hints) ≡ before_spaces (decimal id ∷ add_words id lits hints) ++ 48 ∷ []
add_text last id lits hints =
    let x = decimal id ++ 32 ∷ [] in
    let a = before_spaces (map literal_text lits) in
    let z : List ℕ = 48 ∷ 32 ∷ [] in
    let b = before_spaces (map signed_decimal hints) in
    ap (λ r. r ++ 48 ∷ []) (append_assoc (x ++ a) z b ∙ append_assoc x a (z ++ b) ∙ ap (λ r. x ++ r) (sym (spaced_append (map literal_text lits) ((48 ∷ []) ∷ map signed_decimal hints))))

adds_words : (d second : List ℕ) (rest : List (List ℕ)) → sign_of second ≡ Adds → number_words (d ∷ second ∷ rest) ≡ d ∷ second ∷ rest
adds_words d second rest e = ap (λ s. d ∷ unless_sign s second rest) e

number_words_add : (d : List ℕ) (lits : List Lit) (rest : List (List ℕ)) → All IsLiteral lits →
    number_words (d ∷ (map literal_text lits ++ (48 ∷ []) ∷ rest)) ≡ d ∷ (map literal_text lits ++ (48 ∷ []) ∷ rest)
number_words_add d [] rest h = refl
number_words_add d (l ∷ lits) rest h = adds_words d (literal_text l) (map literal_text lits ++ (48 ∷ []) ∷ rest)
    (adds_by (literal_text l) (literal_plain (is_positive l) (variable l) (All-head IsLiteral l lits h).1))

sign_add : (d : List ℕ) (lits : List Lit) (rest : List (List ℕ)) → All IsLiteral lits → sign (d ∷ (map literal_text lits ++ (48 ∷ []) ∷ rest)) ≡ Adds
sign_add d [] rest h = refl
sign_add d (l ∷ lits) rest h = adds_by (literal_text l) (literal_plain (is_positive l) (variable l) (All-head IsLiteral l lits h).1)

zero_number : log_number (48 ∷ []) ≡ Some (pos 0)
zero_number = refl

-- the words of the whole line, and its numbers
abbrev add_line : ℕ → List Lit → List ℤ → List (List ℕ)
add_line id lits hints = decimal id ∷ (map literal_text lits ++ (48 ∷ []) ∷ (map signed_decimal hints ++ (48 ∷ []) ∷ []))

abbrev add_numbers : ℕ → List Lit → List ℤ → List ℤ
add_numbers id lits hints = pos id ∷ (map number_of lits ++ pos 0 ∷ (hints ++ pos 0 ∷ []))

add_line_is : (id : ℕ) (lits : List Lit) (hints : List ℤ) → (decimal id ∷ add_words id lits hints) ++ (48 ∷ []) ∷ [] ≡ add_line id lits hints
add_line_is id lits hints = ap (λ r. decimal id ∷ r) (append_assoc (map literal_text lits) ((48 ∷ []) ∷ map signed_decimal hints) ((48 ∷ []) ∷ []))

add_write : (id : ℕ) (lits : List Lit) (hints : List ℤ) → IsId id → All IsLiteral lits → All IsHint hints → Write (add_line id lits hints) (add_numbers id lits hints)
add_write id lits hints i l h = (
  number_decimal id i.1,
  write_append (map literal_text lits) ((48 ∷ []) ∷ (map signed_decimal hints ++ (48 ∷ []) ∷ [])) (map number_of lits)
      (pos 0 ∷ (hints ++ pos 0 ∷ [])) (lits_write lits l) (zero_number, write_append (map signed_decimal hints) ((48 ∷ []) ∷ []) hints (pos 0 ∷ []) (hints_write hints h) (zero_number, tt)),
)

add_formed : (id : ℕ) (lits : List Lit) (hints : List ℤ) → IsId id → All IsLiteral lits → All IsHint hints → formed Adds (add_numbers id lits hints) ≡ Some (Add id lits hints)
add_formed id lits hints i l h =
    let first = slice_split_at is_zero (map number_of lits) (pos 0) (hints ++ pos 0 ∷ []) (lits_nonzero lits l) refl in
    let second = slice_split_at is_zero hints (pos 0) [] (hints_nonzero hints h) refl in
    ap (add_of (pos id)) (first ∙ ap (λ ps. map number_of lits ∷ ps) second) ∙ cond-true (nat_lt 0 id) (Some (Add id (map literal_of (map number_of lits)) hints)) None (lt-ltb 0 id i.0)
    ∙ ap (λ ls. Some (Add id ls hints)) (lits_back lits l)

add_read : (last id : ℕ) (lits : List Lit) (hints : List ℤ) → IsId id → All IsLiteral lits → All IsHint hints → reading (step_text last (Add id lits hints)) ≡ Ok (Some (Add id lits hints))
add_read last id lits hints i l h =
    let whole = add_line_is id lits hints in
    let given : number_words ((decimal id ∷ add_words id lits hints) ++ (48 ∷ []) ∷ []) ≡ add_line id lits hints =
    ap number_words whole ∙ number_words_add (decimal id) lits (map signed_decimal hints ++ (48 ∷ []) ∷ []) l in
    let written = add_write id lits hints i l h in
    let others : AreWords (add_words id lits hints) = words_append (map literal_text lits) ((48 ∷ []) ∷ map signed_decimal hints) (lits_words lits l) (zero_is_word, hints_words hints h) in
    let form : formed (sign ((decimal id ∷ add_words id lits hints) ++ (48 ∷ []) ∷ [])) (numbers (number_words ((decimal id ∷ add_words id lits hints) ++ (48 ∷ []) ∷ []))) ≡ Some
    (Add id lits hints) = ap₂ formed (ap sign whole ∙ sign_add (decimal id) lits (map signed_decimal hints ++ (48 ∷ []) ∷ []) l)
    (ap numbers given ∙ written_numbers (add_line id lits hints) (add_numbers id lits hints) written) ∙ add_formed id lits hints i l h in
    ap reading (add_text last id lits hints) ∙ reads_line (decimal id) (add_words id lits hints) (Add id lits hints) (decimal_plain id (let fits = i.1 in omega (arith, fits))) others
    (ap (list_any is_bad) given ∙ written_good (add_line id lits hints) (add_numbers id lits hints) written) (sym form)

-- a line that drops clauses
abbrev drop_words : ℕ → List ℕ → List (List ℕ)
drop_words last ids = decimal last ∷ (map decimal ids ++ (48 ∷ []) ∷ [])

abbrev drop_numbers : ℕ → List ℕ → List ℤ
drop_numbers last ids = pos last ∷ (map pos ids ++ pos 0 ∷ [])

drop_text : (last : ℕ) (ids : List ℕ) → step_text last (Drop ids) ≡ before_spaces (decimal last ∷ (100 ∷ []) ∷ map decimal ids) ++ 48 ∷ []
drop_text last ids =
    let i = before_spaces (map decimal ids) in
    ap (λ r. r ++ 48 ∷ []) (append_assoc (decimal last) (32 ∷ 100 ∷ 32 ∷ []) i ∙ sym (append_assoc (decimal last) (32 ∷ []) (100 ∷ 32 ∷ i)))

drop_write : (last : ℕ) (ids : List ℕ) → last < 2 ^ 63 → All IsId ids → Write (drop_words last ids) (drop_numbers last ids)
drop_write last ids fits h =
    (number_decimal last fits, write_append (map decimal ids) ((48 ∷ []) ∷ []) (map pos ids) (pos 0 ∷ []) (ids_write ids h) (zero_number, tt))

drop_formed : (last : ℕ) (ids : List ℕ) → All IsId ids → formed Drops (drop_numbers last ids) ≡ Some (Drop ids)
drop_formed last ids h =
    let cut = slice_split_at is_zero (map pos ids) (pos 0) [] (ids_nonzero ids h) refl in
    ap (drop_of (pos last)) cut ∙ cond-true (list_all positive_number (map pos ids)) (Some (Drop (map unsigned_abs (map pos ids)))) None (ids_positive ids h) ∙ ap (λ is. Some (Drop is)) (ids_back ids)

drop_read : (last : ℕ) (ids : List ℕ) → last < 2 ^ 63 → All IsId ids → reading (step_text last (Drop ids)) ≡ Ok (Some (Drop ids))
drop_read last ids fits h =
    let written = drop_write last ids fits h in
    let form : formed Drops (numbers (drop_words last ids)) ≡ Some (Drop ids) = ap (formed Drops) (written_numbers (drop_words last ids) (drop_numbers last ids) written) ∙ drop_formed last ids h in
    ap reading (drop_text last ids) ∙ reads_line (decimal last) ((100 ∷ []) ∷ map decimal ids) (Drop ids) (decimal_plain last (omega arith))
    (letter_is_word 100 (omega arith), ids_words ids h) (written_good (drop_words last ids) (drop_numbers last ids) written) (sym form)

-- a line that asserts a bound
bound_text : (last id price : ℕ) → step_text last (Bound id price) ≡ before_spaces (decimal id ∷ (98 ∷ []) ∷ decimal price ∷ []) ++ 48 ∷ []
bound_text last id price =
    let d = decimal id in
    let p = decimal price in
    let b : List ℕ = 32 ∷ 98 ∷ 32 ∷ [] in
    let e : List ℕ = 32 ∷ 48 ∷ [] in
    let q : List ℕ = 98 ∷ 32 ∷ ((p ++ 32 ∷ []) ++ []) in
    let tail : ((p ++ 32 ∷ []) ++ []) ++ 48 ∷ [] ≡ p ++ e = ap (λ r. r ++ 48 ∷ []) (append-nil (p ++ 32 ∷ [])) ∙ append_assoc p (32 ∷ []) (48 ∷ []) in
    append_assoc (d ++ b) p e ∙ append_assoc d b (p ++ e) ∙ ap (λ r. d ++ 32 ∷ 98 ∷ 32 ∷ r) (sym tail) ∙ sym (append_assoc (d ++ 32 ∷ []) q (48 ∷ []) ∙ append_assoc d (32 ∷ []) (q ++ 48 ∷ []))

abbrev bound_words : ℕ → ℕ → List (List ℕ)
bound_words id price = decimal id ∷ decimal price ∷ (48 ∷ []) ∷ []

abbrev bound_numbers : ℕ → ℕ → List ℤ
bound_numbers id price = pos id ∷ pos price ∷ pos 0 ∷ []

bound_formed : (id price : ℕ) → 0 < id → price < 2 ^ 32 → formed Bounds (bound_numbers id price) ≡ Some (Bound id price)
bound_formed id price some small = ap (λ b. cond b (Some (Bound id price)) None) (ap₂ (λ b c. b && (c && true)) (lt-ltb 0 id some) (lt-ltb price (2 ^ 32) small))

bound_read : (last id price : ℕ) → IsId id → price < 2 ^ 32 → reading (step_text last (Bound id price)) ≡ Ok (Some (Bound id price))
bound_read last id price i small =
    let written : Write (bound_words id price) (bound_numbers id price) = (number_decimal id i.1, (number_decimal price (omega arith), (zero_number, tt))) in
    let form : formed Bounds (numbers (bound_words id price)) ≡ Some (Bound id price) =
    ap (formed Bounds) (written_numbers (bound_words id price) (bound_numbers id price) written) ∙ bound_formed id price i.0 small in
    ap reading (bound_text last id price) ∙ reads_line (decimal id) ((98 ∷ []) ∷ decimal price ∷ []) (Bound id price) (decimal_plain id (let fits = i.1 in omega (arith, fits)))
    (letter_is_word 98 (omega arith), (plain_word (decimal price) (decimal_plain price (omega arith)), tt)) (written_good (bound_words id price) (bound_numbers id price) written) (sym form)

-- each step's line is read as the step
pub step_read : (last : ℕ) (s : Step) → last < 2 ^ 63 → HasLine s → reading (step_text last s) ≡ Ok (Some s)
step_read last (Add id lits hints) fits h = add_read last id lits hints h.0 h.1 h.2
step_read last (Drop ids) fits h = drop_read last ids fits h
step_read last (Bound id price) fits h = bound_read last id price h.0 h.1

ends_in_line : (bytes : List ℕ) → IsInLine bytes → IsInLine (bytes ++ 48 ∷ [])
ends_in_line bytes h = All-append (λ b. 31 < b) bytes (48 ∷ []) h (All-cons (λ b. 31 < b) 48 [] (omega arith) (All-nil (λ b. 31 < b)))

pub step_in_line : (last : ℕ) (s : Step) → last < 2 ^ 63 → HasLine s → IsInLine (step_text last s)
step_in_line last (Add id lits hints) fits h =
    let low = (h.0).1 in
    subst IsInLine (sym (add_text last id lits hints))
    (ends_in_line (before_spaces (decimal id ∷ add_words id lits hints))
    (spaced_in_line (decimal id ∷ add_words id lits hints) (
      plain_word (decimal id) (decimal_plain id (omega (arith, low))),
      words_append (map literal_text lits) ((48 ∷ []) ∷ map signed_decimal hints) (lits_words lits h.1) (zero_is_word, hints_words hints h.2),
    )))
step_in_line last (Drop ids) fits h =
    subst IsInLine (sym (drop_text last ids)) (ends_in_line (before_spaces (decimal last ∷ (100 ∷ []) ∷ map decimal ids))
    (spaced_in_line (decimal last ∷ (100 ∷ []) ∷ map decimal ids) (plain_word (decimal last) (decimal_plain last (omega arith)), (letter_is_word 100 (omega arith), ids_words ids h))))
step_in_line last (Bound id price) fits h =
    let low = (h.0).1 in let small = h.1 in
    subst IsInLine (sym (bound_text last id price))
    (ends_in_line (before_spaces (decimal id ∷ (98 ∷ []) ∷ decimal price ∷ []))
    (spaced_in_line (decimal id ∷ (98 ∷ []) ∷ decimal price ∷ [])
    (plain_word (decimal id) (decimal_plain id (omega (arith, low))), (letter_is_word 98 (omega arith), (plain_word (decimal price) (decimal_plain price (omega (arith, small))), tt)))))

last_fits : (last : ℕ) (s : Step) → last < 2 ^ 63 → HasLine s → last_added last s < 2 ^ 63
last_fits last (Add id lits hints) fits h = (h.0).1
last_fits last (Drop ids) fits h = fits
last_fits last (Bound id price) fits h = fits

steps_read : (last : ℕ) (steps : List Step) → last < 2 ^ 63 → All HasLine steps → map reading (lines (steps_text last steps)) ≡ map (λ s. Ok (Some s)) steps
steps_read last [] fits h = refl
steps_read last (s ∷ steps) fits h =
    let here = All-head HasLine s steps h in
    ap (map reading) (line_and_rest (step_text last s) (steps_text (last_added last s) steps) (step_in_line last s fits here))
    ∙ ap₂ (λ r rs. r ∷ rs) (step_read last s fits here) (steps_read (last_added last s) steps (last_fits last s fits here) (All-tail HasLine s steps h))

pub log_read : (log : Log) → All HasLine log.steps → map reading (lines (log_text log)) ≡ map (λ s. Ok (Some s)) log.steps
log_read log h = steps_read 0 log.steps (omega arith) h
