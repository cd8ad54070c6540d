-- The plain text of a formula is read as the formula.
use Rattle.std.proofs.Common.{◌≡◌, ℕ, ◌+◌, ◌-◌, ◌<◌, ◌≤◌, ◌^◌, ℤ, pos, true, false, ◌&&◌, ◌==◌, nat_le, nat_lt, List, [], ◌∷◌, ◌++◌, length, map}
use Rattle.std.proofs.Common.{flat_map, refl, ap, ap₂, sym, ◌∙◌, subst, arith, All, Some, None, Ok, Err, decimal, codes, append_assoc, append-nil, option_map, option_and_then, sum_by, length-append}
use Rattle.std.specs.List.{list_any}
use Rattle.std.specs.Option.{option_map_or}
use Rattle.std.proofs.lemmas.Bool.{and_from, cond-true, cond-false, eq-eqb, le-leb, le-ltb}
use Rattle.std.proofs.lemmas.Fmt.{length-decimal-le}
use Rattle.std.proofs.lemmas.List.Elements.{All-cons, All-nil, All-append, All-weaker, All-head, All-tail}
use Rattle.std.proofs.lemmas.List.Splits.{slice_split_at}
use Rattle.std.proofs.lemmas.List.Sums.{sum_by-cons}
use Rattle.cnf_types.specs.declared.clauses.Clause.{Clause}
use Rattle.cnf_types.specs.declared.clauses.Formula.{Formula}
use Rattle.cnf_types.specs.declared.faults.CnfFault.TheVariants.{BadHeader}
use Rattle.cnf_types.specs.declared.header.Header.{Header}
use Rattle.cnf_types.specs.declared.literal.Lit.{Lit}
use Rattle.cnf_types.specs.Dimacs.{after_header, closed, content, count, counted, ends_closed, first_bad, from_header, header, is_bad_word}
use Rattle.cnf_types.specs.Dimacs.{is_comment, is_zero, judged, line_numbers, cnf_line_words, literal_of, numbers, pieces, reading, sized}
use Rattle.cnf_types.specs.Literals.{is_positive, variable}
use Rattle.arc_base.specs.WordNumbers.{natural}
use Rattle.arc_base.specs.TextLines.{lines, without_return}
use Rattle.arc_base.specs.Words.{words}
use Rattle.cnf_types.proofs.Content.{bad_later, content_line, numbers_line}
use Rattle.proof_log.specs.Texts.{before_spaces, literal_text}
use Rattle.proof_log.proofs.Printed.{AreWords, IsInLine, decimal_plain, line_and_rest, natural_decimal, no_comment, plain_word, spaced_in_line, words_spaced, first_word}
use Rattle.formula_text_laws.specs.Texts.{FormulasAreReadAgain, IsOfVariables, IsWithinLimits, clause_line, formula_text}
use Rattle.formula_text_laws.proofs.Words.{last-word, literals-back, literal-word, literals-good, literals-nonzero, literals-numbers, literals-words, no-return, number_of}

-- a clause's line without its end
abbrev clause_words : Clause → List ℕ
clause_words c = before_spaces (map literal_text c.lits) ++ 48 ∷ []

in-line-end : (bytes : List ℕ) → IsInLine bytes → IsInLine (bytes ++ 48 ∷ [])
in-line-end bytes h = All-append (λ b. 31 < b) bytes (48 ∷ []) h (All-cons (λ b. 31 < b) 48 [] (omega arith) (All-nil (λ b. 31 < b)))

abbrev AreOfVariables : ℕ → List Clause → Type 0
AreOfVariables vars cs = All (λ c. All (IsOfVariables vars) c.lits) cs

module _ (vars : ℕ) (small : vars < 2 ^ 63) where
  in-line : (c : Clause) → All (IsOfVariables vars) c.lits → IsInLine (clause_words c)
  in-line c h = in-line-end (before_spaces (map literal_text c.lits)) (spaced_in_line (map literal_text c.lits) (literals-words vars small c.lits h))

  -- the lines of the clauses
  body-lines : (cs : List Clause) → AreOfVariables vars cs → lines (flat_map clause_line cs) ≡ map clause_words cs
  body-lines [] h = refl
  body-lines (c ∷ cs) h =
      let here = All-head (λ c. All (IsOfVariables vars) c.lits) c cs h in
      let front = before_spaces (map literal_text c.lits) in
      let rest = flat_map clause_line cs in
      let cut : (front ++ 48 ∷ 10 ∷ []) ++ rest ≡ (front ++ 48 ∷ []) ++ 10 ∷ rest =
      append_assoc front (48 ∷ 10 ∷ []) rest ∙ sym (append_assoc front (48 ∷ []) (10 ∷ rest)) in
      ap lines cut ∙ line_and_rest (clause_words c) rest (in-line c here) ∙ ap (λ ls. clause_words c ∷ ls) (body-lines cs (All-tail (λ c. All (IsOfVariables vars) c.lits) c cs h))

  clause-read : (c : Clause) → All (IsOfVariables vars) c.lits → words (clause_words c) ≡ map literal_text c.lits ++ (48 ∷ []) ∷ []
  clause-read c h = words_spaced (map literal_text c.lits) (literals-words vars small c.lits h)

  -- no line of a clause is a comment: it begins with a literal or with the 0
  no-comment : (lits : List Lit) → All (IsOfVariables vars) lits → is_comment (before_spaces (map literal_text lits) ++ 48 ∷ []) ≡ false
  no-comment [] h = refl
  no-comment (l ∷ lits) h =
      let w = literal_text l in
      let rest = before_spaces (map literal_text lits) in
      let here = All-head (IsOfVariables vars) l lits h in
      ap is_comment (append_assoc (w ++ 32 ∷ []) rest (48 ∷ []) ∙ append_assoc w (32 ∷ []) (rest ++ 48 ∷ []))
      ∙ no_comment w (32 ∷ (rest ++ 48 ∷ [])) (literal-word (is_positive l) (variable l) (omega (arith, here.1)))

  some-bytes : (bytes : List ℕ) → 0 < length (bytes ++ 48 ∷ [])
  some-bytes bytes = omega (arith, length-append bytes (48 ∷ []))

  no-bad : (n : ℕ) (cs : List Clause) → AreOfVariables vars cs → first_bad vars (content n (map clause_words cs)) ≡ None
  no-bad n [] h = refl
  no-bad n (c ∷ cs) h =
      let here = All-head (λ c. All (IsOfVariables vars) c.lits) c cs h in
      let line = clause_words c in
      let good : list_any (is_bad_word vars) (words line) ≡ false = ap (list_any (is_bad_word vars)) (clause-read c here) ∙ literals-good vars small c.lits here in
      sym (bad_later vars n line line (map clause_words cs) (line ∷ map clause_words cs) refl (no-comment c.lits here)
      (sym (no-return line (some-bytes (before_spaces (map literal_text c.lits))) (in-line c here))) good)
      ∙ no-bad (n + 1) cs (All-tail (λ c. All (IsOfVariables vars) c.lits) c cs h)

  -- the numbers of the clauses
  abbrev all_numbers : List Clause → List ℤ
  all_numbers [] = []
  all_numbers (c ∷ cs) = map number_of c.lits ++ pos 0 ∷ all_numbers cs

  numbers-read : (n : ℕ) (cs : List Clause) → AreOfVariables vars cs → numbers vars (content n (map clause_words cs)) ++ [] ≡ all_numbers cs
  numbers-read n [] h = refl
  numbers-read n (c ∷ cs) h =
      let here = All-head (λ c. All (IsOfVariables vars) c.lits) c cs h in
      let line = clause_words c in
      sym (numbers_line vars n line line (map clause_words cs) (line ∷ map clause_words cs) [] refl (no-comment c.lits here)
      (sym (no-return line (some-bytes (before_spaces (map literal_text c.lits))) (in-line c here))))
      ∙ ap₂ (λ a b. a ++ b) (ap (line_numbers vars) (clause-read c here) ∙ literals-numbers vars small c.lits here) (numbers-read (n + 1) cs (All-tail (λ c. All (IsOfVariables vars) c.lits) c cs h))
      ∙ append_assoc (map number_of c.lits) (pos 0 ∷ []) (all_numbers cs)

  -- the pieces between zeros: the clauses' literals, and nothing after the last
  pieces-read : (cs : List Clause) → AreOfVariables vars cs → pieces (all_numbers cs) ≡ map (λ c. c.lits) cs ++ [] ∷ []
  pieces-read [] h = refl
  pieces-read (c ∷ cs) h =
      let here = All-head (λ c. All (IsOfVariables vars) c.lits) c cs h in
      ap (map (map literal_of)) (slice_split_at is_zero (map number_of c.lits) (pos 0) (all_numbers cs) (literals-nonzero vars small c.lits here) refl)
      ∙ ap₂ (λ p ps. p ∷ ps) (literals-back vars small c.lits here) (pieces-read cs (All-tail (λ c. All (IsOfVariables vars) c.lits) c cs h))

abbrev closed_pieces : List Clause → List (List Lit)
closed_pieces cs = map (λ c. c.lits) cs ++ [] ∷ []

closed-back : (cs : List Clause) → closed (closed_pieces cs) ≡ cs
closed-back [] = refl
closed-back (c ∷ []) = refl
closed-back (c ∷ d ∷ cs) = ap (λ r. c ∷ r) (closed-back (d ∷ cs))

ends-closed : (cs : List Clause) → ends_closed (closed_pieces cs) ≡ true
ends-closed [] = refl
ends-closed (c ∷ []) = refl
ends-closed (c ∷ d ∷ cs) = ends-closed (d ∷ cs)

literals-counted : (cs : List Clause) → sum_by length (closed_pieces cs) ≡ sum_by (λ c. length c.lits) cs
literals-counted [] = refl
literals-counted (c ∷ cs) =
    sum_by-cons length c.lits (closed_pieces cs) ∙ ap (λ n. length c.lits + n) (literals-counted cs) ∙ sym (sum_by-cons (λ c'. length c'.lits) c cs)

-- a count of at most 18 digits
count-read : (n : ℕ) → n ≤ 999999999999999999 → count (decimal n) ≡ Some n
count-read n few =
    let short : length (decimal n) ≤ 18 = length-decimal-le 18 n (omega arith) (omega arith) (omega arith) in
    cond-true (nat_le (length (decimal n)) 18) (natural (2 ^ 63 - 1) (decimal n)) None (le-leb (length (decimal n)) 18 short)
    ∙ natural_decimal (2 ^ 63 - 1) n (omega arith) (omega arith)

abbrev head : ℕ → ℕ → List ℕ
head vars clauses = codes "p cnf " ++ (decimal vars ++ 32 ∷ decimal clauses)

module _ (vars clauses : ℕ) (few : vars ≤ 16777216) (bounded : clauses ≤ 999999999999999999) where
  two-words : AreWords (decimal vars ∷ decimal clauses ∷ [])
  two-words = (plain_word (decimal vars) (decimal_plain vars (omega arith)), (plain_word (decimal clauses) (decimal_plain clauses (omega arith)), tt))

  tail-in-line : IsInLine (decimal vars ++ 32 ∷ decimal clauses)
  tail-in-line =
      let ws = two-words in
      let high = λ (w : List ℕ) (h : All (λ b. 32 < b) w). All-weaker (λ b. 32 < b) (λ b. 31 < b) (λ b k. omega (arith, k)) w h in
      All-append (λ b. 31 < b) (decimal vars) (32 ∷ decimal clauses) (high (decimal vars) (ws.0).1) (All-cons (λ b. 31 < b) 32 (decimal clauses) (omega arith) (high (decimal clauses) (ws.1.0).1))

  head-in-line : IsInLine (head vars clauses)
  head-in-line =
      let step = λ (b : ℕ) (bs : List ℕ) (k : 31 < b) (h : IsInLine bs). All-cons (λ b. 31 < b) b bs k h in
      let tail = decimal vars ++ 32 ∷ decimal clauses in
      step 112 (32 ∷ 99 ∷ 110 ∷ 102 ∷ 32 ∷ tail) (omega arith) (step 32 (99 ∷ 110 ∷ 102 ∷ 32 ∷ tail) (omega arith) (step 99 (110 ∷ 102 ∷ 32 ∷ tail) (omega arith)
      (step 110 (102 ∷ 32 ∷ tail) (omega arith) (step 102 (32 ∷ tail) (omega arith) (step 32 tail (omega arith) tail-in-line)))))

  head-words : words (head vars clauses) ≡ codes "p" ∷ codes "cnf" ∷ decimal vars ∷ decimal clauses ∷ []
  head-words =
      let ws = two-words in
      ap (λ r. codes "p" ∷ codes "cnf" ∷ r) (first_word (decimal vars) (decimal clauses) ws.0 ∙ ap (λ r. decimal vars ∷ r) (last-word (decimal clauses) ws.1.0))

  head-read : header (cnf_line_words (head vars clauses)) ≡ Some (record { vars = vars; clauses = clauses })
  head-read =
      let bare : without_return (head vars clauses) ≡ head vars clauses = no-return (head vars clauses) (omega arith) head-in-line in
      ap (λ l. header (words l)) bare ∙ ap header head-words
      ∙ ap₂ (λ v c. option_and_then (λ n. option_map (λ m. record { vars = n; clauses = m }) c) v) (count-read vars (omega arith)) (count-read clauses bounded)

-- the text is its header's line and the lines of its clauses
head-line : (f : Formula) → formula_text f ≡ head f.vars (length f.clauses) ++ 10 ∷ flat_map clause_line f.clauses
head-line f =
    let v = decimal f.vars in
    let n = decimal (length f.clauses) in
    let rest = flat_map clause_line f.clauses in
    let inner : codes "p cnf " ++ v ++ codes " " ++ n ≡ head f.vars (length f.clauses) = ap (λ r. codes "p cnf " ++ r) (append_assoc v (codes " ") n) in
    append_assoc (codes "p cnf " ++ v ++ codes " " ++ n) (codes "\n") rest ∙ ap (λ h. h ++ 10 ∷ rest) inner

text-lines : (f : Formula) → IsWithinLimits f → lines (formula_text f) ≡ head f.vars (length f.clauses) ∷ map clause_words f.clauses
text-lines f h =
    let few = h.few_variables in
    ap lines (head-line f) ∙ line_and_rest (head f.vars (length f.clauses)) (flat_map clause_line f.clauses) (head-in-line f.vars (length f.clauses) few h.few_clauses)
    ∙ ap (λ ls. head f.vars (length f.clauses) ∷ ls) (body-lines f.vars (omega (arith, few)) f.clauses h.literals)

-- the pieces of the formula are the formula
counted-read : (f : Formula) (last : ℕ) → IsWithinLimits f → counted (record { vars = f.vars; clauses = length f.clauses }) last (closed_pieces f.clauses) ≡ Ok f
counted-read f last h =
    let same : (length (closed (closed_pieces f.clauses)) == length f.clauses) ≡ true = eq-eqb _ _ (ap length (closed-back f.clauses)) in
    let few : sum_by length (closed_pieces f.clauses) ≤ 32000000 = subst (λ (n : ℕ). n ≤ 32000000) (sym (literals-counted f.clauses)) h.few_literals in
    cond-true ((length (closed (closed_pieces f.clauses)) == length f.clauses) && ends_closed (closed_pieces f.clauses)) (sized f.vars (closed_pieces f.clauses)) _
    (and_from _ _ same (ends-closed f.clauses))
    ∙ cond-true (nat_le (sum_by length (closed_pieces f.clauses)) 32000000) (Ok (record { vars = f.vars; clauses = closed (closed_pieces f.clauses) })) _ (le-leb _ _ few)
    ∙ ap (λ (cs : List Clause). Ok (record { vars = f.vars; clauses = cs })) (closed-back f.clauses)

body-read : (f : Formula) (last : ℕ) → IsWithinLimits f → after_header last (content 1 (map clause_words f.clauses)) (record { vars = f.vars; clauses = length f.clauses }) ≡ Ok f
body-read f last h =
    let few = h.few_variables in
    let small : f.vars < 2 ^ 63 = omega (arith, few) in
    let ls = content 1 (map clause_words f.clauses) in
    let top : Header = record { vars = f.vars; clauses = length f.clauses } in
    let ps : pieces (numbers f.vars ls) ≡ closed_pieces f.clauses =
    ap pieces (sym (append-nil (numbers f.vars ls)) ∙ numbers-read f.vars small 1 f.clauses h.literals) ∙ pieces-read f.vars small f.clauses h.literals in
    cond-false (nat_lt 16777216 f.vars) _ (judged top last (first_bad f.vars ls) (pieces (numbers f.vars ls))) (lt-false f.vars few)
    ∙ ap₂ (judged top last) (no-bad f.vars small 1 f.clauses h.literals) ps
    ∙ counted-read f last h
  where
    lt-false : (n : ℕ) → n ≤ 16777216 → nat_lt 16777216 n ≡ false
    lt-false n low = le-ltb 16777216 n low

pub read-again : FormulasAreReadAgain
unfolding reading
read-again f h =
    let ls = text-lines f h in
    let last = length (head f.vars (length f.clauses) ∷ map clause_words f.clauses) in
    let first : content 0 (head f.vars (length f.clauses) ∷ map clause_words f.clauses) ≡ (1, head f.vars (length f.clauses)) ∷ content 1 (map clause_words f.clauses) =
    content_line 0 (head f.vars (length f.clauses)) (map clause_words f.clauses) refl in
    ap (λ l. from_header (length l) (content 0 l)) ls
    ∙ ap (from_header last) first
    ∙ ap (λ o. option_map_or (after_header last (content 1 (map clause_words f.clauses))) o (Err (BadHeader 1))) (head-read f.vars (length f.clauses) h.few_variables h.few_clauses)
    ∙ body-read f last h
