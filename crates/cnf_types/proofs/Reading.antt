-- What a whole text is read as, from what its parts are.
use Rattle.std.proofs.Common.{◌≡◌, ℕ, ◌+◌, ◌<◌, ◌≤◌, Bool, true, false, cond, nat_le, List, [], ◌∷◌, ◌++◌, length, map}
use Rattle.std.proofs.Common.{refl, ap, sym, ◌∙◌, append-nil, Option, Some, None, Result, Ok, Err, IsSomeAnd, sum_by, ◌==◌, ◌&&◌, add-zero}
use Rattle.std.proofs.lemmas.Bool.{eq-eqb, ne_eqb, and_right, cond-true, cond-false, lt-ltb, le-ltb, le-leb, lt-leb}
use Rattle.std.proofs.lemmas.List.Sums.{sum_by-append, sum_by-cons}
use Rattle.arc_base.specs.declared.refusal.LimitKind.TheVariants.{Literals, Variables}
use Rattle.cnf_types.specs.declared.literal.Lit.{Lit}
use Rattle.cnf_types.specs.declared.clauses.Clause.{Clause}
use Rattle.cnf_types.specs.declared.clauses.Formula.{Formula}
use Rattle.cnf_types.specs.declared.faults.CnfFault.{CnfFault}
use Rattle.cnf_types.specs.declared.faults.CnfFault.TheVariants.{BadHeader, BadNumber, Count, TooLarge, Memory}
use Rattle.cnf_types.specs.declared.header.Header.{Header}
use Rattle.arc_base.specs.TextLines.{lines}
use Rattle.cnf_types.specs.Dimacs.{closed, ends_closed, counted, sized, judged, after_header, from_header, reading, content, first_bad, numbers, pieces, IsFaultOfCnf}
use Rattle.cnf_types.specs.Progress.{pieces_after, IsFirstBad}

abbrev literals : Clause → List Lit
literals c = c.lits

closed_more : (p : List Lit) (ps : List (List Lit)) (f : List Lit) → closed (p ∷ (ps ++ f ∷ [])) ≡ record { lits = p } ∷ closed (ps ++ f ∷ [])
closed_more p [] f = refl
closed_more p (q ∷ ps) f = refl

closed_all : (clauses : List Clause) (f : List Lit) → closed (map literals clauses ++ f ∷ []) ≡ clauses
closed_all [] f = refl
closed_all (c ∷ clauses) f = closed_more c.lits (map literals clauses) f ∙ ap (λ cs. c ∷ cs) (closed_all clauses f)

ends_more : (p : List Lit) (ps : List (List Lit)) (f : List Lit) → ends_closed (p ∷ (ps ++ f ∷ [])) ≡ ends_closed (ps ++ f ∷ [])
ends_more p [] f = refl
ends_more p (q ∷ ps) f = refl

ends_all : (clauses : List Clause) (f : List Lit) → ends_closed (map literals clauses ++ f ∷ []) ≡ ends_closed (f ∷ [])
ends_all [] f = refl
ends_all (c ∷ clauses) f = ends_more c.lits (map literals clauses) f ∙ ends_all clauses f

-- the pieces of what was read
pub last_pieces : (clauses : List Clause) (front : List Lit) → pieces_after clauses front [] ≡ map literals clauses ++ front ∷ []
last_pieces clauses front = ap (λ f. map literals clauses ++ f ∷ []) (append-nil front)

counted_by : (h : Header) (last : ℕ) (clauses : List Clause) (front : List Lit) (test : Bool) →
    test ≡ ((length clauses == h.clauses) && ends_closed (front ∷ [])) →
    counted h last (pieces_after clauses front []) ≡ cond test (sized h.vars (map literals clauses ++ front ∷ [])) (Err (Count last))
counted_by h last clauses front test e =
    ap (counted h last) (last_pieces clauses front) ∙ ap (λ b. cond b (sized h.vars (map literals clauses ++ front ∷ [])) (Err (Count last))) (ap
    (λ cs. (length cs == h.clauses) && ends_closed (map literals clauses ++ front ∷ [])) (closed_all clauses front) ∙ ap (λ b. (length clauses == h.clauses) && b) (ends_all clauses front) ∙ sym e)

not_whole : (n m : ℕ) (front : List Lit) → ((n ≡ m) × (front ≡ []) → ⊥) → false ≡ ((n == m) && ends_closed (front ∷ []))
not_whole n m [] h = sym (ap (λ b. b && true) (ne_eqb n m (λ e. h (e, refl))))
not_whole n m (l ∷ ls) h = sym (and_right (n == m) false refl)

-- another number of clauses, or one that is not closed
pub counted_wrong : (h : Header) (last : ℕ) (clauses : List Clause) (front : List Lit) → ((length clauses ≡ h.clauses) × (front ≡ []) → ⊥) →
    Err (Count last) ≡ counted h last (pieces_after clauses front [])
counted_wrong h last clauses front wrong = sym (counted_by h last clauses front false (not_whole (length clauses) h.clauses front wrong))

sum_of_lengths : (clauses : List Clause) → sum_by length (map literals clauses) ≡ sum_by (λ (c : Clause). length c.lits) clauses
sum_of_lengths [] = refl
sum_of_lengths (c ∷ clauses) =
    sum_by-cons length c.lits (map literals clauses) ∙ ap (λ n. length c.lits + n) (sum_of_lengths clauses) ∙ sym (sum_by-cons (λ (d : Clause). length d.lits) c clauses)

count_of_pieces : (clauses : List Clause) → sum_by length (map literals clauses ++ [] ∷ []) ≡ sum_by (λ (c : Clause). length c.lits) clauses
count_of_pieces clauses = sum_by-append length (map literals clauses) ([] ∷ []) ∙ add-zero (sum_by length (map literals clauses)) ∙ sum_of_lengths clauses

-- the right number of clauses
pub counted_right : (h : Header) (last : ℕ) (clauses : List Clause) (front : List Lit) → length clauses ≡ h.clauses → front ≡ [] →
    counted h last (pieces_after clauses front []) ≡ sized h.vars (map literals clauses ++ [] ∷ [])
counted_right h last clauses front count_is front_is =
    let test : true ≡ ((length clauses == h.clauses) && ends_closed (front ∷ [])) = rw front_is (sym (ap (λ b. b && true) (eq-eqb (length clauses) h.clauses count_is))) in
    counted_by h last clauses front true test ∙ ap (λ f. sized h.vars (map literals clauses ++ f ∷ [])) front_is

-- of them too many literals
pub sized_large : (vars : ℕ) (clauses : List Clause) (count : ℕ) → count ≡ sum_by (λ (c : Clause). length c.lits) clauses → 32000000 < count →
    Err (TooLarge Literals count) ≡ sized vars (map literals clauses ++ [] ∷ [])
sized_large vars clauses count count_is large =
    let is : sum_by length (map literals clauses ++ [] ∷ []) ≡ count = count_of_pieces clauses ∙ sym count_is in
    sym (cond-false _ _ _ (ap (λ n. nat_le n 32000000) is ∙ lt-leb count 32000000 large) ∙ ap (λ n. Err (TooLarge Literals n)) is)

-- or not
pub sized_small : (vars : ℕ) (clauses : List Clause) (count : ℕ) → count ≡ sum_by (λ (c : Clause). length c.lits) clauses → count ≤ 32000000 →
    Ok (record { vars = vars; clauses = clauses }) ≡ sized vars (map literals clauses ++ [] ∷ [])
sized_small vars clauses count count_is small =
    let is : sum_by length (map literals clauses ++ [] ∷ []) ≡ count = count_of_pieces clauses ∙ sym count_is in
    sym (cond-true _ _ _ (ap (λ n. nat_le n 32000000) is ∙ le-leb count 32000000 small) ∙ ap (λ cs. Ok (record { vars = vars; clauses = cs })) (closed_all clauses []))

-- a fault is that of the text
pub fault_is : (text : List ℕ) (fault : CnfFault) → reading text ≡ Err fault → IsFaultOfCnf text fault
fault_is text (BadHeader n) e = e
fault_is text (BadNumber n) e = e
fault_is text (Count n) e = e
fault_is text (TooLarge kind n) e = e
fault_is text Memory e = tt

pub read_from : (text : List ℕ) (r : Result Formula CnfFault) → from_header (length (lines text)) (content 0 (lines text)) ≡ r → reading text ≡ r
unfolding reading
read_from text r e = e

-- a text whose header is read
module _ (text : List ℕ) (h : Header) (n : ℕ) (rest : List (List ℕ))
    (header_is : from_header (length (lines text)) (content 0 (lines text)) ≡ after_header (length (lines text)) (content n rest) h) where
  pub too_many : 16777216 < h.vars → reading text ≡ Err (TooLarge Variables h.vars)
  too_many large = read_from text _ (header_is ∙ cond-true _ _ _ (lt-ltb 16777216 h.vars large))

  pub judged_is : h.vars ≤ 16777216 → reading text ≡ judged h (length (lines text)) (first_bad h.vars (content n rest)) (pieces (numbers h.vars (content n rest)))
  judged_is small = read_from text _ (header_is ∙ cond-false _ _ _ (le-ltb 16777216 h.vars small))

  bad_is : (bad : Option (ℕ × List ℕ)) (m : ℕ) → IsSomeAnd bad (λ l. l.0 ≡ m) → judged h (length (lines text)) bad (pieces (numbers h.vars (content n rest))) ≡ Err (BadNumber m)
  bad_is (Some l) m e = ap (λ k. Err (BadNumber k)) e
  bad_is None m e = absurd e

  pub body_fault : (fault : CnfFault) → h.vars ≤ 16777216 → IsFirstBad fault (first_bad h.vars (content n rest)) → IsFaultOfCnf text fault
  body_fault Memory small e = tt
  body_fault (BadNumber m) small e = judged_is small ∙ bad_is (first_bad h.vars (content n rest)) m e
  body_fault (BadHeader m) small e = absurd e
  body_fault (Count m) small e = absurd e
  body_fault (TooLarge kind m) small e = absurd e

  pub whole : (last : ℕ) (clauses : List Clause) (front : List Lit) → h.vars ≤ 16777216 → first_bad h.vars (content n rest) ≡ None →
      pieces_after clauses front [] ≡ pieces (numbers h.vars (content n rest) ++ []) → last ≡ n + length rest → n + length rest ≡ length (lines text) →
      reading text ≡ counted h last (pieces_after clauses front [])
  whole last clauses front small none pieces_are last_is lines_are =
      judged_is small ∙ ap (λ bad. judged h (length (lines text)) bad (pieces (numbers h.vars (content n rest)))) none ∙ ap (counted h (length (lines text)))
      (ap pieces (sym (append-nil (numbers h.vars (content n rest)))) ∙ sym pieces_are) ∙ ap (λ m. counted h m (pieces_after clauses front [])) (sym lines_are ∙ sym last_is)
