-- The variables of a formula that was read are from 1 to the number in its header, which is not too large.
use Rattle.std.proofs.Common.{◌≡◌, ◌≤◌, ◌==◌, ◌&&◌, ℕ, zero, suc, ℤ, pos, negsuc, unsigned_abs, Bool, true, false, List, [], ◌∷◌, map}
use Rattle.std.proofs.Common.{length, Option, Some, None, IfSome, All, Result, Ok, Err, cond, if◌then◌else◌, option_map, option_and_then, nat_lt, nat_le, refl, subst, arith, sum_by}
use Rattle.std.specs.List.{slice_split, onto_first, cons_option}
use Rattle.std.specs.Option.{option_map_or}
use Rattle.std.proofs.lemmas.Bool.{and_parts, eqb-false, leb-true, ltb-false}
use Rattle.std.proofs.lemmas.List.Elements.{All-cons, All-nil, All-append, All-head, All-tail, All-map, All-weaker}
use Rattle.cnf_types.specs.declared.literal.Lit.{Lit}
use Rattle.cnf_types.specs.declared.clauses.Clause.{Clause}
use Rattle.cnf_types.specs.declared.clauses.Formula.{Formula}
use Rattle.cnf_types.specs.declared.faults.CnfFault.{CnfFault}
use Rattle.cnf_types.specs.declared.header.Header.{Header}
use Rattle.cnf_types.specs.Literals.{variable}
use Rattle.arc_base.specs.WordNumbers.{is_natural, minus, natural, number, value_after}
use Rattle.arc_base.specs.TextLines.{lines}
use Rattle.cnf_types.specs.Dimacs.{after_header, closed, content, counted, ends_closed, first_bad, from_header, header, is_zero, judged, line_numbers, cnf_line_words, literal_of, numbers, pieces}
use Rattle.cnf_types.specs.Dimacs.{reading}
use Rattle.clean_logs.specs.Laws.{IsWithin, HasItsVariables}

-- ---- numbers

abbrev Small : ℕ → ℤ → Type 0
Small vars z = unsigned_abs z ≤ vars

natural_small : (limit : ℕ) (word : List ℕ) → IfSome (natural limit word) (λ n. n ≤ limit)
natural_small limit word = go (is_natural limit word) refl
  where
    go : (b : Bool) → is_natural limit word ≡ b → IfSome (if b then Some (value_after 0 word) else None) (λ n. n ≤ limit)
    go true e = leb-true _ _ (and_parts _ _ (and_parts _ _ e).1).1
    go false e = tt

minus_small : (limit n : ℕ) → n ≤ limit → IfSome (minus n) (Small limit)
minus_small limit zero within = tt
minus_small limit (suc n) within = within

negative_small : (limit : ℕ) (o : Option ℕ) → IfSome o (λ n. n ≤ limit) → IfSome (option_and_then minus o) (Small limit)
negative_small limit None h = tt
negative_small limit (Some n) h = minus_small limit n h

positive_small : (limit : ℕ) (o : Option ℕ) → IfSome o (λ n. n ≤ limit) → IfSome (option_map pos o) (Small limit)
positive_small limit None h = tt
positive_small limit (Some n) h = h

number_small : (limit : ℕ) (word : List ℕ) → IfSome (number limit word) (Small limit)
number_small limit [] = tt
number_small limit (b ∷ bytes) = go (b == 45)
  where
    go : (t : Bool) → IfSome (if t then option_and_then minus (natural limit bytes) else option_map pos (natural limit (b ∷ bytes))) (Small limit)
    go true = negative_small limit (natural limit bytes) (natural_small limit bytes)
    go false = positive_small limit (natural limit (b ∷ bytes)) (natural_small limit (b ∷ bytes))

cons_small : (vars : ℕ) (o : Option ℤ) (zs : List ℤ) → IfSome o (Small vars) → All (Small vars) zs → All (Small vars) (cons_option o zs)
cons_small vars None zs h all = all
cons_small vars (Some z) zs h all = All-cons (Small vars) z zs h all

line_small : (vars : ℕ) (ws : List (List ℕ)) → All (Small vars) (line_numbers vars ws)
line_small vars [] = All-nil (Small vars)
line_small vars (w ∷ ws) = cons_small vars (number vars w) (line_numbers vars ws) (number_small vars w) (line_small vars ws)

all_small : (vars : ℕ) (ls : List (ℕ × List ℕ)) → All (Small vars) (numbers vars ls)
all_small vars [] = All-nil (Small vars)
all_small vars (l ∷ ls) = All-append (Small vars) (line_numbers vars (cnf_line_words l.1)) (numbers vars ls) (line_small vars (cnf_line_words l.1)) (all_small vars ls)

-- ---- literals

-- the number of a variable, whatever its sign
abbrev Names : ℕ → ℤ → Type 0
Names vars z = (1 ≤ unsigned_abs z) × (unsigned_abs z ≤ vars)

abbrev InRange : ℕ → Lit → Type 0
InRange vars l = (1 ≤ variable l) × (variable l ≤ vars)

not_zero : (z : ℤ) → is_zero z ≡ false → 1 ≤ unsigned_abs z
not_zero (pos n) e = omega (arith, eqb-false n 0 e)
not_zero (negsuc n) e = omega arith

literal_in_range : (vars : ℕ) (z : ℤ) → Names vars z → InRange vars (literal_of z)
literal_in_range vars (pos n) h = (omega (arith, h.0), omega (arith, h.1))
literal_in_range vars (negsuc n) h = (omega arith, omega (arith, h.1))

onto_first_names : (vars : ℕ) (z : ℤ) (parts : List (List ℤ)) → Names vars z → All (All (Names vars)) parts → All (All (Names vars)) (onto_first z parts)
onto_first_names vars z [] h all = All-cons (All (Names vars)) (z ∷ []) [] (All-cons (Names vars) z [] h (All-nil (Names vars))) (All-nil (All (Names vars)))
onto_first_names vars z (part ∷ parts) h all =
    All-cons (All (Names vars)) (z ∷ part) parts (All-cons (Names vars) z part h (All-head (All (Names vars)) part parts all)) (All-tail (All (Names vars)) part parts all)

parts_name : (vars : ℕ) (zs : List ℤ) → All (Small vars) zs → All (All (Names vars)) (slice_split is_zero zs)
parts_name vars [] all = All-cons (All (Names vars)) [] [] (All-nil (Names vars)) (All-nil (All (Names vars)))
parts_name vars (z ∷ zs) all = go (is_zero z) refl (parts_name vars zs (All-tail (Small vars) z zs all))
  where
    go : (t : Bool) → is_zero z ≡ t → All (All (Names vars)) (slice_split is_zero zs) → All (All (Names vars)) (cond t ([] ∷ slice_split is_zero zs) (onto_first z (slice_split is_zero zs)))
    go true e later = All-cons (All (Names vars)) [] (slice_split is_zero zs) (All-nil (Names vars)) later
    go false e later = onto_first_names vars z (slice_split is_zero zs) (not_zero z e, All-head (Small vars) z zs all) later

pieces_in_range : (vars : ℕ) (ls : List (ℕ × List ℕ)) → All (All (InRange vars)) (pieces (numbers vars ls))
pieces_in_range vars ls =
    let parts : List (List ℤ) = slice_split is_zero (numbers vars ls) in
    let each : (part : List ℤ) → All (Names vars) part → All (InRange vars) (map literal_of part) =
    λ part all. All-map (InRange vars) literal_of part (All-weaker (Names vars) (λ z. InRange vars (literal_of z)) (literal_in_range vars) part all) in
    All-map (All (InRange vars)) (map literal_of) parts
    (All-weaker (All (Names vars)) (λ part. All (InRange vars) (map literal_of part)) each parts (parts_name vars (numbers vars ls) (all_small vars ls)))

closed_in_range : (vars : ℕ) (ps : List (List Lit)) → All (All (InRange vars)) ps → All (λ c. IsWithin vars c.lits) (closed ps)
closed_in_range vars [] all = All-nil _
closed_in_range vars (p ∷ []) all = All-nil _
closed_in_range vars (p ∷ q ∷ ps) all =
    let rest = closed_in_range vars (q ∷ ps) (All-tail (All (InRange vars)) p (q ∷ ps) all) in
    All-cons (λ (c : Clause). IsWithin vars c.lits) (record { lits = p }) (closed (q ∷ ps)) (All-head (All (InRange vars)) p (q ∷ ps) all) rest

-- ---- the formula

abbrev IsGood : Formula → Type 0
IsGood f = HasItsVariables f × (f.vars ≤ 16777216)

abbrev GoodIfOk : Result Formula CnfFault → Type 0
GoodIfOk (Ok f) = IsGood f
GoodIfOk (Err fault) = Unit {0}

good_counted : (h : Header) (last : ℕ) (ls : List (ℕ × List ℕ)) → h.vars ≤ 16777216 → GoodIfOk (counted h last (pieces (numbers h.vars ls)))
good_counted h last ls small = go ((length (closed ps) == h.clauses) && ends_closed ps) (nat_le (sum_by length ps) 32000000) _ _
  where
    ps : List (List Lit)
    ps = pieces (numbers h.vars ls)

    go : (b c : Bool) (large uncounted : CnfFault) → GoodIfOk (if b then (if c then Ok (record { vars = h.vars; clauses = closed ps }) else Err large) else Err uncounted)
    go true true large uncounted = (closed_in_range h.vars ps (pieces_in_range h.vars ls), small)
    go true false large uncounted = tt
    go false c large uncounted = tt

good_judged : (h : Header) (last : ℕ) (ls : List (ℕ × List ℕ)) (o : Option (ℕ × List ℕ)) → h.vars ≤ 16777216 → GoodIfOk (judged h last o (pieces (numbers h.vars ls)))
good_judged h last ls None small = good_counted h last ls small
good_judged h last ls (Some line) small = tt

good_after : (last : ℕ) (ls : List (ℕ × List ℕ)) (h : Header) → GoodIfOk (after_header last ls h)
good_after last ls h = go _ (nat_lt 16777216 h.vars) refl
  where
    go : (large : CnfFault) (b : Bool) → nat_lt 16777216 h.vars ≡ b → GoodIfOk (if b then Err large else judged h last (first_bad h.vars ls) (pieces (numbers h.vars ls)))
    go large true e = tt
    go large false e = good_judged h last ls (first_bad h.vars ls) (omega (arith, ltb-false _ _ e))

good_from : (last : ℕ) (ls : List (ℕ × List ℕ)) → GoodIfOk (from_header last ls)
good_from last [] = tt
good_from last (l ∷ ls) = go _ (header (cnf_line_words l.1))
  where
    go : (unread : CnfFault) (o : Option Header) → GoodIfOk (option_map_or (after_header last ls) o (Err unread))
    go unread None = tt
    go unread (Some h) = good_after last ls h

pub formula_is_good : (text : List ℕ) (f : Formula) → reading text ≡ Ok f → HasItsVariables f × (f.vars ≤ 16777216)
unfolding reading
formula_is_good text f e = subst GoodIfOk e (good_from (length (lines text)) (content 0 (lines text)))
