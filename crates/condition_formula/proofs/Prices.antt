-- The clauses of the price counter: in a model a variable is true if the price is above its number, and there is such a model.
use Rattle.std.proofs.Common.{◌≡◌, ℕ, zero, suc, ◌+◌, ◌-◌, ◌<◌, ◌≤◌, Bool, true, false, not, cond, ◌||◌, List, [], ◌∷◌, ◌++◌, length, inl, inr, refl, sym, ap, ◌∙◌, subst, arith}
use Rattle.std.specs.Prelude.{◌==◌, nat_lt, if◌then◌else◌, slice_index_or}
use Rattle.std.specs.List.{flat_map}
use Rattle.std.proofs.lemmas.Bool.{cases_Bool, cases_lt, cases_eq, eq-eqb, ne_eqb, lt-ltb, le-ltb, ltb-true, or_left, false≢true}
use Rattle.std.proofs.lemmas.List.Sums.{sum_by-append}
use Rattle.arc_base.proofs.Items.{Contains-head}
use Rattle.condition_formula.specs.Lists.{upto}
use Rattle.condition_formula.specs.Prices.{share, price_of_first}
use Rattle.condition_formula.specs.declared.part.Part.{Part}
use Rattle.condition_formula.specs.Clauses.{yes, no, edit_variable, Fulfils}
use Rattle.condition_formula.specs.Prices.{kept_parts, added_parts, price_parts}
use Rattle.condition_formula.proofs.Parts.{Agrees}
use Rattle.condition_formula.proofs.Places.{in_upto, below, one_of, not_true, Fulfils-append, Fulfils-left, Fulfils-right, Fulfils-cons, Fulfils-none, Fulfils-flat_map, Fulfils-piece}

-- the price with one more edit
pub price_more : (chosen : ℕ → Bool) (weights : List ℕ) (edit : ℕ) → price_of_first chosen weights (suc edit) ≡ price_of_first chosen weights edit + share chosen weights edit
price_more chosen weights edit = sum_by-append (share chosen weights) (upto edit) (edit ∷ []) ∙ omega arith

pub share_chosen : (chosen : ℕ → Bool) (weights : List ℕ) (edit : ℕ) → chosen edit ≡ true → share chosen weights edit ≡ slice_index_or weights edit 0
share_chosen chosen weights edit t = ap (λ (b : Bool). cond b (slice_index_or weights edit 0) 0) t

pub share_not : (chosen : ℕ → Bool) (weights : List ℕ) (edit : ℕ) → chosen edit ≡ false → share chosen weights edit ≡ 0
share_not chosen weights edit f = ap (λ (b : Bool). cond b (slice_index_or weights edit 0) 0) f

-- the clauses of the arm that a test takes
pub then_arm : (a : ℕ → Bool) (b : Bool) (xs ys : List (List Part)) → b ≡ true → Fulfils a (if b then xs else ys) → Fulfils a xs
then_arm a true xs ys e h = h
then_arm a false xs ys e h = absurd (false≢true e)

pub else_arm : (a : ℕ → Bool) (b : Bool) (xs ys : List (List Part)) → b ≡ false → Fulfils a (if b then xs else ys) → Fulfils a ys
else_arm a true xs ys e h = absurd (false≢true (sym e))
else_arm a false xs ys e h = h

pub arms : (a : ℕ → Bool) (b : Bool) (xs ys : List (List Part)) → (b ≡ true → Fulfils a xs) → (b ≡ false → Fulfils a ys) → Fulfils a (if b then xs else ys)
arms a true xs ys t f = t refl
arms a false xs ys t f = f refl

-- a clause of one implication, and one of an implication from two
implied : (x y : Bool) → (not x || (y || false)) ≡ true → x ≡ true → y ≡ true
implied x y h t = elim (one_of (not x) y h) [ inl n ↦ absurd (not_true x t n) | inr r ↦ r ]

implied_by_two : (x y z : Bool) → (not x || (not y || (z || false))) ≡ true → x ≡ true → y ≡ true → z ≡ true
implied_by_two false y z h s t = absurd (false≢true s)
implied_by_two true false z h s t = absurd (false≢true t)
implied_by_two true true true h s t = refl
implied_by_two true true false h s t = h

implies : (x y : Bool) → (x ≡ true → y ≡ true) → (not x || (y || false)) ≡ true
implies false y h = refl
implies true y h = or_left y false (h refl)

two_imply : (x y z : Bool) → (x ≡ true → y ≡ true → z ≡ true) → (not x || (not y || (z || false))) ≡ true
two_imply false y z h = refl
two_imply true false z h = refl
two_imply true true z h = or_left z false (h refl refl)

kept_says : (a : ℕ → Bool) (above : ℕ → ℕ → ℕ) (edit number : ℕ) → Fulfils a (kept_parts above edit number) → 0 < edit → a (above (edit - 1) number) ≡ true → a (above edit number) ≡ true
kept_says a above edit number h l t =
    let parts = no (above (edit - 1) number) ∷ yes (above edit number) ∷ [] in
    implied (a (above (edit - 1) number)) (a (above edit number)) (else_arm a (edit == 0) [] (parts ∷ []) (ne_eqb edit 0 (λ e. omega arith)) h parts (Contains-head parts [])) t

added_low : (a : ℕ → Bool) (above : ℕ → ℕ → ℕ) (weight edit number : ℕ) → Fulfils a (added_parts above weight edit number) → number < weight →
    a (edit_variable edit) ≡ true → a (above edit number) ≡ true
added_low a above weight edit number h l t =
    let parts = no (edit_variable edit) ∷ yes (above edit number) ∷ [] in
    let more = no (edit_variable edit) ∷ no (above (edit - 1) (number - weight)) ∷ yes (above edit number) ∷ [] in
    implied (a (edit_variable edit)) (a (above edit number))
    (then_arm a (nat_lt number weight) (parts ∷ []) (if edit == 0 then [] else more ∷ []) (lt-ltb number weight l) h parts (Contains-head parts [])) t

added_high : (a : ℕ → Bool) (above : ℕ → ℕ → ℕ) (weight edit number : ℕ) → Fulfils a (added_parts above weight edit number) → weight ≤ number → 0 < edit → a (edit_variable edit) ≡ true →
    a (above (edit - 1) (number - weight)) ≡ true → a (above edit number) ≡ true
added_high a above weight edit number h l pos t u =
    let parts = no (edit_variable edit) ∷ yes (above edit number) ∷ [] in
    let more = no (edit_variable edit) ∷ no (above (edit - 1) (number - weight)) ∷ yes (above edit number) ∷ [] in
    implied_by_two (a (edit_variable edit)) (a (above (edit - 1) (number - weight))) (a (above edit number))
    (else_arm a (edit == 0) [] (more ∷ []) (ne_eqb edit 0 (λ e. omega arith))
    (else_arm a (nat_lt number weight) (parts ∷ []) (if edit == 0 then [] else more ∷ []) (le-ltb number weight l) h) more (Contains-head more [])) t u

-- the clauses of an edit and a number
cell_kept : (a : ℕ → Bool) (weights : List ℕ) (bound : ℕ) (above : ℕ → ℕ → ℕ) → Fulfils a (price_parts weights bound above) → (edit number : ℕ) →
    edit < length weights → number ≤ bound → Fulfils a (kept_parts above edit number)
cell_kept a weights bound above h edit number l m =
    let added = λ (e : ℕ) (n : ℕ). added_parts above (slice_index_or weights e 0) e n in
    let row : Fulfils a (flat_map (λ (n : ℕ). kept_parts above edit n ++ added edit n) (upto (bound + 1))) =
    Fulfils-piece a (λ (e : ℕ). flat_map (λ (n : ℕ). kept_parts above e n ++ added e n) (upto (bound + 1))) (upto (length weights)) edit h (in_upto (length weights) edit l) in
    Fulfils-left a (kept_parts above edit number) (added edit number)
    (Fulfils-piece a (λ (n : ℕ). kept_parts above edit n ++ added edit n) (upto (bound + 1)) number row (in_upto (bound + 1) number (omega arith)))

cell_added : (a : ℕ → Bool) (weights : List ℕ) (bound : ℕ) (above : ℕ → ℕ → ℕ) → Fulfils a (price_parts weights bound above) → (edit number : ℕ) →
    edit < length weights → number ≤ bound → Fulfils a (added_parts above (slice_index_or weights edit 0) edit number)
cell_added a weights bound above h edit number l m =
    let added = λ (e : ℕ) (n : ℕ). added_parts above (slice_index_or weights e 0) e n in
    let row : Fulfils a (flat_map (λ (n : ℕ). kept_parts above edit n ++ added edit n) (upto (bound + 1))) =
    Fulfils-piece a (λ (e : ℕ). flat_map (λ (n : ℕ). kept_parts above e n ++ added e n) (upto (bound + 1))) (upto (length weights)) edit h (in_upto (length weights) edit l) in
    Fulfils-right a (kept_parts above edit number) (added edit number)
    (Fulfils-piece a (λ (n : ℕ). kept_parts above edit n ++ added edit n) (upto (bound + 1)) number row (in_upto (bound + 1) number (omega arith)))

-- in a model the variable of each number that the price is above is true
pub counted_in_model : (a chosen : ℕ → Bool) (weights : List ℕ) (bound : ℕ) (above : ℕ → ℕ → ℕ) → Agrees a chosen (length weights) → Fulfils a (price_parts weights bound above) →
    (edit number : ℕ) → edit < length weights → number ≤ bound → number < price_of_first chosen weights (suc edit) → a (above edit number) ≡ true
counted_in_model a chosen weights bound above g h zero number l m p =
    elim (cases_Bool (chosen zero)) [
      | inl t ↦
          let w : number < slice_index_or weights zero 0 = omega (arith, price_more chosen weights zero, share_chosen chosen weights zero t) in
          added_low a above (slice_index_or weights zero 0) zero number (cell_added a weights bound above h zero number l m) w (g zero l ∙ t)
      | inr f ↦ absurd (omega (arith, price_more chosen weights zero, share_not chosen weights zero f))
    ]
counted_in_model a chosen weights bound above g h (suc edit) number l m p =
    let back : suc edit - 1 ≡ edit = omega arith in
    elim (cases_Bool (chosen (suc edit))) [
      | inl t ↦ elim (cases_lt number (slice_index_or weights (suc edit) 0)) [
        | inl low ↦ added_low a above (slice_index_or weights (suc edit) 0) (suc edit) number (cell_added a weights bound above h (suc edit) number l m) low (g (suc edit) l ∙ t)
        | inr high ↦
            let rest : number - slice_index_or weights (suc edit) 0 < price_of_first chosen weights (suc edit) =
            omega (arith, price_more chosen weights (suc edit), share_chosen chosen weights (suc edit) t) in
            added_high a above (slice_index_or weights (suc edit) 0) (suc edit) number (cell_added a weights bound above h (suc edit) number l m) high (omega arith) (g (suc edit) l ∙ t)
            (subst (λ (e : ℕ). a (above e (number - slice_index_or weights (suc edit) 0)) ≡ true) (sym back)
            (counted_in_model a chosen weights bound above g h edit (number - slice_index_or weights (suc edit) 0) (omega arith) (omega arith) rest))
      ]
      | inr f ↦
          let rest : number < price_of_first chosen weights (suc edit) = omega (arith, price_more chosen weights (suc edit), share_not chosen weights (suc edit) f) in
          kept_says a above (suc edit) number (cell_kept a weights bound above h (suc edit) number l m) (omega arith)
          (subst (λ (e : ℕ). a (above e number) ≡ true) (sym back) (counted_in_model a chosen weights bound above g h edit number (omega arith) m rest))
    ]

-- whether the chosen edits up to this one cost more than the number
abbrev pub costs_more : (ℕ → Bool) → List ℕ → ℕ → ℕ → Bool
costs_more chosen weights edit number = nat_lt number (price_of_first chosen weights (suc edit))

-- if each variable is true exactly if the chosen edits cost more than its number, the clauses are true
pub model_from_prices : (a chosen : ℕ → Bool) (weights : List ℕ) (bound : ℕ) (above : ℕ → ℕ → ℕ) → Agrees a chosen (length weights) →
    ((edit number : ℕ) → edit < length weights → number ≤ bound → a (above edit number) ≡ costs_more chosen weights edit number) → Fulfils a (price_parts weights bound above)
model_from_prices a chosen weights bound above g is =
    Fulfils-flat_map a (λ (e : ℕ). flat_map (λ (n : ℕ). kept_parts above e n ++ added_parts above (slice_index_or weights e 0) e n) (upto (bound + 1))) (upto (length weights)) (λ edit in_edits.
    Fulfils-flat_map a (λ (n : ℕ). kept_parts above edit n ++ added_parts above (slice_index_or weights edit 0) edit n) (upto (bound + 1)) (λ number in_numbers.
    let l : edit < length weights = below (length weights) edit in_edits in
    let b : number < bound + 1 = below (bound + 1) number in_numbers in
    let m : number ≤ bound = omega arith in
    let weight = slice_index_or weights edit 0 in
    let now : (number < price_of_first chosen weights (suc edit)) → a (above edit number) ≡ true = λ p. is edit number l m ∙ lt-ltb number (price_of_first chosen weights (suc edit)) p in
    let more : price_of_first chosen weights (suc edit) ≡ price_of_first chosen weights edit + share chosen weights edit = price_more chosen weights edit in
    let before : (n : ℕ) → n ≤ bound → (edit == 0) ≡ false → a (above (edit - 1) n) ≡ true → n < price_of_first chosen weights edit = λ n le f t.
    let pos : edit ≡ suc (edit - 1) = elim (cases_eq edit 0) [ inl z ↦ absurd (false≢true (sym f ∙ eq-eqb edit 0 z)) | inr nz ↦ omega arith ] in
    let lt : edit - 1 < length weights = omega arith in
    subst (λ (e : ℕ). n < price_of_first chosen weights e) (sym pos) (ltb-true n (price_of_first chosen weights (suc (edit - 1))) (sym (is (edit - 1) n lt le) ∙ t)) in
    Fulfils-append a (kept_parts above edit number) (added_parts above weight edit number)
    (arms a (edit == 0) [] ((no (above (edit - 1) number) ∷ yes (above edit number) ∷ []) ∷ []) (λ z. Fulfils-none a) (λ f.
    Fulfils-cons a (no (above (edit - 1) number) ∷ yes (above edit number) ∷ []) []
    (implies (a (above (edit - 1) number)) (a (above edit number)) (λ t. let p : number < price_of_first chosen weights edit = before number m f t in now (omega arith))) (Fulfils-none a)))
    (arms a (nat_lt number weight) ((no (edit_variable edit) ∷ yes (above edit number) ∷ []) ∷ [])
    (if edit == 0 then [] else (no (edit_variable edit) ∷ no (above (edit - 1) (number - weight)) ∷ yes (above edit number) ∷ []) ∷ [])
    (λ low. Fulfils-cons a (no (edit_variable edit) ∷ yes (above edit number) ∷ []) []
    (implies (a (edit_variable edit)) (a (above edit number)) (λ t.
    let s : share chosen weights edit ≡ weight = share_chosen chosen weights edit (sym (g edit l) ∙ t) in
    let lw : number < weight = ltb-true number weight low in now (omega arith))) (Fulfils-none a))
    (λ high. arms a (edit == 0) [] ((no (edit_variable edit) ∷ no (above (edit - 1) (number - weight)) ∷ yes (above edit number) ∷ []) ∷ []) (λ z. Fulfils-none a) (λ f.
    Fulfils-cons a (no (edit_variable edit) ∷ no (above (edit - 1) (number - weight)) ∷ yes (above edit number) ∷ []) []
    (two_imply (a (edit_variable edit)) (a (above (edit - 1) (number - weight))) (a (above edit number)) (λ t u.
    let s : share chosen weights edit ≡ weight = share_chosen chosen weights edit (sym (g edit l) ∙ t) in
    let less : number - weight ≤ bound = omega arith in
    let p : number - weight < price_of_first chosen weights edit = before (number - weight) less f u in now (omega arith))) (Fulfils-none a))))))
