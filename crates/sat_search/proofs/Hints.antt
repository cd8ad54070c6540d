-- Propagation along hints, under sets of false literals that grow.
use Rattle.std.proofs.Common.{◌≡◌, ℕ, ◌+◌, ℤ, pos, Bool, true, false, not, cond, IsTrue, ◌⊎◌, inl, inr, List, [], ◌∷◌, refl, ap, sym, ◌∙◌, subst, Option, Some, None}
use Rattle.std.specs.List.{list_all}
use Rattle.std.proofs.lemmas.Bool.{or_left, or_right, and_from, and_parts, false≢true}
use Rattle.cnf_types.specs.declared.literal.Lit.{Lit}
use Rattle.cnf_types.specs.Literals.{negated}
use Rattle.proof_check.specs.declared.faults.StepFault.{StepFault}
use Rattle.proof_check.specs.Propagation.{same, is_among, with_literal, left, left_of, left_fault, hint_fault, chain_fault}
use Rattle.sat_search.specs.Passes.{Refutes}
use Rattle.sat_search.proofs.Literals.{same-eq, eq-same}

left-step : (falses : Lit → Bool) (p m : Lit) (ls : List Lit) (b : Bool) → falses m ≡ b → (m ≡ p) ⊎ IsTrue (falses m) →
    IsTrue (list_all (same p) (left falses ls)) → IsTrue (list_all (same p) (cond (not b) (m ∷ left falses ls) (left falses ls)))
left-step falses p m ls true e h rest = rest
left-step falses p m ls false e (inl is) rest = and_from (same p m) (list_all (same p) (left falses ls)) (eq-same p m (sym is)) rest
left-step falses p m ls false e (inr false_one) rest = absurd (false≢true (sym e ∙ false_one))

-- what is left of a clause whose literals are false but for one
pub left_only : (falses : Lit → Bool) (p : Lit) (lits : List Lit) → ((m : Lit) → IsTrue (is_among lits m) → (m ≡ p) ⊎ IsTrue (falses m)) → IsTrue (list_all (same p) (left falses lits))
left_only falses p [] h = refl
left_only falses p (m ∷ ls) h =
    left-step falses p m ls (falses m) refl (h m (or_left (same m m) (is_among ls m) (eq-same m m refl)))
    (left_only falses p ls (λ n among. h n (or_right (same m n) (is_among ls n) among)))

all-same : (p l : Lit) (ls : List Lit) → p ≡ l → IsTrue (list_all (same p) ls) → IsTrue (list_all (same l) ls)
all-same p l ls e h = subst (λ (x : Lit). IsTrue (list_all (same x) ls)) e h

-- the chain ends at such a clause, or goes on with the literal that is left
pub left_goes_on : (p : Lit) (ls : List Lit) (place : ℕ) (next : Lit → Option StepFault) → IsTrue (list_all (same p) ls) → next p ≡ None → left_fault (left_of ls) place next ≡ None
left_goes_on p [] place next h none = refl
left_goes_on p (l ∷ ls) place next h none =
    let parts = and_parts (same p l) (list_all (same p) ls) h in
    let is : p ≡ l = same-eq p l parts.0 in
    let alike : list_all (same l) ls ≡ true = all-same p l ls is parts.1 in
    rw alike (ap next (sym is) ∙ none)

-- a hint whose clause is false but for one literal at most
hint_goes_on : (live : ℕ → Option (List Lit)) (falses : Lit → Bool) (p : Lit) (id place : ℕ) (lits : List Lit) (hints : List ℤ) → live id ≡ Some lits →
    ((m : Lit) → IsTrue (is_among lits m) → (m ≡ p) ⊎ IsTrue (falses m)) → chain_fault live (with_literal (negated p) falses) (place + 1) hints ≡ None →
    chain_fault live falses place (pos id ∷ hints) ≡ None
hint_goes_on live falses p id place lits hints is others none =
    let next : Lit → Option StepFault = λ l. chain_fault live (with_literal (negated l) falses) (place + 1) hints in
    ap (λ o. hint_fault o falses place next) is ∙ left_goes_on p (left falses lits) place next (left_only falses p lits others) none

nothing-left : (falses : Lit → Bool) (m : Lit) (ls : List Lit) (b : Bool) → falses m ≡ b → IsTrue b → left falses ls ≡ [] → cond (not b) (m ∷ left falses ls) (left falses ls) ≡ []
nothing-left falses m ls true e is rest = rest
nothing-left falses m ls false e is rest = absurd (false≢true is)

left_nothing : (falses : Lit → Bool) (lits : List Lit) → ((m : Lit) → IsTrue (is_among lits m) → IsTrue (falses m)) → left falses lits ≡ []
left_nothing falses [] h = refl
left_nothing falses (m ∷ ls) h =
    nothing-left falses m ls (falses m) refl (h m (or_left (same m m) (is_among ls m) (eq-same m m refl)))
    (left_nothing falses ls (λ n among. h n (or_right (same m n) (is_among ls n) among)))

-- the clause of a conflict is refuted by itself
pub refutes_conflict : (live : ℕ → Option (List Lit)) (set : Lit → Bool) (id : ℕ) (lits : List Lit) → live id ≡ Some lits →
    ((m : Lit) → IsTrue (is_among lits m) → IsTrue (set m)) → Refutes live set (pos id ∷ [])
refutes_conflict live set id lits is among falses all place =
    let next : Lit → Option StepFault = λ l. chain_fault live (with_literal (negated l) falses) (place + 1) [] in
    ap (λ o. hint_fault o falses place next) is ∙ ap (λ ls. left_fault (left_of ls) place next) (left_nothing falses lits (λ m h. all m (among m h)))

with-either : (falses : Lit → Bool) (l m : Lit) → (m ≡ l) ⊎ IsTrue (falses m) → IsTrue (with_literal l falses m)
with-either falses l m (inl e) = or_left (same l m) (falses m) (eq-same l m (sym e))
with-either falses l m (inr h) = or_right (same l m) (falses m) h

either-false : {A : Type 0} (falses more : Lit → Bool) (m : Lit) → ((n : Lit) → IsTrue (more n) → IsTrue (falses n)) → A ⊎ IsTrue (more m) → A ⊎ IsTrue (falses m)
either-false falses more m all (inl a) = inl a
either-false falses more m all (inr h) = inr (all m h)

-- a clause that is false but for one literal, whose negation goes
pub refutes_resolved : (live : ℕ → Option (List Lit)) (set more : Lit → Bool) (p : Lit) (id : ℕ) (lits : List Lit) (hints : List ℤ) → live id ≡ Some lits →
    ((m : Lit) → IsTrue (set m) → (m ≡ negated p) ⊎ IsTrue (more m)) → ((m : Lit) → IsTrue (is_among lits m) → (m ≡ p) ⊎ IsTrue (more m)) →
    Refutes live set hints → Refutes live more (pos id ∷ hints)
refutes_resolved live set more p id lits hints is kept others refutes falses all place =
    hint_goes_on live falses p id place lits hints is
    (λ m among. either-false falses more m all (others m among))
    (refutes (with_literal (negated p) falses) (λ m in_set. with-either falses (negated p) m (either-false falses more m all (kept m in_set))) (place + 1))

-- a bigger set is refuted too
pub refutes_more : (live : ℕ → Option (List Lit)) (set more : Lit → Bool) (hints : List ℤ) → ((m : Lit) → IsTrue (set m) → IsTrue (more m)) → Refutes live set hints → Refutes live more hints
refutes_more live set more hints bigger refutes falses all place = refutes falses (λ m in_set. all m (bigger m in_set)) place
