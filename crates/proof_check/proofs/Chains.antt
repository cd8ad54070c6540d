-- A chain of hints, hint by hint.
use lib.Signed.{lt_z}
use Rattle.std.proofs.Common.{◌≡◌, ℕ, ◌+◌, ◌<◌, ℤ, pos, negsuc, unsigned_abs, true≢false, Bool, false, List, ◌∷◌, length, drop, get_or, ap, sym, ◌∙◌, Option, Some}
use Rattle.std.proofs.lemmas.List.{drop_more}
use Rattle.cnf_types.specs.declared.literal.Lit.{Lit}
use Rattle.cnf_types.specs.Literals.{negated}
use Rattle.proof_check.specs.declared.faults.StepFault.{StepFault}
use Rattle.proof_check.specs.declared.left.Left.TheVariants.{One}
use Rattle.proof_check.specs.Propagation.{chain_fault, hint_fault, left_fault, left_of, left, with_literal}

-- two tests that agree are one set
pub same_set : (p q : Lit → Bool) → ((l : Lit) → p l ≡ q l) → p ≡ q
same_set p q h = λ i l. h l i

-- a hint of whose clause one literal is left
pub goes_on : (clause : ℕ → Option (List Lit)) (falses more : Lit → Bool) (hints : List ℤ) (place id : ℕ) (lits : List Lit) (l : Lit) → place < length hints →
    get_or hints place (pos 0) ≡ pos id → clause id ≡ Some lits → One l ≡ left_of (left falses lits) →
    ((m : Lit) → more m ≡ with_literal (negated l) falses m) → chain_fault clause more (place + 1) (drop (place + 1) hints) ≡ chain_fault clause falses place (drop place hints)
goes_on clause falses more hints place id lits l within hint_is clause_is left_is more_is =
    let rest = drop (place + 1) hints in
    let next : Lit → Option StepFault = λ m. chain_fault clause (with_literal (negated m) falses) (place + 1) rest in
    let opened : chain_fault clause falses place (drop place hints) ≡ hint_fault (clause id) falses place next =
    ap (chain_fault clause falses place) (drop_more hints place (pos 0) within ∙ ap (λ h. h ∷ rest) hint_is) in
    sym (opened ∙ ap (λ o. hint_fault o falses place next) clause_is ∙ ap (λ r. left_fault r place next) (sym left_is)
    ∙ ap (λ p. chain_fault clause p (place + 1) rest) (sym (same_set more (with_literal (negated l) falses) more_is)))

-- a number that is not negative
pub not_negative : (z shown : ℤ) → shown ≡ z → lt_z shown (pos 0) ≡ false → z ≡ pos (unsigned_abs shown)
not_negative z (pos n) e h = sym e
not_negative z (negsuc n) e h = absurd (true≢false h)
