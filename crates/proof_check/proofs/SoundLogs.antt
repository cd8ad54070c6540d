-- A refuting log refutes the formula with the bounds.
use Rattle.std.proofs.Common.{◌≡◌, ℕ, suc, zero, ◌<◌, Bool, true, false, cond, ◌||◌, ◌==◌, nat_lt, List, [], ◌∷◌}
use Rattle.std.proofs.Common.{length, map, refl, ap, sym, ◌∙◌, Option, Some, None, IsTrue, slice_get, get_or, option_map, IfSome, ⊎_elim, subst}
use Rattle.std.specs.List.{list_any}
use Rattle.std.specs.Option.{option_to_list}
use Rattle.std.proofs.lemmas.Bool.{false≢true, or_cases, ltb-true}
use Rattle.std.proofs.lemmas.Option.{none-some, same_Some, slice_get_within, get_or_from_slice_get, slice_get-get_or}
use Rattle.cnf_types.specs.declared.literal.Lit.{Lit}
use Rattle.cnf_types.specs.declared.clauses.Clause.{Clause}
use Rattle.cnf_types.specs.declared.clauses.Formula.{Formula}
use Rattle.cnf_types.specs.Literals.{negated}
use Rattle.cnf_types.specs.Formulas.{value, clause_value, Satisfies}
use Rattle.proof_log.specs.declared.steps.Step.{Step}
use Rattle.proof_log.specs.declared.steps.Step.TheVariants.{Add, Drop, Bound}
use Rattle.proof_check.specs.declared.faults.StepFault.{StepFault}
use Rattle.proof_check.specs.declared.faults.StepFault.TheVariants.{IdNotRising, BoundTooLow, BoundTooHigh}
use Rattle.proof_check.specs.Propagation.{chain_fault, is_among}
use Rattle.proof_check.specs.Knowledge.{Knowledge, start, step_fault, after, is_empty_clause, formula_clause, with_clause, without_clauses, bound_clause, bound_fault, is_too_low}
use Rattle.proof_check.specs.Logs.{IsAccepted, IsRefuting, StepKeepsBound, KeepsBounds, adds_empty}
use Rattle.proof_check.proofs.Soundness.{LiveTrue, clause_sound}

-- no step changes the literals of the prices
tops_kept : (k : Knowledge) (s : Step) → (after k s).tops ≡ k.tops
tops_kept k (Add id lits hints) = refl
tops_kept k (Drop ids) = refl
tops_kept k (Bound id price) = refl

module _ (a : ℕ → Bool) where
  clause_of : (c : Option Clause) (lits : List Lit) → option_map (λ (d : Clause). d.lits) c ≡ Some lits → ((d : Clause) → c ≡ Some d → clause_value a d.lits ≡ true) → clause_value a lits ≡ true
  clause_of None lits e h = absurd (none-some lits e)
  clause_of (Some d) lits e h = ap (clause_value a) (sym (same_Some d.lits lits e)) ∙ h d refl

  -- the clauses of a satisfied formula are true
  formula_live : (f : Formula) → Satisfies a f → LiveTrue a (formula_clause f.clauses)
  formula_live f holds zero lits e = absurd (none-some lits e)
  formula_live f holds (suc n) lits e =
      clause_of (slice_get f.clauses n) lits e (λ d is. ap (λ (c : Clause). clause_value a c.lits) (sym (get_or_from_slice_get f.clauses n d d is)) ∙ holds n d (slice_get_within f.clauses n d is))

  with_test : (clause : ℕ → Option (List Lit)) (lits ls : List Lit) (j : ℕ) (b : Bool) → LiveTrue a clause → clause_value a lits ≡ true →
      cond b (Some lits) (clause j) ≡ Some ls → clause_value a ls ≡ true
  with_test clause lits ls j true live e h = ap (clause_value a) (sym (same_Some lits ls h)) ∙ e
  with_test clause lits ls j false live e h = live j ls h

  with_live : (clause : ℕ → Option (List Lit)) (id : ℕ) (lits : List Lit) → LiveTrue a clause → clause_value a lits ≡ true → LiveTrue a (with_clause clause id lits)
  with_live clause id lits live e j ls h = with_test clause lits ls j (id == j) live e h

  without_test : (clause : ℕ → Option (List Lit)) (ls : List Lit) (j : ℕ) (b : Bool) → LiveTrue a clause → cond b None (clause j) ≡ Some ls → clause_value a ls ≡ true
  without_test clause ls j true live h = absurd (none-some ls h)
  without_test clause ls j false live h = live j ls h

  without_live : (clause : ℕ → Option (List Lit)) (ids : List ℕ) → LiveTrue a clause → LiveTrue a (without_clauses clause ids)
  without_live clause ids live j ls h = without_test clause ls j (list_any (λ id. id == j) ids) live h

  -- where the id rises the other test decides
  risen : (b : Bool) (other : Option StepFault) (fault : StepFault) → cond b other (Some fault) ≡ None → other ≡ None
  risen true other fault e = e
  risen false other fault e = absurd (none-some fault (sym e))

  not_low : (b : Bool) (other : Option StepFault) (fault : StepFault) → cond b (Some fault) other ≡ None → other ≡ None
  not_low true other fault e = absurd (none-some fault (sym e))
  not_low false other fault e = e

  in_tops : (b : Bool) (fault : StepFault) → cond b None (Some fault) ≡ None → b ≡ true
  in_tops true fault e = refl
  in_tops false fault e = absurd (none-some fault (sym e))

  -- an accepted bound names a literal
  bound_within : (k : Knowledge) (id price : ℕ) → step_fault k (Bound id price) ≡ None → price < length k.tops
  bound_within k id price e =
      let low = risen (nat_lt k.last id) (bound_fault k.least k.tops price) IdNotRising e in
      let high = not_low (is_too_low k.least price) (cond (nat_lt price (length k.tops)) None (Some BoundTooHigh)) BoundTooLow low in
      ltb-true price (length k.tops) (in_tops (nat_lt price (length k.tops)) BoundTooHigh high)

  or_true : (b : Bool) → b ≡ true → (b || false) ≡ true
  or_true b e = ap (λ v. v || false) e

  bound_value : (o : Option Lit) (top : Lit) → o ≡ Some top → IfSome o (λ t. IsTrue (value a (negated t))) → clause_value a (map negated (option_to_list o)) ≡ true
  bound_value None top e h = absurd (none-some top e)
  bound_value (Some t) top e h = or_true (value a (negated t)) h

  -- what is live after an accepted step is true
  step_live : (k : Knowledge) (s : Step) → LiveTrue a k.clause → step_fault k s ≡ None → StepKeepsBound a k.tops s → LiveTrue a (after k s).clause
  step_live k (Add id lits hints) live none keeps =
      with_live k.clause id lits live (clause_sound a k.clause lits hints live (risen (nat_lt k.last id) (chain_fault k.clause (is_among lits) 0 hints) IdNotRising none))
  step_live k (Drop ids) live none keeps = without_live k.clause ids live
  step_live k (Bound id price) live none keeps =
      let within = bound_within k id price none in
      with_live k.clause id (bound_clause k.tops price) live
      (bound_value (slice_get k.tops price) (get_or k.tops price (record { code = 0 })) (slice_get-get_or k.tops price (record { code = 0 }) within) keeps)

  empty_false : (lits : List Lit) → is_empty_clause lits ≡ true → clause_value a lits ≡ true → ⊥
  empty_false [] e h = false≢true h
  empty_false (l ∷ ls) e h = false≢true e

  -- an accepted step does not add the empty clause
  no_empty : (k : Knowledge) (s : Step) → LiveTrue a k.clause → step_fault k s ≡ None → adds_empty s ≡ true → ⊥
  no_empty k (Add id lits hints) live none empty =
      empty_false lits empty (clause_sound a k.clause lits hints live (risen (nat_lt k.last id) (chain_fault k.clause (is_among lits) 0 hints) IdNotRising none))
  no_empty k (Drop ids) live none empty = false≢true empty
  no_empty k (Bound id price) live none empty = false≢true empty

  pub sound_from : (k : Knowledge) (steps : List Step) → LiveTrue a k.clause → IsAccepted k steps → KeepsBounds a k.tops steps → IsRefuting steps → ⊥
  sound_from k [] live accepted keeps refuting = false≢true refuting
  sound_from k (s ∷ steps) live accepted keeps refuting = ⊎_elim
      (λ (here : adds_empty s ≡ true). no_empty k s live accepted.0 here)
      (λ (there : list_any adds_empty steps ≡ true). sound_from (after k s) steps (step_live k s live accepted.0 keeps.0) accepted.1
      (subst (λ tops. KeepsBounds a tops steps) (sym (tops_kept k s)) keeps.1) there)
      (or_cases (adds_empty s) (list_any adds_empty steps) refuting)

pub sound : (f : Formula) (least : Option ℕ) (tops : List Lit) (steps : List Step) → IsAccepted (start f least tops) steps → IsRefuting steps → (a : ℕ → Bool) →
    Satisfies a f → KeepsBounds a tops steps → ⊥
sound f least tops steps accepted refuting a holds keeps = sound_from a (start f least tops) steps (formula_live a f holds) accepted keeps refuting
