-- A spent log of a small formula is short: its clauses have different numbers, none of them the empty clause's.
use Rattle.std.proofs.Common.{◌≡◌, ◌≢◌, ℕ, zero, suc, ◌+◌, ◌*◌, ◌^◌, ◌<◌, ◌≤◌, Bool, true, false, cond, ◌==◌, eqb, nat_lt, List, [], ◌∷◌, length}
use Rattle.std.proofs.Common.{map, drop, All, Contains, Option, Some, None, refl, sym, ap, ◌∙◌, subst, arith, IsFalse, slice_get, option_map, ⊎_elim, ◌⊎◌, inl, inr, ℤ, length-drop}
use Rattle.std.specs.List.{list_any, IsDistinct, AllByRecursion}
use Rattle.std.proofs.Math.Nat.{pow-suc}
use Rattle.std.proofs.lemmas.Bool.{false≢true, or_cases, eqb-true, eq-eqb, ne_eqb, ltb-true}
use Rattle.std.proofs.lemmas.Option.{none-some, same_Some, slice_get_within, get_or_from_slice_get}
use Rattle.std.proofs.lemmas.List.{length-map}
use Rattle.std.proofs.lemmas.List.Elements.{All-nil, All-cons, All-head, All-tail, All-contains, All-weaker}
use Rattle.std.specs.Cmp.{nat_eq_equiv}
use Rattle.std.proofs.lemmas.Map.Keys.{IsDistinct-cons}
use Rattle.std.proofs.lemmas.Map.Made.{IsDistinct-from_count}
use Rattle.std.proofs.lemmas.Map.Steps.{length-le_from_distinct_below}
use Rattle.arc_base.proofs.Items.{Contains-head, Contains-none}
use Rattle.cnf_types.specs.declared.literal.Lit.{Lit}
use Rattle.cnf_types.specs.declared.clauses.Clause.{Clause}
use Rattle.cnf_types.specs.declared.clauses.Formula.{Formula}
use Rattle.cnf_types.specs.Literals.{variable}
use Rattle.proof_log.specs.declared.steps.Step.{Step}
use Rattle.proof_log.specs.declared.steps.Step.TheVariants.{Add, Drop, Bound}
use Rattle.proof_check.specs.declared.faults.StepFault.{StepFault}
use Rattle.proof_check.specs.declared.faults.StepFault.TheVariants.{IdNotRising, BoundTooLow, BoundTooHigh}
use Rattle.proof_check.specs.Propagation.{chain_fault, is_among}
use Rattle.proof_check.specs.Knowledge.{Knowledge, start, step_fault, after, is_empty_clause, formula_clause, with_clause, bound_fault, is_too_low}
use Rattle.clean_logs.specs.Lemmas.{HasDifferentVariables, IsNew}
use Rattle.clean_logs.specs.CleanLogs.{IsCleanAfter, IsSpent, additions}
use Rattle.clean_logs.specs.Laws.{IsWithin, HasItsVariables}
use Rattle.clean_logs.proofs.Codes.{code, code_small, code_positive, same_literals}
use Rattle.clean_logs.proofs.NewLemmas.{LiveWithin, new_within, no_subset}

module _ (vars : ℕ) where
  -- a clause that was added and is live
  record IsLearned (clause : ℕ → Option (List Lit)) (lits : List Lit) : Type 0 where
    pub id : ℕ
    pub live : clause id ≡ Some lits
    pub within : IsWithin vars lits
    pub different : HasDifferentVariables lits
    pub some : Lit
    pub held : Contains lits some

  abbrev numbers : List (List Lit) → List ℕ
  numbers learned = map (λ lits. code lits vars) learned

  -- what holds while nothing was dropped
  record Before (k : Knowledge) (learned : List (List Lit)) : Type 0 where
    pub within : LiveWithin k.clause vars
    pub ids : (id : ℕ) (lits : List Lit) → k.clause id ≡ Some lits → id ≤ k.last
    pub no_tops : k.tops ≡ []
    pub all : All (IsLearned k.clause) learned
    pub apart : IsDistinct eqb (numbers learned)

  number_positive : (clause : ℕ → Option (List Lit)) (lits : List Lit) → IsLearned clause lits → 1 ≤ code lits vars
  number_positive clause lits is =
      let ends : (1 ≤ variable is.some) × (variable is.some ≤ vars) = All-contains (λ l. (1 ≤ variable l) × (variable l ≤ vars)) lits is.some is.within is.held in
      code_positive lits is.some vars is.held ends.0 ends.1

  none_is_zero : (clause : ℕ → Option (List Lit)) (learned : List (List Lit)) → All (IsLearned clause) learned → AllByRecursion (λ n. eqb 0 n ≡ false) (numbers learned)
  none_is_zero clause [] all = tt
  none_is_zero clause (lits ∷ learned) all =
      let positive : 1 ≤ code lits vars = number_positive clause lits (All-head (IsLearned clause) lits learned all) in
      (ne_eqb 0 (code lits vars) (λ e. omega (arith, positive, e)), none_is_zero clause learned (All-tail (IsLearned clause) lits learned all))

  each_small : (learned : List (List Lit)) (q : ℕ) → list_any (eqb q) (numbers learned) ≡ true → q < 3 ^ vars
  each_small [] q e = absurd (false≢true e)
  each_small (lits ∷ learned) q e = ⊎_elim
      (λ (here : eqb q (code lits vars) ≡ true). subst (λ n. n < 3 ^ vars) (sym (eqb-true q (code lits vars) here)) (code_small lits vars))
      (λ (there : list_any (eqb q) (numbers learned) ≡ true). each_small learned q there)
      (or_cases (eqb q (code lits vars)) (list_any (eqb q) (numbers learned)) e)

  zero_small : 0 < 3 ^ vars
  zero_small = omega (arith, code_small [] vars)

  with_zero_small : (learned : List (List Lit)) (q : ℕ) → list_any (eqb q) (0 ∷ numbers learned) ≡ true → q < 3 ^ vars
  with_zero_small learned q e = ⊎_elim
      (λ (here : eqb q 0 ≡ true). subst (λ n. n < 3 ^ vars) (sym (eqb-true q 0 here)) zero_small)
      (λ (there : list_any (eqb q) (numbers learned) ≡ true). each_small learned q there)
      (or_cases (eqb q 0) (list_any (eqb q) (numbers learned)) e)

  -- so there are fewer than numbers
  few : (k : Knowledge) (learned : List (List Lit)) → Before k learned → length learned < 3 ^ vars
  few k learned b =
      let most : length (0 ∷ numbers learned) ≤ 3 ^ vars = length-le_from_distinct_below (0 ∷ numbers learned) (3 ^ vars)
      (IsDistinct-cons eqb 0 (numbers learned) (none_is_zero k.clause learned b.all) b.apart) (with_zero_small learned) in
      let size : length (numbers learned) ≡ length learned = length-map learned (λ lits. code lits vars) in
      omega (arith, most, size)

  -- the number of a new clause is that of none before it
  new_number : (clause : ℕ → Option (List Lit)) (lits : List Lit) (hints : List ℤ) → IsNew clause lits hints → (learned : List (List Lit)) →
      All (IsLearned clause) learned → AllByRecursion (λ n. eqb (code lits vars) n ≡ false) (numbers learned)
  new_number clause lits hints new [] all = tt
  new_number clause lits hints new (old ∷ learned) all =
      let is : IsLearned clause old = All-head (IsLearned clause) old learned all in (
        ne_eqb (code lits vars) (code old vars) (λ e. no_subset clause lits new.finds_more is.id old is.live (old_in_new is e)),
        new_number clause lits hints new learned (All-tail (IsLearned clause) old learned all),
      )
    where
      old_in_new : IsLearned clause old → code lits vars ≡ code old vars → (l : Lit) → Contains old l → Contains lits l
      old_in_new is e l held =
          let ends : (1 ≤ variable l) × (variable l ≤ vars) = All-contains (λ m. (1 ≤ variable m) × (variable m ≤ vars)) old l is.within held in
          same_literals old lits vars is.different (sym e) l ends.0 ends.1 held

  -- a clause that is live stays so under a higher id
  kept_live : (k : Knowledge) (id : ℕ) (lits other : List Lit) (j : ℕ) → k.last < id → j ≤ k.last → k.clause j ≡ Some other → with_clause k.clause id lits j ≡ Some other
  kept_live k id lits other j rises below is = ap (λ b. cond b (Some lits) (k.clause j)) (ne_eqb id j (λ e. omega (arith, rises, below, e))) ∙ is

  kept_learned : (k : Knowledge) (learned : List (List Lit)) → Before k learned → (id : ℕ) (lits other : List Lit) → k.last < id → IsLearned k.clause other →
      IsLearned (with_clause k.clause id lits) other
  kept_learned k learned b id lits other rises is = record {
    id = is.id;
    live = kept_live k id lits other is.id rises (b.ids is.id other is.live) is.live;
    within = is.within;
    different = is.different;
    some = is.some;
    held = is.held;
  }

  now_live : (clause : ℕ → Option (List Lit)) (id : ℕ) (lits : List Lit) → with_clause clause id lits id ≡ Some lits
  now_live clause id lits = ap (λ b. cond b (Some lits) (clause id)) (eq-eqb id id refl)

  -- what a clause under a higher id is: the new one, or one from before
  which : (clause : ℕ → Option (List Lit)) (id : ℕ) (lits other : List Lit) (j : ℕ) (b : Bool) → eqb id j ≡ b → cond b (Some lits) (clause j) ≡ Some other →
      ((id ≡ j) × (lits ≡ other)) ⊎ (clause j ≡ Some other)
  which clause id lits other j true e h = inl (eqb-true id j e, same_Some lits other h)
  which clause id lits other j false e h = inr h

  filled : (lits : List Lit) → IsFalse (is_empty_clause lits) → (l : Lit) × Contains lits l
  filled [] e = absurd (false≢true (sym e))
  filled (l ∷ lits) e = (l, Contains-head l lits)

  added : (k : Knowledge) (learned : List (List Lit)) → Before k learned → (id : ℕ) (lits : List Lit) (hints : List ℤ) → k.last < id → IsFalse (is_empty_clause lits) →
      IsNew k.clause lits hints → Before (after k (Add id lits hints)) (lits ∷ learned)
  added k learned b id lits hints rises some new =
      let its : IsWithin vars lits = new_within k.clause vars b.within lits hints new in
      let first : (l : Lit) × Contains lits l = filled lits some in
      let here : IsLearned (with_clause k.clause id lits) lits = record { id = id; live = now_live k.clause id lits; within = its; different = new.different; some = first.0; held = first.1 } in
      record {
        within = λ j other h. elim (which k.clause id lits other j (eqb id j) refl h) [ inl is ↦ subst (IsWithin vars) is.1 its | inr old ↦ b.within j other old ];
        ids = λ j other h. elim (which k.clause id lits other j (eqb id j) refl h) [ inl is ↦ omega (arith, is.0) | inr old ↦ omega (arith, rises, b.ids j other old) ];
        no_tops = b.no_tops;
        all = All-cons (IsLearned (with_clause k.clause id lits)) lits learned here
            (All-weaker (IsLearned k.clause) (IsLearned (with_clause k.clause id lits)) (λ other is. kept_learned k learned b id lits other rises is) learned b.all);
        apart = IsDistinct-cons eqb (code lits vars) (numbers learned) (new_number k.clause lits hints new learned b.all) b.apart;
      }

  -- where the id does not rise the step is not accepted
  rises : (last id : ℕ) (other : Option StepFault) (b : Bool) → nat_lt last id ≡ b → cond b other (Some IdNotRising) ≡ None → last < id
  rises last id other true e h = ltb-true last id e
  rises last id other false e h = absurd (none-some IdNotRising (sym h))

  -- without tops no bound is accepted
  no_bound : (low : Bool) (price : ℕ) (tops : List Lit) → tops ≡ [] → cond low (Some BoundTooLow) (cond (nat_lt price (length tops)) None (Some BoundTooHigh)) ≡ None → ⊥
  no_bound true price tops none h = none-some BoundTooLow (sym h)
  no_bound false price tops none h = too_high (nat_lt price (length tops)) refl h
    where
      too_high : (b : Bool) → nat_lt price (length tops) ≡ b → cond b None (Some BoundTooHigh) ≡ None → ⊥
      too_high true e h = let below : price < length tops = ltb-true price (length tops) e in omega (arith, below, ap length none)
      too_high false e h = none-some BoundTooHigh (sym h)

  under_id : (b : Bool) (other : Option StepFault) → cond b other (Some IdNotRising) ≡ None → other ≡ None
  under_id true other h = h
  under_id false other h = absurd (none-some IdNotRising (sym h))

  -- while fewer than 1,000 clauses were added, none can be dropped
  nothing : (ids added : List ℕ) (count : ℕ) → length added ≤ count → All (λ id. Contains (drop count added) id) ids → ids ≡ []
  nothing [] added count few all = refl
  nothing (id ∷ ids) added count few all =
      let held : Contains (drop count added) id = All-head (λ i. Contains (drop count added) i) id ids all in
      absurd (omega (arith, held.1, length-drop count added, few))

  short : (steps : List Step) (k : Knowledge) (ids : List ℕ) (drops : ℕ) (learned : List (List Lit)) → 3 ^ vars ≤ 1000 → Before k learned →
      length ids ≡ length learned → IsCleanAfter k ids drops steps → length learned + additions steps < 3 ^ vars
  short [] k ids drops learned small b size clean = omega (arith, few k learned b)
  short (Add id lits hints ∷ steps) k ids drops learned small b size (ok, (some, new), rest) =
      let up : k.last < id = rises k.last id (chain_fault k.clause (is_among lits) 0 hints) (nat_lt k.last id) refl ok in
      omega (arith, short steps (after k (Add id lits hints)) (id ∷ ids) drops (lits ∷ learned) small (added k learned b id lits hints up some new) (ap suc size) rest)
  short (Drop dropped ∷ steps) k ids drops learned small b size (ok, only, rest) =
      let none : dropped ≡ [] = nothing dropped ids (1000 * (drops + 1)) (omega (arith, few k learned b, size, small)) only in
      short steps k ids (drops + 1) learned small b size (subst (λ d. IsCleanAfter (after k (Drop d)) ids (drops + 1) steps) none rest)
  short (Bound id price ∷ steps) k ids drops learned small b size (ok, only, rest) =
      absurd (no_bound (is_too_low k.least price) price k.tops b.no_tops (under_id (nat_lt k.last id) (bound_fault k.least k.tops price) ok))

  clause_of : (clauses : List Clause) (n : ℕ) (c : Option Clause) (lits : List Lit) → slice_get clauses n ≡ c →
      option_map (λ (d : Clause). d.lits) c ≡ Some lits → (d : Clause) × (slice_get clauses n ≡ Some d) × (d.lits ≡ lits)
  clause_of clauses n None lits is e = absurd (none-some lits e)
  clause_of clauses n (Some d) lits is e = (d, is, same_Some d.lits lits e)

  begins : (f : Formula) → All (λ c. IsWithin vars c.lits) f.clauses → Before (start f None []) []
  begins f within = record {
    within = from_formula;
    ids = has_number;
    no_tops = refl;
    all = All-nil (IsLearned (formula_clause f.clauses));
    apart = IsDistinct-from_count nat_eq_equiv [] refl;
  }
    where
      from_formula : LiveWithin (formula_clause f.clauses) vars
      from_formula zero lits e = absurd (none-some lits e)
      from_formula (suc n) lits e =
          let c : (d : Clause) × (slice_get f.clauses n ≡ Some d) × (d.lits ≡ lits) = clause_of f.clauses n (slice_get f.clauses n) lits refl e in
          subst (IsWithin vars) (ap (λ (d : Clause). d.lits) (get_or_from_slice_get f.clauses n c.0 c.0 c.1) ∙ c.2) (within n c.0 (slice_get_within f.clauses n c.0 c.1))

      has_number : (id : ℕ) (lits : List Lit) → formula_clause f.clauses id ≡ Some lits → id ≤ length f.clauses
      has_number zero lits e = omega arith
      has_number (suc n) lits e =
          let c : (d : Clause) × (slice_get f.clauses n ≡ Some d) × (d.lits ≡ lits) = clause_of f.clauses n (slice_get f.clauses n) lits refl e in
          omega (arith, slice_get_within f.clauses n c.0 c.1)

-- six variables have few clauses
small : (vars : ℕ) → vars ≤ 6 → 3 ^ vars ≤ 1000
small zero below = omega arith
small (suc zero) below = omega arith
small (suc (suc zero)) below = omega arith
small (suc (suc (suc zero))) below = omega arith
small (suc (suc (suc (suc zero)))) below = omega arith
small (suc (suc (suc (suc (suc zero))))) below = omega arith
small (suc (suc (suc (suc (suc (suc zero)))))) below = omega arith
small (suc (suc (suc (suc (suc (suc (suc n))))))) below = absurd (omega (arith, below))

pub spent_logs_are_short : (f : Formula) → HasItsVariables f → f.vars ≤ 6 → (limit : ℕ) (steps : List Step) → IsSpent f None [] limit steps → limit < 3 ^ f.vars
spent_logs_are_short f within few limit steps spent =
    omega (arith, short f.vars steps (start f None []) [] 0 [] (small f.vars few) (begins f.vars f within) refl spent.0, spent.1)
