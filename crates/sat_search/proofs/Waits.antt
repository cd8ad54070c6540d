-- What the steps of a log say of its lemmas.
use Rattle.std.proofs.Common.{◌≡◌, ℕ, ℤ, ◌+◌, ◌<◌, List, [], ◌∷◌, ◌++◌, length, take, get_or, refl, ap, sym, ◌∙◌, subst}
use Rattle.std.proofs.lemmas.List.{take_more, append-nil}
use Rattle.cnf_types.specs.declared.literal.Lit.{Lit}
use Rattle.proof_log.specs.declared.steps.Step.{Step}
use Rattle.proof_log.specs.declared.steps.Step.TheVariants.{Add, Drop, Bound}
use Rattle.sat_search.specs.declared.lemmas.Lemmas.{Lemmas}
use Rattle.sat_search.specs.Dropping.{sizes}
use Rattle.sat_search.specs.DropSteps.{gap_after, after_one, wait_after, wait_of, DropsInTime}
use Rattle.clean_logs.specs.CleanLogs.{dropped_by}

sizes_append : (xs ys : List Step) → sizes (xs ++ ys) ≡ sizes xs ++ sizes ys
sizes_append [] ys = refl
sizes_append (Add id lits hints ∷ xs) ys = ap (λ (s : List ℕ). length lits ∷ s) (sizes_append xs ys)
sizes_append (Drop ids ∷ xs) ys = sizes_append xs ys
sizes_append (Bound id price ∷ xs) ys = sizes_append xs ys

pub wait_append : (drops wait : ℕ) (xs ys : List Step) → wait_after drops wait (xs ++ ys) ≡ wait_after (dropped_by drops xs) (wait_after drops wait xs) ys
wait_append drops wait [] ys = refl
wait_append drops wait (Add id lits hints ∷ xs) ys = wait_append drops (after_one wait) xs ys
wait_append drops wait (Drop ids ∷ xs) ys = wait_append (drops + 1) (gap_after (drops + 1)) xs ys
wait_append drops wait (Bound id price ∷ xs) ys = wait_append drops wait xs ys

-- another step comes
pub wait_then : (xs : List Step) (s : Step) → wait_of (xs ++ s ∷ []) ≡ wait_after (dropped_by 0 xs) (wait_of xs) (s ∷ [])
wait_then xs s = wait_append 0 (gap_after 0) xs (s ∷ [])

-- a clause is added, or some are dropped when it is time
pub in_time_add : (drops wait : ℕ) (xs : List Step) (id : ℕ) (lits : List Lit) (hints : List ℤ) → DropsInTime drops wait xs → DropsInTime drops wait (xs ++ Add id lits hints ∷ [])
in_time_add drops wait [] id lits hints in_time = tt
in_time_add drops wait (Add other of by ∷ xs) id lits hints in_time = in_time_add drops (after_one wait) xs id lits hints in_time
in_time_add drops wait (Drop ids ∷ xs) id lits hints in_time = (in_time.0, in_time_add (drops + 1) (gap_after (drops + 1)) xs id lits hints in_time.1)
in_time_add drops wait (Bound other price ∷ xs) id lits hints in_time = in_time_add drops wait xs id lits hints in_time

pub in_time_drop : (drops wait : ℕ) (xs : List Step) (gone : List ℕ) → DropsInTime drops wait xs → wait_after drops wait xs ≡ 0 → DropsInTime drops wait (xs ++ Drop gone ∷ [])
in_time_drop drops wait [] gone in_time due = (due, tt)
in_time_drop drops wait (Add id lits hints ∷ xs) gone in_time due = in_time_drop drops (after_one wait) xs gone in_time due
in_time_drop drops wait (Drop ids ∷ xs) gone in_time due = (in_time.0, in_time_drop (drops + 1) (gap_after (drops + 1)) xs gone in_time.1 due)
in_time_drop drops wait (Bound id price ∷ xs) gone in_time due = in_time_drop drops wait xs gone in_time due

-- what a search that goes on from steps begins with
pub record Begins (steps : List Step) (lemmas : Lemmas) : Type 0 where
  pub levels : lemmas.levels.items ≡ sizes steps
  pub from : lemmas.from ≡ 0

first-more : (steps : List Step) (i : ℕ) (step : Step) → i < length steps → step ≡ get_or steps i step → take (i + 1) steps ≡ take i steps ++ step ∷ []
first-more steps i step low is = take_more steps i step low ∙ ap (λ (s : Step). take i steps ++ s ∷ []) (sym is)

module _ (steps : List Step) (i : ℕ) (step : Step) (old new now : Lemmas) (was : Begins (take i steps) old) (low : i < length steps) (at : step ≡ get_or steps i step) (same : now ≡ new) where
  more : (s : Step) → step ≡ s → take (i + 1) steps ≡ take i steps ++ s ∷ []
  more s is = first-more steps i step low at ∙ ap (λ (t : Step). take i steps ++ t ∷ []) is

  moves : (s : Step) → step ≡ s → Begins (take i steps ++ s ∷ []) new → Begins (take (i + 1) steps) now
  moves s is begins = subst (λ (l : Lemmas). Begins (take (i + 1) steps) l) (sym same) (subst (λ (xs : List Step). Begins xs new) (sym (more s is)) begins)

  pub begins_add : (id : ℕ) (lits : List Lit) (hints : List ℤ) → step ≡ Add id lits hints → new.levels.items ≡ old.levels.items ++ length lits ∷ [] →
      new.from ≡ old.from → Begins (take (i + 1) steps) now
  begins_add id lits hints is levels from = moves (Add id lits hints) is (record {
    levels = levels ∙ ap (λ (s : List ℕ). s ++ length lits ∷ []) was.levels ∙ sym (sizes_append (take i steps) (Add id lits hints ∷ []));
    from = from ∙ was.from;
  })

  pub begins_drop : (ids : List ℕ) → step ≡ Drop ids → new ≡ record old { drops = old.drops + 1; wait = gap_after (old.drops + 1) } → Begins (take (i + 1) steps) now
  begins_drop ids is dropped = moves (Drop ids) is (record {
    levels = ap (λ (l : Lemmas). l.levels.items) dropped ∙ was.levels ∙ sym (append-nil (sizes (take i steps))) ∙ sym (sizes_append (take i steps) (Drop ids ∷ []));
    from = ap (λ (l : Lemmas). l.from) dropped ∙ was.from;
  })

  pub begins_bound : (id price : ℕ) → step ≡ Bound id price → new ≡ old → Begins (take (i + 1) steps) now
  begins_bound id price is unchanged = moves (Bound id price) is (record {
    levels = ap (λ (l : Lemmas). l.levels.items) unchanged ∙ was.levels ∙ sym (append-nil (sizes (take i steps))) ∙ sym (sizes_append (take i steps) (Bound id price ∷ []));
    from = ap (λ (l : Lemmas). l.from) unchanged ∙ was.from;
  })
