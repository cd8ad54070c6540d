-- The result of a search over a formula's clauses, as one about the formula.
use Rattle.std.proofs.Common.{◌≡◌, ℕ, suc, Bool, IsTrue, List, [], ◌∷◌, length, get_or, All, Contains, Some, None, ap, ◌∙◌, arith}
use Rattle.cnf_types.specs.declared.clauses.Formula.{Formula}
use Rattle.cnf_types.specs.Formulas.{Satisfies, clause_value}
use Rattle.proof_log.specs.declared.steps.Step.{Step}
use Rattle.proof_log.specs.declared.steps.Step.TheVariants.{Add, Drop, Bound}
use Rattle.proof_check.specs.Knowledge.{start}
use Rattle.proof_check.specs.Logs.{IsAccepted, IsRefuting, KeepsBounds}
use Rattle.proof_check.proofs.SoundLogs.{sound}
use Rattle.sat_core.specs.declared.numbered.Numbered.{Numbered}
use Rattle.sat_search.specs.Live.{clause_in}
use Rattle.sat_search.specs.Searches.{KeepsOthers}
use Rattle.sat_search.proofs.FormulaClauses.{live_at, of_id}
use Rattle.sat_search.specs.Cores.{numbered}

-- ---- what is true of all clauses

abbrev no-ids : List ℕ
no-ids = []

none-held : (ids : List ℕ) → ids ≡ no-ids → (id : ℕ) → Contains ids id → ⊥
none-held ids none id held = omega (arith, held.1, ap length none)

-- if the clauses of the formula are never dropped, and all that are live in the end are true, the formula is satisfied
pub stays_satisfied : (f : Formula) (a : ℕ → Bool) (added : List ℕ) (old new : List Numbered) → old ≡ numbered f.clauses → added ≡ no-ids →
    KeepsOthers added old new → All (λ c. IsTrue (clause_value a c.lits)) new → Satisfies a f
stays_satisfied f a added old new old_is none others all k d low =
    let lits = (get_or f.clauses k d).lits in
    let is : clause_in old (suc k) ≡ Some lits = ap (λ (cs : List Numbered). clause_in cs (suc k)) old_is ∙ live_at f.clauses k d low in
    of_id (λ ls. IsTrue (clause_value a ls)) new all (suc k) lits (others (suc k) lits is (none-held added none (suc k)))

-- ---- without bounds, an accepted log that adds the empty clause leaves no satisfying assignment

no_bounds : (a : ℕ → Bool) (steps : List Step) → KeepsBounds a [] steps
no_bounds a [] = tt
no_bounds a (Add id lits hints ∷ steps) = (tt, no_bounds a steps)
no_bounds a (Drop ids ∷ steps) = (tt, no_bounds a steps)
no_bounds a (Bound id price ∷ steps) = (tt, no_bounds a steps)

pub unsatisfiable : (f : Formula) (steps : List Step) → IsAccepted (start f None []) steps → IsRefuting steps → (a : ℕ → Bool) → Satisfies a f → ⊥
unsatisfiable f steps accepted refuting a sat = sound f None [] steps accepted refuting a sat (no_bounds a steps)
