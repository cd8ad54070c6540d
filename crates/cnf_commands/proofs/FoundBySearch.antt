-- The result of a search over the formula's core as the answer of `solve`.
use Rattle.std.proofs.Common.{◌≡◌, ◌∙◌, ℕ, List, [], ◌++◌, None, refl, sym, ap, subst}
use Rattle.cnf_types.specs.declared.clauses.Formula.{Formula}
use Rattle.cnf_types.specs.Formulas.{value_at}
use Rattle.proof_log.specs.declared.steps.Step.{Step}
use Rattle.proof_log.specs.declared.steps.Log.{Log}
use Rattle.proof_check.specs.Knowledge.{start}
use Rattle.proof_check.specs.Logs.{IsAccepted, IsRefuting}
use Rattle.clean_logs.specs.CleanLogs.{IsClean, IsSpent, added_by}
use Rattle.sat_core.specs.States.{State}
use Rattle.sat_search.specs.declared.found.Found.{Found}
use Rattle.sat_search.specs.declared.found.Found.TheVariants.{Model, Refuted, Budget}
use Rattle.sat_search.specs.Searches.{IfModel, IsModelOf, KeepsOthers}
use Rattle.sat_search.specs.Cores.{core_of}
use Rattle.cnf_commands.specs.Solves.{IsSearchResult}
use Rattle.cnf_commands.proofs.Searching.{stays_satisfied, unsatisfiable}

-- the steps are those that were appended to an empty log
pub all_appended : (P : List Step → Type 0) (old new more : List Step) → old ≡ [] → new ≡ old ++ more → P more → P new
all_appended P old new more empty is h = subst P (sym (is ∙ ap (λ steps. steps ++ more) empty)) h

pub is_found : (f : Formula) (limit : ℕ) (log : Log) (found : Found) (old new : State) (steps : List Step) → old ≡ core_of f → steps ≡ []
    → IfModel found (IsModelOf new) → IfModel found (λ values. KeepsOthers (added_by [] steps) old.clauses new.clauses) → IfModel found (λ values. new.vars ≡ old.vars)
    → (found ≡ Refuted → IsRefuting log.steps) → (found ≡ Budget → IsSpent f None [] limit log.steps) → IfModel found (λ values. IsClean f None [] log.steps) →
    IsAccepted (start f None []) log.steps → IsSearchResult f limit log found
is_found f limit log (Model values) old new steps core empty model others vars refuting spent clean accepted = (
  record {
    one_each = model.size ∙ (vars ∙ ap (λ (s : State). s.vars) core);
    satisfies = stays_satisfied f (value_at values) (added_by [] steps) old.clauses new.clauses (ap (λ (s : State). s.clauses) core) (ap (added_by []) empty) others model.satisfied;
  },
  clean,
)
is_found f limit log Refuted old new steps core empty model others vars refuting spent clean accepted = (refuting refl, unsatisfiable f log.steps accepted (refuting refl))
is_found f limit log Budget old new steps core empty model others vars refuting spent clean accepted = spent refl
