-- What a search keeps between its conflicts.
use Rattle.std.specs.Prelude.{◌≡◌, ℕ, ◌+◌, ◌*◌, false, List, length}
use Rattle.cnf_types.specs.declared.literal.Lit.{Lit}
use Rattle.proof_log.specs.declared.steps.Step.{Step}
use Rattle.sat_search.specs.declared.learner.Learner.{Learner}
use Rattle.sat_search.specs.Passes.{is_marked}
use Rattle.sat_search.specs.Orders.{IsOrder}
use Rattle.sat_search.specs.Dropping.{AreLemmas}

-- it is for these variables and this log, and no literal is marked
pub record IsReady (vars : ℕ) (steps : List Step) (learner : Learner) : Type 0 where
  pub size : length learner.marks ≡ 2 * vars + 2
  pub none : (l : Lit) → is_marked learner.marks l ≡ false
  pub order : IsOrder vars learner.order
  pub lemmas : AreLemmas steps learner.lemmas
