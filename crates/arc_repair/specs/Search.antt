-- What the functions that search for a repair keep.
use Rattle.std.specs.Prelude.{◌≡◌, ℕ, ◌≤◌, ◌==◌, Bool, List, length, if◌then◌else◌}
use Rattle.std.specs.List.{AllZip}
use Rattle.cnf_types.specs.declared.literal.Lit.{Lit}
use Rattle.cnf_types.specs.declared.clauses.Formula.{Formula}
use Rattle.net_model.specs.declared.policies.Document.{Document}
use Rattle.net_model.specs.declared.rows.Network.{Network}
use Rattle.net_model.specs.declared.verdicts.Verdict.{Verdict}
use Rattle.edit_list.specs.declared.edit_kinds.Edit.{Edit}
use Rattle.edit_list.specs.declared.claims.Claim.TheVariants.{NoRepair}
use Rattle.edit_list.specs.After.{IsAfter}
use Rattle.edit_list.specs.Prices.{chosen_of, price_of_flags}
use Rattle.policy_encode.specs.Formulas.{IsRepairFormula}
use Rattle.price_descent.specs.declared.found.Found.{Found}
use Rattle.price_descent.specs.declared.found.Found.TheVariants.{Cheapest, Nothing, Budget}
use Rattle.price_descent.specs.declared.found.Offer.{Offer}
use Rattle.price_descent.specs.Outcomes.{least_below}
use Rattle.proof_check.specs.Knowledge.{start}
use Rattle.proof_check.specs.Logs.{IsAccepted, IsRefuting}
use Rattle.proof_log.specs.declared.steps.Step.{Step}
use Rattle.arc_repair.specs.Answers.{IsDone, IsOutOfRepairBudget}
use Rattle.arc_repair.specs.Claims.{IsRightYes}
use Rattle.arc_repair.specs.Repairs.{Mends, IsLeastPrice}

-- the price of the edits that the flags choose, or 0 if there is not one flag for each edit
abbrev pub flagged_cost : Document → List Edit → List Bool → ℕ
flagged_cost doc list flags =
    if length flags == length list then price_of_flags doc list flags else 0

-- the verdicts are right yeses, one on each policy in order, in the network after the edits that
-- the flags choose
pub record AreYesAfter (net : Network) (doc : Document) (list : List Edit) (flags : List Bool)
    (verdicts : List Verdict) : Type 0 where
  pub after : Network
  pub is_after : IsAfter net (chosen_of list flags) after
  pub judged : AllZip (IsRightYes after) doc.policies verdicts

-- the edits that were found mend the network, none that do are cheaper, and the log shows it
pub record IsCheapestFound (net : Network) (doc : Document) (list : List Edit) (bound : ℕ)
    (offer : Offer) (steps : List Step) : Type 0 where
  pub mends : Mends net doc list offer.values
  pub costs : price_of_flags doc list offer.values ≡ offer.price
  pub affordable : offer.price ≤ bound
  pub least : IsLeastPrice net doc list offer.price
  pub formula : Formula
  pub tops : List Lit
  pub is_formula : IsRepairFormula net doc list bound formula tops
  pub accepted : IsAccepted (start formula (least_below offer.price) tops) steps
  pub refuting : 1 ≤ offer.price → IsRefuting steps

-- what a search found is right
abbrev pub IsSearched : Network → Document → List Edit → ℕ → ℕ → Found → Type 0
IsSearched net doc list bound limit (Cheapest offer log) =
    IsCheapestFound net doc list bound offer log.steps
IsSearched net doc list bound limit (Nothing log) =
    IsDone net doc list bound (NoRepair bound) log.steps
IsSearched net doc list bound limit (Budget log) =
    IsOutOfRepairBudget net doc list bound limit log.steps
