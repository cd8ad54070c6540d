-- Claims on a repair: when a claim is true, when it is right apart from its log, and which log
-- shows it.
use Rattle.std.specs.Prelude.{◌≡◌, ℕ, suc, zero, ◌<◌, ◌≤◌, Bool, true, false, IsTrue, Option, Some}
use Rattle.std.specs.Prelude.{List, length}
use Rattle.std.specs.List.{AllZip}
use Rattle.arc_base.specs.declared.limits.TheConstants.{PRICE_LIMIT}
use Rattle.cnf_types.specs.declared.literal.Lit.{Lit}
use Rattle.cnf_types.specs.declared.clauses.Formula.{Formula}
use Rattle.net_model.specs.declared.policies.Document.{Document}
use Rattle.net_model.specs.declared.policies.Policy.{Policy}
use Rattle.net_model.specs.declared.rows.Network.{Network}
use Rattle.net_model.specs.declared.verdicts.Verdict.{Verdict}
use Rattle.net_model.specs.Witnesses.{is_yes, IsRight}
use Rattle.edit_list.specs.declared.claims.Claim.{Claim}
use Rattle.edit_list.specs.declared.claims.Claim.TheVariants.{Repaired, NoRepair}
use Rattle.edit_list.specs.declared.edit_kinds.Edit.{Edit}
use Rattle.edit_list.specs.After.{IsAfter}
use Rattle.edit_list.specs.Prices.{chosen_of, price_of_flags}
use Rattle.policy_encode.specs.Formulas.{IsRepairFormula}
use Rattle.price_descent.specs.Outcomes.{least_below}
use Rattle.proof_check.specs.Knowledge.{start}
use Rattle.proof_check.specs.Logs.{IsAccepted, IsRefuting}
use Rattle.proof_log.specs.declared.steps.Step.{Step}
use Rattle.arc_repair.specs.Repairs.{Mends, IsLeastPrice}

-- the verdict is a yes, and right
pub record IsRightYes (net : Network) (policy : Policy) (v : Verdict) : Type 0 where
  pub yes : IsTrue (is_yes v)
  pub right : IsRight net policy v

-- the claim of a repair is right: there is a flag for each edit, the chosen ones cost the price,
-- which is within the bound, the bound is at most PRICE_LIMIT, and in the network after them the
-- verdicts are right yeses, one on each policy in order
pub record IsRightRepair (net : Network) (doc : Document) (list : List Edit) (price bound : ℕ)
    (flags : List Bool) (verdicts : List Verdict) : Type 0 where
  pub one_each : length flags ≡ length list
  pub costs : price_of_flags doc list flags ≡ price
  pub affordable : price ≤ bound
  pub few : bound ≤ PRICE_LIMIT
  pub after : Network
  pub is_after : IsAfter net (chosen_of list flags) after
  pub judged : AllZip (IsRightYes after) doc.policies verdicts

-- the claim is right apart from its log
abbrev pub IsRightClaim : Network → Document → List Edit → Claim → Type 0
IsRightClaim net doc list (Repaired price bound flags verdicts) =
    IsRightRepair net doc list price bound flags verdicts
IsRightClaim net doc list (NoRepair bound) = bound ≤ PRICE_LIMIT

-- the edits mend the network at this price, and none that mend it cost less
pub record IsCheapestRepair (net : Network) (doc : Document) (list : List Edit) (price bound : ℕ)
    (flags : List Bool) (verdicts : List Verdict) : Type 0 where
  pub right : IsRightRepair net doc list price bound flags verdicts
  pub mends : Mends net doc list flags
  pub least : IsLeastPrice net doc list price

-- the claim is true: these are the cheapest edits that mend the network, or all that do cost more
-- than the bound
abbrev pub IsTrueClaim : Network → Document → List Edit → Claim → Type 0
IsTrueClaim net doc list (Repaired price bound flags verdicts) =
    IsCheapestRepair net doc list price bound flags verdicts
IsTrueClaim net doc list (NoRepair bound) =
    (flags : List Bool) → Mends net doc list flags → bound < price_of_flags doc list flags

-- the bound of the claim
abbrev pub claim_bound : Claim → ℕ
claim_bound (Repaired price bound flags verdicts) = bound
claim_bound (NoRepair bound) = bound

-- the least bound that a log of the claim may have: one less than the price of a repair, and the
-- bound itself if there is no repair
abbrev pub least_bound : Claim → Option ℕ
least_bound (Repaired price bound flags verdicts) = least_below price
least_bound (NoRepair bound) = Some bound

-- whether there is a price below this one, and so something to refute
abbrev pub is_above_zero : ℕ → Bool
is_above_zero zero = false
is_above_zero (suc n) = true

-- whether the log of the claim has to refute the formula: for each claim but a repair that costs
-- nothing
abbrev pub needs_refutation : Claim → Bool
needs_refutation (Repaired price bound flags verdicts) = is_above_zero price
needs_refutation (NoRepair bound) = true

-- the log shows the claim: it is accepted for the repair formula and the least bound, and adds the
-- empty clause if there is something to refute
pub record Shows (net : Network) (doc : Document) (list : List Edit) (claim : Claim)
    (steps : List Step) : Type 0 where
  pub formula : Formula
  pub tops : List Lit
  pub is_formula : IsRepairFormula net doc list (claim_bound claim) formula tops
  pub accepted : IsAccepted (start formula (least_bound claim) tops) steps
  pub refuting : IsTrue (needs_refutation claim) → IsRefuting steps

-- the claim and the log are a certificate: the claim is right, and the log shows it
pub record IsCertificate (net : Network) (doc : Document) (list : List Edit) (claim : Claim)
    (steps : List Step) : Type 0 where
  pub right : IsRightClaim net doc list claim
  pub shown : Shows net doc list claim steps
