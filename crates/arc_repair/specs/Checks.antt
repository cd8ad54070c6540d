-- The check of a claim with its log: what is wrong with a claim, and what a check knows.
use Rattle.std.specs.Prelude.{◌≡◌, ◌≢◌, ℕ, ◌<◌, ◌≤◌, ◌⊎◌, Bool, IsFalse, List, [], ◌∷◌, length}
use Rattle.arc_base.specs.declared.limits.TheConstants.{EDIT_LIMIT, PRICE_LIMIT}
use Rattle.arc_base.specs.declared.certificate.CertKind.{CertKind}
use Rattle.arc_base.specs.declared.certificate.CertKind.TheVariants as kinds
use Rattle.cnf_types.specs.declared.literal.Lit.{Lit}
use Rattle.cnf_types.specs.declared.clauses.Formula.{Formula}
use Rattle.net_model.specs.declared.policies.Document.{Document}
use Rattle.net_model.specs.declared.policies.Policy.{Policy}
use Rattle.net_model.specs.declared.rows.Network.{Network}
use Rattle.net_model.specs.declared.verdicts.Verdict.{Verdict}
use Rattle.net_model.specs.Witnesses.{is_yes, IsRight}
use Rattle.edit_list.specs.declared.claims.Claim.{Claim}
use Rattle.edit_list.specs.declared.claims.Claim.TheVariants.{Repaired, NoRepair}
use Rattle.edit_list.specs.declared.edit_kinds.Edit.{Edit}
use Rattle.edit_list.specs.After.{IsAfter}
use Rattle.edit_list.specs.EditLists.{AreEdits, DocumentHasFewClasses}
use Rattle.edit_list.specs.Prices.{chosen_of, price_of_flags}
use Rattle.policy_encode.specs.Formulas.{IsRepairFormula, IsWithin}
use Rattle.proof_check.specs.Knowledge.{Knowledge, start}
use Rattle.proof_check.specs.View.{known}
use Rattle.arc_repair.specs.declared.check.Check.{Check}
use Rattle.arc_repair.specs.declared.check.Made.{Made}
use Rattle.arc_repair.specs.declared.check.Made.TheVariants.{Good, Bad}
use Rattle.arc_repair.specs.Claims.{IsRightYes, IsRightClaim, claim_bound, least_bound}
use Rattle.arc_repair.specs.Claims.{needs_refutation}

-- the claim has a flag for each edit of the network
abbrev pub HasFlags : Network → Document → Claim → Type 0
HasFlags net doc (Repaired price bound flags verdicts) =
    (list : List Edit) → AreEdits net doc list → length flags ≡ length list
HasFlags net doc (NoRepair bound) = Unit {0}

-- the claim has a flag for each edit of this list
abbrev pub HasFlagsOf : List Edit → Claim → Type 0
HasFlagsOf list (Repaired price bound flags verdicts) = length flags ≡ length list
HasFlagsOf list (NoRepair bound) = Unit {0}

-- the price is not that of the edits, or exceeds the bound, or the bound exceeds PRICE_LIMIT
abbrev pub IsMispriced : Document → List Edit → ℕ → ℕ → List Bool → Type 0
IsMispriced doc list price bound flags =
    (price_of_flags doc list flags ≢ price) ⊎ (bound < price) ⊎ (PRICE_LIMIT < bound)

-- the first defect of the verdicts on these policies: one is missing or too many,
-- one is not a yes, or one is not right
abbrev pub IsVerdictDefect : Network → List Policy → List Verdict → CertKind → Type 0
IsVerdictDefect net [] [] kind = ⊥
IsVerdictDefect net [] (v ∷ verdicts) kind = kind ≡ kinds.Policy
IsVerdictDefect net (policy ∷ policies) [] kind = kind ≡ kinds.Policy
IsVerdictDefect net (policy ∷ policies) (v ∷ verdicts) kind =
    (IsFalse (is_yes v) × (kind ≡ kinds.NotYes)) ⊎
    ((¬ IsFalse (is_yes v)) × (¬ IsRight net policy v) × (kind ≡ kinds.Witness)) ⊎
    (IsRightYes net policy v × IsVerdictDefect net policies verdicts kind)

-- the price is right, and this is the first defect of the verdicts in the network
-- after the edits
pub record IsMisjudged (net : Network) (doc : Document) (list : List Edit) (price bound : ℕ)
    (flags : List Bool) (verdicts : List Verdict) (kind : CertKind) : Type 0 where
  pub priced : ¬ IsMispriced doc list price bound flags
  pub after : Network
  pub is_after : IsAfter net (chosen_of list flags) after
  pub defect : IsVerdictDefect after doc.policies verdicts kind

-- this is the first defect of the claim: the price, or else a verdict
abbrev pub IsDefect : Network → Document → List Edit → Claim → CertKind → Type 0
IsDefect net doc list (Repaired price bound flags verdicts) kind =
    (IsMispriced doc list price bound flags × (kind ≡ kinds.Price)) ⊎
    IsMisjudged net doc list price bound flags verdicts kind
IsDefect net doc list (NoRepair bound) kind = (PRICE_LIMIT < bound) × (kind ≡ kinds.Price)

-- what the check knows of the log: the live clauses of the formula and the steps so far, and
-- whether an empty clause was added
abbrev pub knowledge : Check → Knowledge
knowledge check = known check.checker

-- the check of this claim is before its log: all but the log is right, and what is known is the
-- claim's repair formula with its least bound
pub record IsBegun (net : Network) (doc : Document) (list : List Edit) (claim : Claim)
    (check : Check) : Type 0 where
  pub right : IsRightClaim net doc list claim
  pub formula : Formula
  pub tops : List Lit
  pub is_formula : IsRepairFormula net doc list (claim_bound claim) formula tops
  pub knows : knowledge check ≡ start formula (least_bound claim) tops
  pub needs : check.needs_refutation ≡ needs_refutation claim

-- a check of the claim begins, or this is what is wrong with it
abbrev pub IsCheckMade : Network → Document → List Edit → Claim → Made → Type 0
IsCheckMade net doc list claim (Good check) = IsBegun net doc list claim check
IsCheckMade net doc list claim (Bad kind) = IsDefect net doc list claim kind

-- there are few classes and few edits, and if the claim's bound is at most PRICE_LIMIT, the formula
-- is within its limits
pub record ClaimKeepsLimits (net : Network) (doc : Document) (list : List Edit)
    (claim : Claim) : Type 0 where
  pub classes : DocumentHasFewClasses net doc
  pub edits : length list ≤ EDIT_LIMIT
  pub formula : claim_bound claim ≤ PRICE_LIMIT → IsWithin net doc list (claim_bound claim)
