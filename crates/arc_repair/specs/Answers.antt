-- The answers of a repair.
use Rattle.std.specs.Prelude.{◌≡◌, ℕ, ◌+◌, ◌≤◌, ◌⊎◌, Bool, Some, List, [], length, All}
use Rattle.arc_base.specs.declared.limits.TheConstants.{CLASS_LIMIT, EDIT_LIMIT}
use Rattle.cnf_types.specs.declared.literal.Lit.{Lit}
use Rattle.cnf_types.specs.declared.clauses.Formula.{Formula}
use Rattle.clean_logs.specs.CleanLogs.{IsSpent}
use Rattle.net_model.specs.declared.policies.Document.{Document}
use Rattle.net_model.specs.declared.rows.Network.{Network}
use Rattle.net_model.specs.declared.verdicts.Verdict.{Verdict}
use Rattle.net_model.specs.declared.verdicts.Verdict.TheVariants.{Closed, Paths}
use Rattle.edit_list.specs.declared.claims.Claim.{Claim}
use Rattle.edit_list.specs.declared.claims.Claim.TheVariants.{Repaired, NoRepair}
use Rattle.edit_list.specs.declared.edit_kinds.Edit.{Edit}
use Rattle.edit_list.specs.declared.edit_kinds.EditFault.{EditFault}
use Rattle.edit_list.specs.EditLists.{AreEdits, DocumentHasFewClasses, NamesLimit}
use Rattle.edit_list.specs.Prices.{price_of_flags, none_of}
use Rattle.policy_encode.specs.Formulas.{IsRepairFormula, IsWithin, IsFaultOfFormula}
use Rattle.proof_log.specs.declared.steps.Step.{Step}
use Rattle.proof_log.specs.declared.steps.Step.TheVariants.{Add, Drop, Bound}
use Rattle.arc_repair.specs.declared.answer.Answer.{Answer}
use Rattle.arc_repair.specs.declared.answer.Answer.TheVariants.{Done, Budget}
use Rattle.arc_repair.specs.Repairs.{Mends}
use Rattle.arc_repair.specs.Claims.{claim_bound, IsTrueClaim, IsCertificate}

-- the claim is true and has the bound that was asked for, and with the log it is a certificate
pub record IsDone (net : Network) (doc : Document) (list : List Edit) (bound : ℕ) (claim : Claim)
    (steps : List Step) : Type 0 where
  pub same_bound : claim_bound claim ≡ bound
  pub is_true : IsTrueClaim net doc list claim
  pub certificate : IsCertificate net doc list claim steps

-- some edits mend the network at just this price
pub record IsPriceOfRepair (net : Network) (doc : Document) (list : List Edit)
    (price : ℕ) : Type 0 where
  pub flags : List Bool
  pub mends : Mends net doc list flags
  pub costs : price_of_flags doc list flags ≡ price

-- a bound of the log is the one that was asked for, or one less than the price of edits after which
-- the network meets the document
abbrev pub IsBoundWithCause : Network → Document → List Edit → ℕ → Step → Type 0
IsBoundWithCause net doc list most (Add id lits hints) = Unit {0}
IsBoundWithCause net doc list most (Drop ids) = Unit {0}
IsBoundWithCause net doc list most (Bound id bound) =
    (bound ≡ most) ⊎ IsPriceOfRepair net doc list (bound + 1)

-- the log is spent: for the repair formula it is clean, and it adds as many clauses as the limit;
-- each of its bounds has its cause
pub record IsOutOfRepairBudget (net : Network) (doc : Document) (list : List Edit) (bound limit : ℕ)
    (steps : List Step) : Type 0 where
  pub formula : Formula
  pub tops : List Lit
  pub is_formula : IsRepairFormula net doc list bound formula tops
  pub spent : IsSpent formula (Some 0) tops limit steps
  pub bounds : All (IsBoundWithCause net doc list bound) steps

-- the answer is right
abbrev pub IsRepairAnswer : Network → Document → List Edit → ℕ → ℕ → Answer → Type 0
IsRepairAnswer net doc list bound limit (Done claim log) = IsDone net doc list bound claim log.steps
IsRepairAnswer net doc list bound limit (Budget log) =
    IsOutOfRepairBudget net doc list bound limit log.steps

-- the steps of the answer's log
abbrev pub answer_steps : Answer → List Step
answer_steps (Done claim log) = log.steps
answer_steps (Budget log) = log.steps

-- the answer chooses no edit, and its log is empty
abbrev pub IsUntouched : List Edit → Answer → Type 0
IsUntouched list (Done (Repaired price bound flags verdicts) log) =
    (price ≡ 0) × (flags ≡ none_of list) × (log.steps ≡ [])
IsUntouched list (Done (NoRepair bound) log) = ⊥
IsUntouched list (Budget log) = ⊥

-- a verdict shows at most CLASS_LIMIT closed sides or paths
abbrev pub ShowsFew : Verdict → Type 0
ShowsFew (Closed sides) = length sides ≤ CLASS_LIMIT
ShowsFew (Paths paths) = length paths ≤ CLASS_LIMIT
ShowsFew other = Unit {0}

-- each verdict of the claim shows at most CLASS_LIMIT closed sides or paths
abbrev pub ClaimsFew : Claim → Type 0
ClaimsFew (Repaired price bound flags verdicts) = All ShowsFew verdicts
ClaimsFew (NoRepair bound) = Unit {0}

-- each verdict of the answer shows at most CLASS_LIMIT closed sides or paths
abbrev pub AnswersFew : Answer → Type 0
AnswersFew (Done claim log) = ClaimsFew claim
AnswersFew (Budget log) = Unit {0}

-- there are few classes and few edits, and the formula is within its limits
pub record KeepsLimits (net : Network) (doc : Document) (list : List Edit)
    (bound : ℕ) : Type 0 where
  pub classes : DocumentHasFewClasses net doc
  pub edits : length list ≤ EDIT_LIMIT
  pub formula : IsWithin net doc list bound

-- with few classes and few edits, the formula exceeds the limit that the fault names
pub record PassesFormula (net : Network) (doc : Document) (bound : ℕ)
    (fault : EditFault) : Type 0 where
  pub list : List Edit
  pub are : AreEdits net doc list
  pub classes : DocumentHasFewClasses net doc
  pub edits : length list ≤ EDIT_LIMIT
  pub formula : IsFaultOfFormula net doc list bound fault

-- the fault names the first limit that is exceeded: of classes, of edits, of the formula's
-- variables, of its literals
abbrev pub IsRepairFault : Network → Document → ℕ → EditFault → Type 0
IsRepairFault net doc bound fault = NamesLimit net doc fault ⊎ PassesFormula net doc bound fault
