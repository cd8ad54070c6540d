-- The repair formula of a network, a document and a list of edits, and why there is none.
use Rattle.std.specs.Prelude.{◌≡◌, ℕ, List}
use Rattle.arc_base.specs.declared.refusal.LimitKind.TheVariants as limits
use Rattle.net_model.specs.declared.policies.Document.{Document}
use Rattle.net_model.specs.declared.rows.Network.{Network}
use Rattle.cnf_types.specs.declared.literal.Lit.{Lit}
use Rattle.cnf_types.specs.declared.clauses.Formula.{Formula}
use Rattle.condition_formula.specs.declared.network.ConditionNet.{ConditionNet}
use Rattle.condition_formula.specs.Formulas.{repair_formula, tops_of}
use Rattle.condition_formula.specs.Limits.{IsWithinLimits, HasTooManyVariables, HasTooManyLiterals}
use Rattle.edit_list.specs.declared.edit_kinds.Edit.{Edit}
use Rattle.edit_list.specs.declared.edit_kinds.EditFault.{EditFault}
use Rattle.edit_list.specs.declared.edit_kinds.EditFault.TheVariants.{Limit, Memory}
use Rattle.policy_encode.specs.Questions.{AreConditions}

-- the formula and its tops are those of the network's conditions, for prices up to the bound
pub record IsRepairFormula (net : Network) (doc : Document) (list : List Edit) (bound : ℕ)
    (formula : Formula) (tops : List Lit) : Type 0 where
  pub conditions : ConditionNet
  pub are : AreConditions net doc list conditions
  pub formula_is : formula ≡ repair_formula conditions bound
  pub tops_are : tops ≡ tops_of conditions bound

-- the network of conditions of the network, the document and the edits has this property
abbrev pub HasConditions : Network → Document → List Edit → (ConditionNet → Type 0) → Type 0
HasConditions net doc list P =
    (conditions : ConditionNet) × AreConditions net doc list conditions × P conditions

-- the formula has at most VARIABLE_LIMIT variables and at most LITERAL_LIMIT literals
abbrev pub IsWithin : Network → Document → List Edit → ℕ → Type 0
IsWithin net doc list bound =
    HasConditions net doc list (λ conditions. IsWithinLimits conditions bound)

-- the formula has this many variables, more than VARIABLE_LIMIT
abbrev pub PassesVariables : Network → Document → List Edit → ℕ → ℕ → Type 0
PassesVariables net doc list bound count =
    HasConditions net doc list (λ conditions. HasTooManyVariables conditions bound count)

-- it has not, but this many literals, more than LITERAL_LIMIT, or the most that can be counted
abbrev pub PassesLiterals : Network → Document → List Edit → ℕ → ℕ → Type 0
PassesLiterals net doc list bound count =
    HasConditions net doc list (λ conditions. HasTooManyLiterals conditions bound count)

-- the fault names the limit that the formula passes, or is out of memory
abbrev pub IsFaultOfFormula : Network → Document → List Edit → ℕ → EditFault → Type 0
IsFaultOfFormula net doc list bound (Limit limits.Variables count) =
    PassesVariables net doc list bound count
IsFaultOfFormula net doc list bound (Limit limits.Literals count) =
    PassesLiterals net doc list bound count
IsFaultOfFormula net doc list bound (Limit other count) = ⊥
IsFaultOfFormula net doc list bound Memory = Unit {0}
