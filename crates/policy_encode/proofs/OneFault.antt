-- A formula that keeps its limits passes none, and the limit that one passes is one.
use Rattle.std.proofs.Common.{◌≡◌, ◌∙◌, ℕ, List, refl, sym, subst, arith}
use Rattle.arc_base.specs.declared.refusal.LimitKind.{LimitKind}
use Rattle.arc_base.specs.declared.refusal.LimitKind.TheVariants.{Literals, Variables}
use Rattle.condition_formula.specs.declared.network.ConditionNet.{ConditionNet}
use Rattle.condition_formula.specs.Limits.{IsWithinLimits, HasTooManyLiterals, HasTooManyVariables}
use Rattle.net_model.specs.declared.policies.Document.{Document}
use Rattle.net_model.specs.declared.rows.Network.{Network}
use Rattle.net_model.specs.Validity.{IsValid}
use Rattle.edit_list.specs.declared.edit_kinds.Edit.{Edit}
use Rattle.edit_list.specs.declared.edit_kinds.EditFault.TheVariants.{Limit}
use Rattle.policy_encode.specs.Formulas.{IsFaultOfFormula, IsWithin, PassesLiterals, PassesVariables}
use Rattle.policy_encode.proofs.One.{one_net}

too_many_variables : (x y : ConditionNet) (bound count : ℕ) → x ≡ y → IsWithinLimits x bound → HasTooManyVariables y bound count → ⊥
too_many_variables x y bound count same within many =
    let P : ConditionNet → Type 0 = λ z. IsWithinLimits z bound in
    omega (arith, (subst P same within).variables, many.many, many.exact)

too_many_literals : (x y : ConditionNet) (bound count : ℕ) → x ≡ y → IsWithinLimits x bound → HasTooManyLiterals y bound count → ⊥
too_many_literals x y bound count same within many =
    let P : ConditionNet → Type 0 = λ z. IsWithinLimits z bound in
    omega (arith, (subst P same within).literals, many.many)

pub within_or_passed : (net : Network) (doc : Document) (list : List Edit) (bound : ℕ) → IsValid net → IsWithin net doc list bound
    → (what : LimitKind) (count : ℕ) → IsFaultOfFormula net doc list bound (Limit what count) → ⊥
within_or_passed net doc list bound valid within Variables count passed =
    too_many_variables within.0 passed.0 bound count (one_net net doc list within.0 passed.0 valid within.1 passed.1) within.2 passed.2
within_or_passed net doc list bound valid within Literals count passed =
    too_many_literals within.0 passed.0 bound count (one_net net doc list within.0 passed.0 valid within.1 passed.1) within.2 passed.2
within_or_passed net doc list bound valid within other count passed = absurd passed

variables_or_literals : (net : Network) (doc : Document) (list : List Edit) (bound c d : ℕ) → IsValid net → PassesVariables net doc list bound c → PassesLiterals net doc list bound d → ⊥
variables_or_literals net doc list bound c d valid x y =
    let moved : HasTooManyLiterals x.0 bound d = subst (λ (z : ConditionNet). HasTooManyLiterals z bound d) (one_net net doc list y.0 x.0 valid y.1 x.1) y.2 in
    absurd (omega (arith, x.2.many, x.2.exact, moved.variables))

pub one_formula_fault : (net : Network) (doc : Document) (list : List Edit) (bound : ℕ) → IsValid net → (a b : LimitKind) (c d : ℕ) →
    IsFaultOfFormula net doc list bound (Limit a c) → IsFaultOfFormula net doc list bound (Limit b d) → (a ≡ b) × (c ≡ d)
one_formula_fault net doc list bound valid Variables Variables c d x y =
    let moved : HasTooManyVariables x.0 bound d = subst (λ (z : ConditionNet). HasTooManyVariables z bound d) (one_net net doc list y.0 x.0 valid y.1 x.1) y.2 in
    (refl, x.2.exact ∙ sym moved.exact)
one_formula_fault net doc list bound valid Literals Literals c d x y =
    let moved : HasTooManyLiterals x.0 bound d = subst (λ (z : ConditionNet). HasTooManyLiterals z bound d) (one_net net doc list y.0 x.0 valid y.1 x.1) y.2 in
    (refl, x.2.exact ∙ sym moved.exact)
one_formula_fault net doc list bound valid Variables Literals c d x y = absurd (variables_or_literals net doc list bound c d valid x y)
one_formula_fault net doc list bound valid Literals Variables c d x y = absurd (variables_or_literals net doc list bound d c valid y x)
one_formula_fault net doc list bound valid Variables other c d x y = absurd y
one_formula_fault net doc list bound valid Literals other c d x y = absurd y
one_formula_fault net doc list bound valid other b c d x y = absurd x
