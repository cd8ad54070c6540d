-- A network with each count within its limit is refused for no count, and any network for one count at most.
use Rattle.std.proofs.Common.{◌≡◌, ℕ, inl, inr, List, subst}
use Rattle.arc_base.specs.declared.refusal.LimitKind.{LimitKind}
use Rattle.net_model.specs.declared.policies.Document.{Document}
use Rattle.net_model.specs.declared.rows.Network.{Network}
use Rattle.net_model.specs.Validity.{IsValid}
use Rattle.edit_list.specs.declared.edit_kinds.Edit.{Edit}
use Rattle.edit_list.specs.declared.edit_kinds.EditFault.TheVariants.{Limit}
use Rattle.edit_list.specs.EditLists.{AreEdits}
use Rattle.edit_list.proofs.OneEditList.{edit_lists_are_one}
use Rattle.policy_encode.specs.Formulas.{IsFaultOfFormula, IsWithin}
use Rattle.policy_encode.proofs.OneFault.{one_formula_fault, within_or_passed}
use Rattle.arc_repair.specs.Answers.{IsRepairFault, KeepsLimits}
use Rattle.file_copies.proofs.FewEdits.{few_or_limit}
use Rattle.file_copies.proofs.OneRefusal.{one_limit}

pub kept_or_passed : (net : Network) (doc : Document) (list : List Edit) (bound : ℕ) → IsValid net → AreEdits net doc list → KeepsLimits net doc list bound
    → (what : LimitKind) (count : ℕ) → IsRepairFault net doc bound (Limit what count) → ⊥
kept_or_passed net doc list bound valid are kept what count (inl names) = few_or_limit net doc list valid are kept.edits kept.classes what count names
kept_or_passed net doc list bound valid are kept what count (inr passes) =
    let same : list ≡ passes.list = edit_lists_are_one net doc list passes.list valid are passes.are in
    let P : List Edit → Type 0 = λ l. IsWithin net doc l bound in
    within_or_passed net doc passes.list bound valid (subst P same kept.formula) what count passes.formula

-- there is one fault
pub one_fault : (net : Network) (doc : Document) (bound : ℕ) → IsValid net → (a b : LimitKind) (c d : ℕ) → IsRepairFault net doc bound (Limit a c) →
    IsRepairFault net doc bound (Limit b d) → (a ≡ b) × (c ≡ d)
one_fault net doc bound valid a b c d (inl x) (inl y) = one_limit net doc valid a b c d x y
one_fault net doc bound valid a b c d (inl x) (inr y) = absurd (few_or_limit net doc y.list valid y.are y.edits y.classes a c x)
one_fault net doc bound valid a b c d (inr x) (inl y) = absurd (few_or_limit net doc x.list valid x.are x.edits x.classes b d y)
one_fault net doc bound valid a b c d (inr x) (inr y) =
    let same : y.list ≡ x.list = edit_lists_are_one net doc y.list x.list valid y.are x.are in
    let P : List Edit → Type 0 = λ list. IsFaultOfFormula net doc list bound (Limit b d) in
    one_formula_fault net doc x.list bound valid a b c d x.formula (subst P same y.formula)
