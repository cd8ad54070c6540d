-- A formula exceeds one limit first.
use Rattle.std.proofs.Common.{◌≡◌, ℕ, List, subst}
use Rattle.arc_base.specs.declared.refusal.LimitKind.{LimitKind}
use Rattle.net_model.specs.declared.policies.Document.{Document}
use Rattle.net_model.specs.declared.rows.Network.{Network}
use Rattle.net_model.specs.Validity.{IsValid}
use Rattle.edit_list.specs.declared.edit_kinds.Edit.{Edit}
use Rattle.edit_list.specs.declared.edit_kinds.EditFault.TheVariants.{Limit}
use Rattle.policy_encode.specs.Formulas.{IsFaultOfFormula}
use Rattle.policy_encode.proofs.OneFault.{one_formula_fault}
use Rattle.repair_check.specs.Certifies.{IsCountFault}
use Rattle.repair_check.specs.Outcomes.{ReaderAnswers}
use Rattle.repair_check.proofs.Counted.{counted_once}

module _ (net : Network) (doc : Document) (list : List Edit) (valid : IsValid net) where
  pub fault_once : (told : ReaderAnswers) (what other : LimitKind) (c d : ℕ) → IsCountFault net doc list told (Limit what c) → IsCountFault net doc list told (Limit other d) → (what ≡ other) × (c ≡ d)
  fault_once told what other c d f g =
      let P : ℕ → Type 0 = λ bound. IsFaultOfFormula net doc list bound (Limit what c) in
      one_formula_fault net doc list g.0 valid what other c d (subst P (counted_once told f.0 g.0 f.1 g.1) f.2) g.2
