-- The certificate of a repair has one first limit that is exceeded.
use Rattle.std.proofs.Common.{◌≡◌, ℕ, inl, inr, List, subst}
use Rattle.arc_base.specs.declared.refusal.LimitKind.{LimitKind}
use Rattle.net_model.specs.declared.policies.Document.{Document}
use Rattle.net_model.specs.declared.rows.Network.{Network}
use Rattle.net_model.specs.Validity.{IsValid}
use Rattle.edit_list.specs.declared.edit_kinds.Edit.{Edit}
use Rattle.edit_list.specs.declared.edit_kinds.EditFault.TheVariants.{Limit}
use Rattle.edit_list.proofs.OneEditList.{edit_lists_are_one}
use Rattle.repair_check.specs.Certifies.{IsCountFault, text_answers}
use Rattle.repair_check.proofs.OneFault as formulas
use Rattle.file_copies.proofs.FewEdits.{few_or_limit}
use Rattle.file_copies.proofs.OneRefusal.{one_limit}
use Rattle.check_commands.specs.RepairChecks.{IsTextFault}

module _ (net : Network) (doc : Document) (valid : IsValid net) where
  -- classes are counted first, then edits, and then the formula
  pub fault_once : (text : List ℕ) (what other : LimitKind) (count more : ℕ) → IsTextFault net doc text (Limit what count) →
      IsTextFault net doc text (Limit other more) → (what ≡ other) × (count ≡ more)
  fault_once text what other count more (inl n) (inl m) = one_limit net doc valid what other count more n m
  fault_once text what other count more (inl n) (inr q) = absurd (few_or_limit net doc q.list valid q.edits q.few q.classes what count n)
  fault_once text what other count more (inr p) (inl m) = absurd (few_or_limit net doc p.list valid p.edits p.few p.classes other more m)
  fault_once text what other count more (inr p) (inr q) =
      let P : List Edit → Type 0 = λ l. IsCountFault net doc l (text_answers net doc l text) (Limit other more) in
      formulas.fault_once net doc p.list valid (text_answers net doc p.list text) what other count more p.formula (subst P (edit_lists_are_one net doc q.list p.list valid q.edits p.edits) q.formula)
