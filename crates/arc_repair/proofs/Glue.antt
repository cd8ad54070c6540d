-- How the functions of a repair fit together.
use Rattle.std.proofs.Common.{◌≡◌, ◌≤◌, ℕ, inl, inr, Bool, List, length, sym, subst}
use Rattle.net_model.specs.declared.policies.Document.{Document}
use Rattle.net_model.specs.declared.rows.Network.{Network}
use Rattle.net_model.specs.Validity.{IsValid}
use Rattle.edit_list.specs.declared.edit_kinds.Edit.{Edit}
use Rattle.edit_list.specs.declared.edit_kinds.EditFault.{EditFault}
use Rattle.edit_list.specs.declared.edit_kinds.EditFault.TheVariants.{Memory}
use Rattle.edit_list.specs.Determined.{EditListsAreOne}
use Rattle.edit_list.specs.EditLists.{AreEdits, DocumentHasFewClasses}
use Rattle.edit_list.specs.Prices.{none_of}
use Rattle.policy_encode.specs.Formulas as encoded
use Rattle.arc_repair.specs.declared.answer.Answer.{Answer}
use Rattle.arc_repair.specs.Answers.{IsUntouched, IsRepairFault}
use Rattle.arc_repair.specs.Repairs.{Mends}

-- what holds of one list of the edits holds of each
pub of_each : EditListsAreOne → (net : Network) (doc : Document) (list : List Edit) → IsValid net → AreEdits net doc list → (P : List Edit → Type 0) → P list →
    (other : List Edit) → AreEdits net doc other → P other
of_each one net doc list valid are P h other others = subst P (one net doc list other valid are others) h

-- if choosing no edits does not mend the network, any answer is right for the case that it does
pub never_mended : (net : Network) (doc : Document) (list : List Edit) (none : List Bool) (answer : Answer) → none ≡ none_of list → ¬ Mends net doc list none →
    Mends net doc list (none_of list) → IsUntouched list answer
never_mended net doc list none answer is wrong mends = absurd (wrong (subst (λ (flags : List Bool). Mends net doc list flags) (sym is) mends))

-- a fault of the formula comes after those of the classes and of the edits
pub formula_fault : (net : Network) (doc : Document) (list : List Edit) → AreEdits net doc list → (bound : ℕ) (fault : EditFault) →
    DocumentHasFewClasses net doc → length list ≤ 8192 → encoded.IsFaultOfFormula net doc list bound fault → IsRepairFault net doc bound fault
formula_fault net doc list are bound fault classes few wrong = inr (record { list = list; are = are; classes = classes; edits = few; formula = wrong })

-- out of memory may come at any time
pub out_of_memory : (net : Network) (doc : Document) (bound : ℕ) → IsRepairFault net doc bound Memory
out_of_memory net doc bound = inl tt
