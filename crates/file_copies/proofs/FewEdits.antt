-- A network with few classes and few edits exceeds neither limit.
use Rattle.std.proofs.Common.{◌≡◌, ℕ, ◌≤◌, List, length, ap, arith}
use Rattle.arc_base.specs.declared.refusal.LimitKind.{LimitKind}
use Rattle.arc_base.specs.declared.refusal.LimitKind.TheVariants.{Classes, Edits}
use Rattle.net_model.specs.declared.policies.Document.{Document}
use Rattle.net_model.specs.declared.rows.Network.{Network}
use Rattle.net_model.specs.Validity.{IsValid}
use Rattle.edit_list.specs.declared.edit_kinds.Edit.{Edit}
use Rattle.edit_list.specs.declared.edit_kinds.EditFault.TheVariants.{Limit}
use Rattle.edit_list.specs.EditLists.{AreEdits, DocumentHasFewClasses, NamesLimit}
use Rattle.edit_list.proofs.OneEditList.{edit_lists_are_one}
use Rattle.run_inputs.proofs.ClassCounts.{few_or_many}

pub few_or_limit : (net : Network) (doc : Document) (list : List Edit) → IsValid net → AreEdits net doc list → length list ≤ 8192 → DocumentHasFewClasses net doc
    → (what : LimitKind) (count : ℕ) → NamesLimit net doc (Limit what count) → ⊥
few_or_limit net doc list valid are few classes Classes count names =
    few_or_many net doc.policies count (record { classes = are.classes; are = are.classes_are; few = classes are.classes are.classes_are }) (record { first = names.0; many = names.1 })
few_or_limit net doc list valid are few classes Edits count names =
    let same : list ≡ names.1.list = edit_lists_are_one net doc list names.1.list valid are names.1.are in
    let long : length list ≡ length names.1.list = ap length same in
    absurd (omega (arith, long, names.1.counted, names.2, few))
few_or_limit net doc list valid are few classes other count names = absurd names
