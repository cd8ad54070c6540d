-- A document has one refusal, and a network has one first limit of its classes and edits that it exceeds.
use Rattle.std.proofs.Common.{◌≡◌, ◌∙◌, ℕ, inl, inr, List, [], length, refl, ap, arith}
use Rattle.arc_base.specs.declared.refusal.Kind.TheVariants as kinds
use Rattle.arc_base.specs.declared.refusal.LimitKind.{LimitKind}
use Rattle.arc_base.specs.declared.refusal.LimitKind.TheVariants.{Classes, Edits}
use Rattle.arc_outside.specs.Files.{Files}
use Rattle.net_model.specs.declared.policies.Document.{Document}
use Rattle.net_model.specs.declared.rows.Network.{Network}
use Rattle.net_model.specs.Validity.{IsValid}
use Rattle.edit_list.specs.declared.edit_kinds.EditFault.TheVariants.{Limit}
use Rattle.edit_list.specs.EditLists.{NamesLimit}
use Rattle.edit_list.proofs.OneEditList.{edit_lists_are_one}
use Rattle.run_files.specs.declared.limits.Limits.TheVariants.{Editing}
use Rattle.run_files.specs.declared.outcome.FileRefusal.{FileRefusal}
use Rattle.run_files.specs.Refusals.{refusal_of}
use Rattle.run_inputs.specs.Inputs.{HoldsDocument, IsDocumentRefusal, IsInputRefusal}
use Rattle.run_inputs.proofs.ClassCounts.{few_or_many, one_count}
use Rattle.run_inputs.proofs.Determined.{document_none, held_none}

-- ---- the document

pub as_input : (document : List ℕ) (files : Files) (r : FileRefusal) → IsDocumentRefusal document files r → IsInputRefusal Editing [] document files r
as_input document files r (inl e) = inl e
as_input document files r (inr u) = inr (inl u)

pub held_or_refused : (document : List ℕ) (files : Files) (doc : Document) (r : FileRefusal) → HoldsDocument document files doc → IsDocumentRefusal document files r → ⊥
held_or_refused document files doc r h (inl e) = held_none Editing [] document files r h.held e
held_or_refused document files doc r h (inr u) = document_none Editing [] document files doc r h u

-- ---- the limits

-- the number of edits is counted only if there are few classes
many_or_edits : (net : Network) (doc : Document) (c d : ℕ) → NamesLimit net doc (Limit Classes c) → NamesLimit net doc (Limit Edits d) → ⊥
many_or_edits net doc c d many edits =
    let are = edits.1.are in
    few_or_many net doc.policies c (record { classes = are.classes; are = are.classes_are; few = edits.0 are.classes are.classes_are }) (record { first = many.0; many = many.1 })

pub one_limit : (net : Network) (doc : Document) → IsValid net → (a b : LimitKind) (c d : ℕ) → NamesLimit net doc (Limit a c) → NamesLimit net doc (Limit b d) → (a ≡ b) × (c ≡ d)
one_limit net doc valid Classes Classes c d x y = (refl, one_count net doc.policies c d (record { first = x.0; many = x.1 }) (record { first = y.0; many = y.1 }))
one_limit net doc valid Classes Edits c d x y = absurd (many_or_edits net doc c d x y)
one_limit net doc valid Edits Classes c d x y = absurd (many_or_edits net doc d c y x)
one_limit net doc valid Edits Edits c d x y =
    let same : length x.1.list ≡ length y.1.list = ap length (edit_lists_are_one net doc x.1.list y.1.list valid x.1.are y.1.are) in
    (refl, omega (arith, same, x.1.counted, y.1.counted))
one_limit net doc valid Classes other c d x y = absurd y
one_limit net doc valid Edits other c d x y = absurd y
one_limit net doc valid other b c d x y = absurd x

pub limit_refusal : (document : List ℕ) (a b : LimitKind) (c d : ℕ) → (a ≡ b) × (c ≡ d) → refusal_of document 0 (kinds.Limit a c) ≡ refusal_of document 0 (kinds.Limit b d)
limit_refusal document a b c d same =
    ap (λ (k : LimitKind). refusal_of document 0 (kinds.Limit k c)) same.0 ∙ ap (λ (n : ℕ). refusal_of document 0 (kinds.Limit b n)) same.1
