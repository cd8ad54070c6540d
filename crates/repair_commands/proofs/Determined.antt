-- The words and the files give at most one refusal of `repair`, and none beside a network that can be repaired.
use Rattle.std.proofs.Common.{◌≡◌, ◌⊎◌, inl, inr, true, false, List, [], sym, ◌∙◌, ap, subst}
use Rattle.std.proofs.lemmas.Bool.{false≢true}
use Rattle.arc_outside.specs.Files.{Files}
use Rattle.net_model.specs.declared.policies.Document.{Document}
use Rattle.net_model.specs.declared.rows.Network.{Network}
use Rattle.net_model.specs.Validity.{IsValid}
use Rattle.edit_list.specs.declared.edit_kinds.Edit.{Edit}
use Rattle.edit_list.specs.declared.edit_kinds.EditFault.TheVariants.{Limit}
use Rattle.arc_repair.specs.Answers.{IsRepairFault}
use Rattle.file_copies.proofs.OneRefusal.{as_input, held_or_refused, limit_refusal}
use Rattle.command_words.specs.declared.commands.RepairWords.{RepairWords}
use Rattle.run_files.specs.declared.limits.Limits.TheVariants.{Editing}
use Rattle.run_files.specs.declared.outcome.FileRefusal.{FileRefusal}
use Rattle.run_inputs.specs.Inputs.{HoldsDocument, HoldsInput}
use Rattle.run_inputs.proofs.Determined.{determined}
use Rattle.repair_commands.specs.Outcomes.{IsRepairable}
use Rattle.repair_commands.specs.Repairs.{has_clash, HasNetwork, IsRepairRefusal, RefusesCounts, RefusesOutputs, RefusesSources}
use Rattle.repair_commands.proofs.Counted.{kept_or_passed, one_fault}

module _ (words : RepairWords) (files : Files) where
  docs : (doc other : Document) → HoldsDocument words.document files doc → HoldsDocument words.document files other → doc ≡ other
  docs doc other h k = (determined Editing [] words.document files).one_document doc other h k

  clash_or_free : (doc other : Document) → HoldsDocument words.document files doc → HoldsDocument words.document files other → has_clash words doc ≡ false → has_clash words other ≡ true → ⊥
  clash_or_free doc other h k free clash = false≢true (sym free ∙ ap (has_clash words) (docs doc other h k) ∙ clash)

  -- what holds of the document and the network, whichever they are
  pub moved : (doc : Document) (net : Network) → HasNetwork words files doc net → (Q : Document → Network → Type 0) (other : Document) (last : Network) →
      HasNetwork words files other last → Q other last → Q doc net
  moved doc net has Q other last h q =
      let same : doc ≡ other = docs doc other has.input.files_are.document_is h.input.files_are.document_is in
      let P : Document → Type 0 = λ d. HoldsInput Editing [] words.document files d net in
      let R : Document → Type 0 = λ d. Q d net in
      subst R (sym same) (subst (Q other) (sym ((determined Editing [] words.document files).one_network other net last (subst P same has.input) h.input)) q)

  -- ---- one refusal

  abbrev Behind : FileRefusal → Type 0
  Behind r = RefusesSources words files r ⊎ RefusesCounts words files r

  -- no name is taken if something later is refused
  freed : (r : FileRefusal) → Behind r → (doc : Document) × HoldsDocument words.document files doc × (has_clash words doc ≡ false)
  freed r (inl u) = (u.doc, u.document_is, u.free)
  freed r (inr u) = (u.doc, u.has.input.files_are.document_is, u.has.free)

  held : (r : FileRefusal) → RefusesOutputs words files r ⊎ Behind r → (doc : Document) × HoldsDocument words.document files doc
  held r (inl u) = (u.doc, u.document_is)
  held r (inr u) = let it = freed r u in (it.0, it.1)

  pub one_repair_refusal : (r s : FileRefusal) → IsRepairRefusal words files r → IsRepairRefusal words files s → r ≡ s
  one_repair_refusal r s (inl u) (inl v) = (determined Editing [] words.document files).one_refusal r s (as_input words.document files r u) (as_input words.document files s v)
  one_repair_refusal r s (inl u) (inr v) = let it = held s v in absurd (held_or_refused words.document files it.0 r it.1 u)
  one_repair_refusal r s (inr u) (inl v) = let it = held r u in absurd (held_or_refused words.document files it.0 s it.1 v)
  one_repair_refusal r s (inr (inl u)) (inr (inl v)) = u.told ∙ sym v.told
  one_repair_refusal r s (inr (inl u)) (inr (inr v)) = let it = freed s v in absurd (clash_or_free it.0 u.doc it.1 u.document_is it.2 u.clash)
  one_repair_refusal r s (inr (inr u)) (inr (inl v)) = let it = freed r u in absurd (clash_or_free it.0 v.doc it.1 v.document_is it.2 v.clash)
  one_repair_refusal r s (inr (inr (inl u))) (inr (inr (inl v))) = (determined Editing [] words.document files).one_refusal r s (inr (inr u.refused)) (inr (inr v.refused))
  one_repair_refusal r s (inr (inr (inl u))) (inr (inr (inr v))) = absurd ((determined Editing [] words.document files).not_both v.doc v.net r v.has.input (inr (inr u.refused)))
  one_repair_refusal r s (inr (inr (inr u))) (inr (inr (inl v))) = absurd ((determined Editing [] words.document files).not_both u.doc u.net s u.has.input (inr (inr v.refused)))
  one_repair_refusal r s (inr (inr (inr u))) (inr (inr (inr v))) =
      let fault = moved u.doc u.net u.has (λ d n. IsRepairFault n d words.bound (Limit v.what v.count)) v.doc v.net v.has v.fault in
      u.told ∙ limit_refusal words.document u.what v.what u.count v.count (one_fault u.net u.doc words.bound u.valid u.what v.what u.count v.count u.fault fault) ∙ sym v.told

  -- ---- no refusal beside a network that can be repaired

  pub not_refused : (doc : Document) (net : Network) → HasNetwork words files doc net → (list : List Edit) → IsRepairable words.bound net doc list →
      (r : FileRefusal) → IsRepairRefusal words files r → ⊥
  not_refused doc net has list is r (inl u) = held_or_refused words.document files doc r has.input.files_are.document_is u
  not_refused doc net has list is r (inr (inl u)) = clash_or_free doc u.doc has.input.files_are.document_is u.document_is has.free u.clash
  not_refused doc net has list is r (inr (inr (inl u))) = (determined Editing [] words.document files).not_both doc net r has.input (inr (inr u.refused))
  not_refused doc net has list is r (inr (inr (inr u))) =
      let valid = moved doc net has (λ d n. IsValid n) u.doc u.net u.has u.valid in
      let fault = moved doc net has (λ d n. IsRepairFault n d words.bound (Limit u.what u.count)) u.doc u.net u.has u.fault in
      kept_or_passed net doc list words.bound valid is.edits is.limits u.what u.count fault
