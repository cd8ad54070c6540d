-- The words and the files give at most one refusal of `apply`, and none beside an answer.
use Rattle.std.proofs.Common.{◌≡◌, ◌⊎◌, ℕ, ◌+◌, inl, inr, true, false, List, [], sym, ◌∙◌, ap, subst}
use Rattle.std.proofs.lemmas.Bool.{false≢true}
use Rattle.arc_base.specs.declared.refusal.Kind.TheVariants.{EditLine}
use Rattle.arc_outside.specs.Files.{Files}
use Rattle.net_model.specs.declared.policies.Document.{Document}
use Rattle.net_model.specs.declared.rows.Network.{Network}
use Rattle.net_model.specs.Validity.{IsValid}
use Rattle.edit_list.specs.declared.edit_kinds.Edit.{Edit}
use Rattle.edit_list.proofs.OneEditList.{edit_lists_are_one}
use Rattle.edit_reader.specs.EditFiles.{AreEditLines, IsWrongLine}
use Rattle.file_copies.proofs.FewEdits.{few_or_limit}
use Rattle.file_copies.proofs.OneRefusal.{as_input, held_or_refused, limit_refusal, one_limit}
use Rattle.command_words.specs.declared.commands.ApplyWords.{ApplyWords}
use Rattle.run_files.specs.declared.limits.Limits.TheVariants.{Editing}
use Rattle.run_files.specs.declared.outcome.FileRefusal.{FileRefusal}
use Rattle.run_files.specs.Refusals.{bytes_at, read_refusal, refusal_of}
use Rattle.run_inputs.specs.Inputs.{HoldsDocument, HoldsInput}
use Rattle.run_inputs.proofs.Determined.{determined, no_value, one_value}
use Rattle.apply_commands.specs.Applies.{edit_file_limit, edit_texts, has_copy_clash, CanBeApplied, IsReadyWithNetwork, HasWrongLine, IsApplyRefusal}
use Rattle.apply_commands.specs.Applies.{IsReady, IsReadyRefusal, PassesLimit, RefusesEditCounts, RefusesEditFile, RefusesLine, RefusesNames, RefusesRouterFiles}
use Rattle.apply_commands.proofs.FirstLines.{first_lines, one_wrong_line}

-- a network with few edits exceeds no limit
limit_or_few : (words : ApplyWords) (net : Network) (doc : Document) (r s : FileRefusal) (text : List ℕ) → IsValid net → PassesLimit words net doc r → HasWrongLine words net doc text s → ⊥
limit_or_few words net doc r s text valid passes line = few_or_limit net doc line.list valid line.edits.are line.edits.few line.edits.few_classes passes.what passes.count passes.many

module _ (words : ApplyWords) (files : Files) where
  docs : (doc other : Document) → HoldsDocument words.document files doc → HoldsDocument words.document files other → doc ≡ other
  docs doc other h k = (determined Editing [] words.document files).one_document doc other h k

  clash_or_free : (doc other : Document) → HoldsDocument words.document files doc → HoldsDocument words.document files other → has_copy_clash words doc ≡ false → has_copy_clash words other ≡ true → ⊥
  clash_or_free doc other h k free clash = false≢true (sym free ∙ ap (has_copy_clash words) (docs doc other h k) ∙ clash)

  -- what holds of the document and the network, whichever they are
  moved : (doc : Document) (net : Network) → IsReadyWithNetwork words files doc net → (Q : Document → Network → Type 0) (other : Document) (last : Network) →
      IsReadyWithNetwork words files other last → Q other last → Q doc net
  moved doc net has Q other last h q =
      let same : doc ≡ other = docs doc other has.ready.document_is h.ready.document_is in
      let P : Document → Type 0 = λ d. HoldsInput Editing [] words.document files d net in
      let R : Document → Type 0 = λ d. Q d net in
      subst R (sym same) (subst (Q other) (sym ((determined Editing [] words.document files).one_network other net last (subst P same has.input) h.input)) q)

  -- ---- before the router files are read

  held_names : (r : FileRefusal) → RefusesNames words files r ⊎ RefusesEditFile words files r → (doc : Document) × HoldsDocument words.document files doc
  held_names r (inl u) = (u.doc, u.document_is)
  held_names r (inr u) = (u.doc, u.document_is)

  ready_or_refused : (doc : Document) → IsReady words files doc → (r : FileRefusal) → IsReadyRefusal words files r → ⊥
  ready_or_refused doc is r (inl u) = held_or_refused words.document files doc r is.document_is u
  ready_or_refused doc is r (inr (inl u)) = clash_or_free doc u.doc is.document_is u.document_is is.free u.clash
  ready_or_refused doc is r (inr (inr u)) = no_value (read_refusal edit_file_limit files words.edits) r u.refused is.edits_held

  one_ready : (r s : FileRefusal) → IsReadyRefusal words files r → IsReadyRefusal words files s → r ≡ s
  one_ready r s (inl u) (inl v) = (determined Editing [] words.document files).one_refusal r s (as_input words.document files r u) (as_input words.document files s v)
  one_ready r s (inl u) (inr v) = let held = held_names s v in absurd (held_or_refused words.document files held.0 r held.1 u)
  one_ready r s (inr u) (inl v) = let held = held_names r u in absurd (held_or_refused words.document files held.0 s held.1 v)
  one_ready r s (inr (inl u)) (inr (inl v)) = u.told ∙ sym v.told
  one_ready r s (inr (inl u)) (inr (inr v)) = absurd (clash_or_free v.doc u.doc v.document_is u.document_is v.free u.clash)
  one_ready r s (inr (inr u)) (inr (inl v)) = absurd (clash_or_free u.doc v.doc u.document_is v.document_is u.free v.clash)
  one_ready r s (inr (inr u)) (inr (inr v)) = one_value (read_refusal edit_file_limit files words.edits) r s u.refused v.refused

  -- ---- with a network

  abbrev Counted : FileRefusal → Type 0
  Counted r = RefusesEditCounts words files r ⊎ RefusesLine words files r

  networked : (r : FileRefusal) → Counted r → (doc : Document) × (net : Network) × IsReadyWithNetwork words files doc net
  networked r (inl u) = (u.doc, u.net, u.has)
  networked r (inr u) = (u.doc, u.net, u.has)

  made_ready : (r : FileRefusal) → RefusesRouterFiles words files r ⊎ Counted r → (doc : Document) × IsReady words files doc
  made_ready r (inl u) = (u.doc, u.ready)
  made_ready r (inr u) = let it = networked r u in (it.0, it.2.ready)

  abbrev Wrong : FileRefusal → Document → Network → Type 0
  Wrong r doc net = HasWrongLine words net doc (bytes_at files words.edits) r

  one_counted : (r s : FileRefusal) → Counted r → Counted s → r ≡ s
  one_counted r s (inl u) (inl v) =
      let other = moved u.doc u.net u.has (λ d n. PassesLimit words n d s) v.doc v.net v.has v.passes in
      u.passes.told
      ∙ limit_refusal words.document u.passes.what other.what u.passes.count other.count (one_limit u.net u.doc u.valid u.passes.what other.what u.passes.count other.count u.passes.many other.many)
      ∙ sym other.told
  one_counted r s (inl u) (inr v) = absurd (limit_or_few words u.net u.doc r s (bytes_at files words.edits) u.valid u.passes (moved u.doc u.net u.has (Wrong s) v.doc v.net v.has v.line))
  one_counted r s (inr u) (inl v) = absurd (limit_or_few words v.net v.doc s r (bytes_at files words.edits) v.valid v.passes (moved v.doc v.net v.has (Wrong r) u.doc u.net u.has u.line))
  one_counted r s (inr u) (inr v) =
      let line = moved u.doc u.net u.has (Wrong s) v.doc v.net v.has v.line in
      let same : line.list ≡ u.line.list = edit_lists_are_one u.net u.doc line.list u.line.list u.valid line.edits.are u.line.edits.are in
      let P : List Edit → Type 0 = λ list. IsWrongLine u.net list (edit_texts words files) line.number in
      let number : u.line.number ≡ line.number = one_wrong_line u.net u.line.list (edit_texts words files) u.line.number line.number u.line.wrong (subst P same line.wrong) in
      u.line.told ∙ ap (λ (n : ℕ). refusal_of words.edits n EditLine) number ∙ sym line.told

  pub one_apply_refusal : (r s : FileRefusal) → IsApplyRefusal words files r → IsApplyRefusal words files s → r ≡ s
  one_apply_refusal r s (inl u) (inl v) = one_ready r s u v
  one_apply_refusal r s (inl u) (inr v) = let is = made_ready s v in absurd (ready_or_refused is.0 is.1 r u)
  one_apply_refusal r s (inr u) (inl v) = let is = made_ready r u in absurd (ready_or_refused is.0 is.1 s v)
  one_apply_refusal r s (inr (inl u)) (inr (inl v)) = (determined Editing [] words.document files).one_refusal r s (inr (inr u.refused)) (inr (inr v.refused))
  one_apply_refusal r s (inr (inl u)) (inr (inr v)) = let it = networked s v in absurd ((determined Editing [] words.document files).not_both it.0 it.1 r it.2.input (inr (inr u.refused)))
  one_apply_refusal r s (inr (inr u)) (inr (inl v)) = let it = networked r u in absurd ((determined Editing [] words.document files).not_both it.0 it.1 s it.2.input (inr (inr v.refused)))
  one_apply_refusal r s (inr (inr u)) (inr (inr v)) = one_counted r s u v

  -- ---- an answer

  pub applied_or_refused : CanBeApplied words files → (r : FileRefusal) → IsApplyRefusal words files r → ⊥
  applied_or_refused can r (inl u) = ready_or_refused can.doc can.has.ready r u
  applied_or_refused can r (inr (inl u)) = (determined Editing [] words.document files).not_both can.doc can.net r can.has.input (inr (inr u.refused))
  applied_or_refused can r (inr (inr (inl u))) =
      let passes = moved can.doc can.net can.has (λ d n. PassesLimit words n d r) u.doc u.net u.has u.passes in
      let valid = moved can.doc can.net can.has (λ d n. IsValid n) u.doc u.net u.has u.valid in
      few_or_limit can.net can.doc can.list valid can.edits.are can.edits.few can.edits.few_classes passes.what passes.count passes.many
  applied_or_refused can r (inr (inr (inr u))) =
      let line = moved can.doc can.net can.has (Wrong r) u.doc u.net u.has u.line in
      let valid = moved can.doc can.net can.has (λ d n. IsValid n) u.doc u.net u.has u.valid in
      let same : can.list ≡ line.list = edit_lists_are_one can.net can.doc can.list line.list valid can.edits.are line.edits.are in
      let P : List Edit → Type 0 = λ list. AreEditLines can.net list (edit_texts words files) in
      line.wrong.wrong (first_lines can.net line.list (edit_texts words files) (line.wrong.place + 1) (subst P same can.lines))
