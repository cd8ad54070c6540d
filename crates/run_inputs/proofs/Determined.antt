-- Files have one document and network, or one refusal.
use Rattle.std.proofs.Common.{◌≡◌, ℕ, inl, inr, List, [], sym, ◌∙◌, ap, subst}
use Rattle.std.specs.Prelude.{Option, Some, None, Result, Ok, Err}
use Rattle.arc_outside.specs.Files.{Files}
use Rattle.net_model.specs.declared.policies.Document.{Document}
use Rattle.net_model.specs.declared.rows.Network.{Network}
use Rattle.net_doc.specs.declared.fault.Refusal.{Refusal}
use Rattle.net_doc.specs.Documents.{reading}
use Rattle.net_build.specs.Networks.{IsFirstRefusalWithin}
use Rattle.net_build.proofs.OneAnswer as answers
use Rattle.run_files.specs.declared.limits.Limits.{Limits}
use Rattle.run_files.specs.declared.outcome.FileRefusal.{FileRefusal}
use Rattle.run_inputs.specs.Inputs.{HoldsDocument, HoldsFiles, HoldsInput, RefusesDocument, RefusesFile, RefusesInputNetwork, IsInputRefusal, contents, named}
use Rattle.run_files.specs.Limits.{document_limit, entries_limit}
use Rattle.run_files.specs.Refusals.{refusal_of, read_refusal, routers_refusal, bytes_at}
use Rattle.arc_base.specs.declared.refusal.Kind.TheVariants.{Limit}
use Rattle.arc_base.specs.declared.refusal.LimitKind.TheVariants.{Classes}
use Rattle.run_inputs.specs.Counts.{PoliciesHaveFewClasses, HasManyClasses, IsJudgingRefusal}
use Rattle.run_inputs.specs.Determined.{IsDetermined, IsJudgedOnce}
use Rattle.run_inputs.proofs.ClassCounts.{one_count, few_or_many}

-- an option has one value at most
pub one_value : {A : Type 0} (o : Option A) (x y : A) → o ≡ Some x → o ≡ Some y → x ≡ y
one_value o x y e f = cc

pub no_value : {A : Type 0} (o : Option A) (x : A) → o ≡ Some x → o ≡ None → ⊥
no_value o x e f = absurd (cc)

-- a text is read as one document or one refusal
one_ok : (r : Result Document Refusal) (x y : Document) → r ≡ Ok x → r ≡ Ok y → x ≡ y
one_ok r x y e f = cc

one_err : (r : Result Document Refusal) (x y : Refusal) → r ≡ Err x → r ≡ Err y → x ≡ y
one_err r x y e f = cc

ok_or_err : (r : Result Document Refusal) (x : Document) (y : Refusal) → r ≡ Ok x → r ≡ Err y → ⊥
ok_or_err r x y e f = absurd (cc)

module _ (limits : Limits) (down document : List ℕ) (files : Files) where
  one_document : (doc other : Document) → HoldsDocument document files doc → HoldsDocument document files other → doc ≡ other
  one_document doc other h k = one_ok (reading (bytes_at files document)) doc other h.read k.read

  one_network : (doc : Document) (net other : Network) → HoldsInput limits down document files doc net → HoldsInput limits down document files doc other → net ≡ other
  one_network doc net other h k = answers.one_network down (entries_limit limits) doc (contents files doc) net other h.network k.network

  -- the stages of the refusals: each excludes those before it
  pub document_none : (doc : Document) (r : FileRefusal) → HoldsDocument document files doc → RefusesDocument document files r → ⊥
  document_none doc r h u = ok_or_err (reading (bytes_at files document)) doc u.refusal h.read u.refused

  document_once : (r s : FileRefusal) → RefusesDocument document files r → RefusesDocument document files s → r ≡ s
  document_once r s u v =
      let same : u.refusal ≡ v.refusal = one_err (reading (bytes_at files document)) u.refusal v.refusal u.refused v.refused in
      u.is_named ∙ ap (named document []) same ∙ sym v.is_named

  pub files_none : (doc : Document) (r : FileRefusal) → HoldsFiles limits document files doc → RefusesFile limits document files r → ⊥
  files_none doc r h u =
      let same : doc ≡ u.doc = one_document doc u.doc h.document_is u.document_is in
      no_value (routers_refusal limits files u.doc.routers) r u.refused (ap (λ (d : Document). routers_refusal limits files d.routers) (sym same) ∙ h.held)

  files_once : (r s : FileRefusal) → RefusesFile limits document files r → RefusesFile limits document files s → r ≡ s
  files_once r s u v =
      let same : u.doc ≡ v.doc = one_document u.doc v.doc u.document_is v.document_is in
      one_value (routers_refusal limits files v.doc.routers) r s (ap (λ (d : Document). routers_refusal limits files d.routers) (sym same) ∙ u.refused) v.refused

  network_once : (r s : FileRefusal) → RefusesInputNetwork limits down document files r → RefusesInputNetwork limits down document files s → r ≡ s
  network_once r s u v =
      let same : u.doc ≡ v.doc = one_document u.doc v.doc u.files_are.document_is v.files_are.document_is in
      let P : Document → Type 0 = λ d. IsFirstRefusalWithin down (entries_limit limits) d (contents files d) u.refusal in
      let once : u.refusal ≡ v.refusal = answers.one_refusal down (entries_limit limits) v.doc (contents files v.doc) u.refusal v.refusal (subst P same u.refused) v.refused in
      u.is_named ∙ ap (λ (d : Document). named document d.routers u.refusal) same ∙ ap (named document v.doc.routers) once ∙ sym v.is_named

  network_none : (doc : Document) (net : Network) (r : FileRefusal) → HoldsInput limits down document files doc net → RefusesInputNetwork limits down document files r → ⊥
  network_none doc net r h u =
      let same : u.doc ≡ doc = one_document u.doc doc u.files_are.document_is h.files_are.document_is in
      let P : Document → Type 0 = λ d. IsFirstRefusalWithin down (entries_limit limits) d (contents files d) u.refusal in
      answers.network_or_refused down (entries_limit limits) doc (contents files doc) net u.refusal h.network (subst P same u.refused)

  -- a file that is held is not refused as missing or too long
  pub held_none : (r : FileRefusal) → read_refusal document_limit files document ≡ None → read_refusal document_limit files document ≡ Some r → ⊥
  held_none r none some = no_value (read_refusal document_limit files document) r some none

  pub not_both : (doc : Document) (net : Network) (r : FileRefusal) → HoldsInput limits down document files doc net → IsInputRefusal limits down document files r → ⊥
  not_both doc net r h (inl e) = held_none r h.files_are.document_is.held e
  not_both doc net r h (inr (inl u)) = document_none doc r h.files_are.document_is u
  not_both doc net r h (inr (inr (inl u))) = files_none doc r h.files_are u
  not_both doc net r h (inr (inr (inr u))) = network_none doc net r h u

  one_input_refusal : (r s : FileRefusal) → IsInputRefusal limits down document files r → IsInputRefusal limits down document files s → r ≡ s
  one_input_refusal r s (inl e) (inl f) = one_value (read_refusal document_limit files document) r s e f
  one_input_refusal r s (inl e) (inr (inl v)) = absurd (held_none r v.held e)
  one_input_refusal r s (inl e) (inr (inr (inl v))) = absurd (held_none r v.document_is.held e)
  one_input_refusal r s (inl e) (inr (inr (inr v))) = absurd (held_none r v.files_are.document_is.held e)
  one_input_refusal r s (inr (inl u)) (inl f) = absurd (held_none s u.held f)
  one_input_refusal r s (inr (inl u)) (inr (inl v)) = document_once r s u v
  one_input_refusal r s (inr (inl u)) (inr (inr (inl v))) = absurd (document_none v.doc r v.document_is u)
  one_input_refusal r s (inr (inl u)) (inr (inr (inr v))) = absurd (document_none v.doc r v.files_are.document_is u)
  one_input_refusal r s (inr (inr (inl u))) (inl f) = absurd (held_none s u.document_is.held f)
  one_input_refusal r s (inr (inr (inl u))) (inr (inl v)) = absurd (document_none u.doc s u.document_is v)
  one_input_refusal r s (inr (inr (inl u))) (inr (inr (inl v))) = files_once r s u v
  one_input_refusal r s (inr (inr (inl u))) (inr (inr (inr v))) = absurd (files_none v.doc r v.files_are u)
  one_input_refusal r s (inr (inr (inr u))) (inl f) = absurd (held_none s u.files_are.document_is.held f)
  one_input_refusal r s (inr (inr (inr u))) (inr (inl v)) = absurd (document_none u.doc s u.files_are.document_is v)
  one_input_refusal r s (inr (inr (inr u))) (inr (inr (inl v))) = absurd (files_none u.doc s u.files_are v)
  one_input_refusal r s (inr (inr (inr u))) (inr (inr (inr v))) = network_once r s u v

  pub determined : IsDetermined limits down document files
  determined = record { one_document = one_document; one_network = one_network; one_refusal = one_input_refusal; not_both = not_both }

-- a command that counts classes has one refusal at most
module _ (limits : Limits) (document : List ℕ) (files : Files) where
  -- two networks of the input are equal, and so are two counts of its classes
  same_count : (u : ℕ) (doc other : Document) (net last : Network) (v : ℕ) → HoldsInput limits [] document files doc net →
      HoldsInput limits [] document files other last → HasManyClasses net doc.policies u → HasManyClasses last other.policies v → u ≡ v
  same_count u doc other net last v h k many more =
      let docs : doc ≡ other = one_document limits [] document files doc other h.files_are.document_is k.files_are.document_is in
      let P : Document → Type 0 = λ d. HoldsInput limits [] document files d net in
      let nets : net ≡ last = one_network limits [] document files other net last (subst P docs h) k in
      let Q : Document → Type 0 = λ d. HasManyClasses net d.policies u in
      let R : Network → Type 0 = λ n. HasManyClasses n other.policies u in
      one_count last other.policies u v (subst R nets (subst Q docs many)) more

  judged_refusal : (r s : FileRefusal) → IsJudgingRefusal limits document files r → IsJudgingRefusal limits document files s → r ≡ s
  judged_refusal r s (inl e) (inl f) = one_input_refusal limits [] document files r s e f
  judged_refusal r s (inl e) (inr v) = absurd (not_both limits [] document files v.doc v.net r v.input e)
  judged_refusal r s (inr u) (inl f) = absurd (not_both limits [] document files u.doc u.net s u.input f)
  judged_refusal r s (inr u) (inr v) =
      let count : u.count ≡ v.count = same_count u.count u.doc v.doc u.net v.net v.count u.input v.input u.many v.many in
      u.told ∙ ap (λ (n : ℕ). refusal_of document 0 (Limit Classes n)) count ∙ sym v.told

  few_or_refused : (doc : Document) (net : Network) (r : FileRefusal) → HoldsInput limits [] document files doc net → PoliciesHaveFewClasses net doc.policies →
      IsJudgingRefusal limits document files r → ⊥
  few_or_refused doc net r h few (inl e) = not_both limits [] document files doc net r h e
  few_or_refused doc net r h few (inr u) =
      let docs : doc ≡ u.doc = one_document limits [] document files doc u.doc h.files_are.document_is u.input.files_are.document_is in
      let P : Document → Type 0 = λ d. HoldsInput limits [] document files d net in
      let nets : net ≡ u.net = one_network limits [] document files u.doc net u.net (subst P docs h) u.input in
      let Q : Document → Type 0 = λ d. PoliciesHaveFewClasses net d.policies in
      let R : Network → Type 0 = λ n. PoliciesHaveFewClasses n u.doc.policies in
      few_or_many u.net u.doc.policies u.count (subst R nets (subst Q docs few)) u.many

  pub judged_once : IsJudgedOnce limits document files
  judged_once = record { one_refusal = judged_refusal; not_both = few_or_refused }
