-- What the status of `check` says of a certificate of either form.
use Rattle.std.proofs.Common.{◌≡◌, ℕ, inl, inr, List, [], refl, sym, ◌∙◌, ap, subst, arith}
use Rattle.arc_base.specs.declared.refusal.LimitKind.{LimitKind}
use Rattle.arc_outside.specs.Files.{Files}
use Rattle.net_model.specs.declared.policies.Document.{Document}
use Rattle.net_model.specs.declared.rows.Network.{Network}
use Rattle.net_model.specs.Validity.{IsValid}
use Rattle.edit_list.specs.declared.edit_kinds.Edit.{Edit}
use Rattle.edit_list.specs.declared.edit_kinds.EditFault.TheVariants as faults
use Rattle.edit_list.specs.EditLists.{AreEdits}
use Rattle.edit_list.proofs.OneEditList.{edit_lists_are_one}
use Rattle.report_check.specs.declared.outcome.Outcome.{Outcome as Judgement}
use Rattle.report_check.specs.declared.outcome.Outcome.TheVariants.{Accepted, Rejected}
use Rattle.repair_check.specs.Certifies.{IsCertified, IsCounted, text_answers}
use Rattle.file_copies.proofs.FewEdits.{few_or_limit}
use Rattle.run_files.specs.declared.limits.Limits.TheVariants.{Editing}
use Rattle.run_files.specs.declared.outcome.Done.{Done}
use Rattle.run_files.specs.declared.outcome.FileRefusal.{FileRefusal}
use Rattle.run_files.specs.Answers.{IsTold}
use Rattle.run_files.specs.Judgements.{judgement_status}
use Rattle.run_files.specs.Limits.{proof_limit}
use Rattle.run_files.specs.Refusals.{bytes_at, read_refusal}
use Rattle.run_files.proofs.OneAnswer.{refused_none}
use Rattle.run_inputs.specs.Inputs.{HoldsInput}
use Rattle.run_inputs.proofs.Determined.{determined}
use Rattle.check_commands.specs.ReportChecks.{IsCheckRefusal, TellsReportCheck, judgement_of}
use Rattle.check_commands.proofs.ReportTold.{check_told}
use Rattle.policy_encode.proofs.OneFault.{within_or_passed}
use Rattle.check_commands.specs.RepairChecks.{HoldsRepair, IsAnyChecked, IsAnyRefusal, IsRepairJudged, IsTextFault}
use Rattle.check_commands.specs.Tells.{IsJudgeable, IsRepairAccepted, IsRepairRejected, TellsCheck}

module _ (document certificate : List ℕ) (files : Files) where
  -- ---- the first refusal of another text is that of a report

  pub as_report : (HoldsRepair certificate files → ⊥) → (r : FileRefusal) → IsAnyRefusal document certificate files r → IsCheckRefusal document certificate files r
  as_report differs r (inl e) = inl e
  as_report differs r (inr (inl u)) = inr (inl u)
  as_report differs r (inr (inr (inl u))) = inr (inr (inl u))
  as_report differs r (inr (inr (inr (inl repair)))) = absurd (differs repair.0)
  as_report differs r (inr (inr (inr (inr behind)))) = inr (inr (inr behind.1))

  of_report : (HoldsRepair certificate files → ⊥) → (r : FileRefusal) → IsCheckRefusal document certificate files r → IsAnyRefusal document certificate files r
  of_report differs r (inl e) = inl e
  of_report differs r (inr (inl u)) = inr (inl u)
  of_report differs r (inr (inr (inl u))) = inr (inr (inl u))
  of_report differs r (inr (inr (inr behind))) = inr (inr (inr (inr (differs, behind))))

  -- ---- the certificate of a repair is judged over one network

  module _ (doc : Document) (net : Network) (input : HoldsInput Editing [] document files doc net) where
    docs : (other : Document) (last : Network) → HoldsInput Editing [] document files other last → doc ≡ other
    docs other last h = (determined Editing [] document files).one_document doc other input.files_are.document_is h.files_are.document_is

    nets : (other : Document) (last : Network) → HoldsInput Editing [] document files other last → net ≡ last
    nets other last h =
        let P : Document → Type 0 = λ d. HoldsInput Editing [] document files d net in
        (determined Editing [] document files).one_network other net last (subst P (docs other last h) input) h

    pub moved : (Q : Document → Network → Type 0) (other : Document) (last : Network) → HoldsInput Editing [] document files other last → Q other last → Q doc net
    moved Q other last h q =
        let P : Document → Type 0 = λ d. Q d last in
        let R : Network → Type 0 = λ n. Q doc n in
        subst R (sym (nets other last h)) (subst P (sym (docs other last h)) q)

  -- ---- what is judged is not refused

  module _ (doc : Document) (net : Network) (list : List Edit) (j : IsJudgeable document certificate files doc net list) where
    -- its formula exceeds no limit
    counted_or_passed : IsValid net → (what : LimitKind) (count : ℕ) → IsTextFault net doc (bytes_at files certificate) (faults.Limit what count) → ⊥
    counted_or_passed valid what count (inl names) = few_or_limit net doc list valid j.edits j.few j.classes what count names
    counted_or_passed valid what count (inr passes) =
        let same : list ≡ passes.list = edit_lists_are_one net doc list passes.list valid j.edits passes.edits in
        let P : List Edit → Type 0 = λ l. IsCounted net doc l (text_answers net doc l (bytes_at files certificate)) in
        within_or_passed net doc passes.list passes.formula.0 valid (subst P same j.counted passes.formula.0 passes.formula.1) what count passes.formula.2

    pub judged_or_refused : (r : FileRefusal) → IsAnyRefusal document certificate files r → ⊥
    judged_or_refused r (inl e) = (determined Editing [] document files).not_both doc net r j.input (inl e)
    judged_or_refused r (inr (inl u)) = (determined Editing [] document files).not_both doc net r j.input (inr (inl u))
    judged_or_refused r (inr (inr (inl u))) = refused_none (read_refusal proof_limit files certificate) r j.holds.held u.refused
    judged_or_refused r (inr (inr (inr (inl (holds, inl sources))))) = (determined Editing [] document files).not_both doc net r j.input (inr (inr sources))
    judged_or_refused r (inr (inr (inr (inl (holds, inr u))))) =
        let valid : IsValid net = moved doc net j.input (λ d n. IsValid n) u.doc u.net u.input u.valid in
        counted_or_passed valid u.what u.count (moved doc net j.input (λ d n. IsTextFault n d (bytes_at files certificate) (faults.Limit u.what u.count)) u.doc u.net u.input u.fault)
    judged_or_refused r (inr (inr (inr (inr behind)))) = absurd (behind.0 j.holds)

  -- ---- the certificate of a repair

  module _ (d : Done) (holds : HoldsRepair certificate files) (done : IsRepairJudged document (bytes_at files certificate) files d) where
    pub judgeable : IsJudgeable document certificate files done.doc done.net done.judged.list
    judgeable = record { holds = holds; input = done.input; edits = done.judged.edits; classes = done.judged.classes; few = done.judged.few; counted = done.judged.counted }

    -- one judgement certifies it exactly if another does
    certified_here : (other : Document) (last : Network) (list : List Edit) → IsJudgeable document certificate files other last list → IsCertified last other list (bytes_at files certificate)
        → IsCertified done.net done.doc done.judged.list (bytes_at files certificate)
    certified_here other last list j certified =
        let are : AreEdits done.net done.doc list = moved done.doc done.net done.input (λ d' n. AreEdits n d' list) other last j.input j.edits in
        let same : done.judged.list ≡ list = edit_lists_are_one done.net done.doc done.judged.list list done.valid done.judged.edits are in
        let P : List Edit → Type 0 = λ l. IsCertified done.net done.doc l (bytes_at files certificate) in
        subst P (sym same) (moved done.doc done.net done.input (λ d' n. IsCertified n d' list (bytes_at files certificate)) other last j.input certified)

    certified_there : (other : Document) (last : Network) (list : List Edit) → IsJudgeable document certificate files other last list
        → IsCertified done.net done.doc done.judged.list (bytes_at files certificate) → IsCertified last other list (bytes_at files certificate)
    certified_there other last list j certified =
        let are : AreEdits done.net done.doc list = moved done.doc done.net done.input (λ d' n. AreEdits n d' list) other last j.input j.edits in
        let same : done.judged.list ≡ list = edit_lists_are_one done.net done.doc done.judged.list list done.valid done.judged.edits are in
        let P : List Edit → Type 0 = λ l. IsCertified done.net done.doc l (bytes_at files certificate) in
        let Q : Document → Type 0 = λ d'. IsCertified done.net d' list (bytes_at files certificate) in
        let R : Network → Type 0 = λ n. IsCertified n other list (bytes_at files certificate) in
        subst R (nets done.doc done.net done.input other last j.input) (subst Q (docs done.doc done.net done.input other last j.input) (subst P same certified))

    repair_told : (o : Judgement) → done.outcome ≡ o → TellsCheck document certificate d.status files
    repair_told Accepted is =
        let zero' : d.status ≡ 0 = done.status ∙ ap (λ (o : Judgement). judgement_status (judgement_of o)) is in
        let certified = done.judged.accepted.0 is in
        let says : IsRepairAccepted document certificate files =
        record { doc = done.doc; net = done.net; list = done.judged.list; judgeable = judgeable; certified = certified; are_true = done.judged.are_true } in
        record {
          accepted_exactly = (λ e. inl says, λ s. zero');
          rejected_exactly = (
            λ e. absurd (omega (arith, zero', e)),
            λ any. elim any [
              | inl no' ↦ absurd (no'.not_certified (certified_there no'.doc no'.net no'.list no'.judgeable certified))
              | inr other ↦ absurd (other.0 holds)
            ],
          );
          refused_exactly = (λ e. absurd (omega (arith, zero', e)), λ u. absurd (judged_or_refused done.doc done.net done.judged.list judgeable u.refusal u.refused));
          nothing_else = inl zero';
        }
    repair_told (Rejected fault) is =
        let one : d.status ≡ 1 = done.status ∙ ap (λ (o : Judgement). judgement_status (judgement_of o)) is in
        let says : IsRepairRejected document certificate files =
        record { doc = done.doc; net = done.net; list = done.judged.list; judgeable = judgeable; not_certified = λ certified. not_both (sym is ∙ done.judged.accepted.1 certified) } in
        record {
          accepted_exactly = (
            λ e. absurd (omega (arith, one, e)),
            λ any. elim any [
              | inl yes' ↦ absurd (says.not_certified (certified_here yes'.doc yes'.net yes'.list yes'.judgeable yes'.certified))
              | inr other ↦ absurd (other.0 holds)
            ],
          );
          rejected_exactly = (λ e. inl says, λ s. one);
          refused_exactly = (λ e. absurd (omega (arith, one, e)), λ u. absurd (judged_or_refused done.doc done.net done.judged.list judgeable u.refusal u.refused));
          nothing_else = inr (inl one);
        }
      where
        not_both : Rejected fault ≡ Accepted → ⊥
        not_both e = cc

  -- ---- any other text

  report_told : (status : ℕ) → (HoldsRepair certificate files → ⊥) → TellsReportCheck document certificate status files → TellsCheck document certificate status files
  report_told status differs t = record {
    accepted_exactly = (
      λ e. inr (differs, t.accepted_exactly.0 e),
      λ any. elim any [
        | inl repair ↦ absurd (differs repair.judgeable.holds)
        | inr other ↦ t.accepted_exactly.1 other.1
      ],
    );
    rejected_exactly = (
      λ e. inr (differs, t.rejected_exactly.0 e),
      λ any. elim any [
        | inl repair ↦ absurd (differs repair.judgeable.holds)
        | inr other ↦ t.rejected_exactly.1 other.1
      ],
    );
    refused_exactly = (
      λ e. let u = t.refused_exactly.0 e in record { refusal = u.refusal; refused = of_report differs u.refusal u.refused },
      λ u. t.refused_exactly.1 (record { refusal = u.refusal; refused = as_report differs u.refusal u.refused }),
    );
    nothing_else = t.nothing_else;
  }

  told_done : (d : Done) → IsAnyChecked document certificate files d → TellsCheck document certificate d.status files
  told_done d (inl (holds, done)) = repair_told d holds done done.outcome refl
  told_done d (inr (differs, done)) = report_told d.status differs ((check_told document certificate).answered files d done)

  told_refused : (r : FileRefusal) → IsAnyRefusal document certificate files r → TellsCheck document certificate 5 files
  told_refused r refused = record {
    accepted_exactly = (
      λ e. absurd (omega arith),
      λ any. elim any [
        | inl yes' ↦ absurd (judged_or_refused yes'.doc yes'.net yes'.list yes'.judgeable r refused)
        | inr other ↦ ((check_told document certificate).refused files r (as_report other.0 r refused)).accepted_exactly.1 other.1
      ],
    );
    rejected_exactly = (
      λ e. absurd (omega arith),
      λ any. elim any [
        | inl no' ↦ absurd (judged_or_refused no'.doc no'.net no'.list no'.judgeable r refused)
        | inr other ↦ ((check_told document certificate).refused files r (as_report other.0 r refused)).rejected_exactly.1 other.1
      ],
    );
    refused_exactly = (λ e. record { refusal = r; refused = refused }, λ u. refl);
    nothing_else = inr (inr refl);
  }

pub any_check_told : (document certificate : List ℕ) → IsTold (IsAnyRefusal document certificate) (IsAnyChecked document certificate)
    (λ status before after. TellsCheck document certificate status before)
any_check_told document certificate = record {
  answered = λ files d done. told_done document certificate files d done;
  refused = told_refused document certificate;
}
