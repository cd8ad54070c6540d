-- What the status of `generate` says.
use Rattle.std.proofs.Common.{◌≡◌, ◌∙◌, ℕ, Bool, Some, List, [], sym, ap, subst}
use Rattle.arc_outside.specs.Files.{Files, with_file, with_files}
use Rattle.arc_outside.proofs.OnShelf.{held_before}
use Rattle.net_model.specs.declared.policies.Document.{Document}
use Rattle.net_model.specs.declared.rows.Network.{Network}
use Rattle.net_model.specs.declared.verdicts.Verdict.{Verdict}
use Rattle.net_model.specs.Validity.{IsValid}
use Rattle.net_build.specs.declared.built.Built.{Built}
use Rattle.net_build.specs.Networks.{IsBuiltWithin}
use Rattle.net_build.proofs.OneAnswer.{one_network}
use Rattle.net_gen.specs.declared.generating.Generated.{Generated}
use Rattle.edit_list.specs.declared.claims.Claim.TheVariants.{Repaired, NoRepair}
use Rattle.edit_list.specs.declared.edit_kinds.Edit.{Edit}
use Rattle.edit_list.specs.declared.edit_kinds.EditFault.TheVariants.{Limit}
use Rattle.edit_list.specs.Prices.{chosen_of}
use Rattle.proof_log.specs.declared.steps.Log.{Log}
use Rattle.arc_repair.specs.declared.answer.Answer.{Answer}
use Rattle.arc_repair.specs.declared.answer.Answer.TheVariants.{Done as Claimed, Budget}
use Rattle.arc_repair.specs.Answers.{IsRepairFault}
use Rattle.file_copies.proofs.OneMore.{is_written}
use Rattle.file_copies.proofs.OneRefusal.{limit_refusal}
use Rattle.file_copies.proofs.SomePatches.{patches_are_there}
use Rattle.command_words.specs.declared.commands.GenerateWords.{GenerateWords}
use Rattle.run_files.specs.declared.outcome.Done.{Done}
use Rattle.run_files.specs.declared.outcome.FileRefusal.{FileRefusal}
use Rattle.run_files.specs.Answers.{IsTold}
use Rattle.repair_commands.specs.Outcomes.{HasRepair, HasNoRepair, IsRepairable, KeepsOthers}
use Rattle.repair_commands.specs.Repairs.{IsAnswered}
use Rattle.repair_commands.proofs.Counted.{kept_or_passed, one_fault}
use Rattle.repair_commands.proofs.Outcomes.{can_be, has_repair, not_both, shows_cheapest, shows_none, shows_spent, tells_cheapest, tells_none, tells_refused, tells_spent}
use Rattle.generate_commands.specs.Generates.{IsGenerateRefusal, IsMadeNetwork, IsSummary, certificate_of, default_bound, default_conflicts, document_name, status_of}
use Rattle.generate_commands.specs.Tells.{GeneratedCanBeRepaired, GeneratedCannotBeRepaired, GeneratesCheapest, GeneratesNone, GeneratesSpentCertificate, IsGenerateRefused, TellsGenerate}
use Rattle.generate_commands.proofs.OneMade.{one_made}

module _ (words : GenerateWords) where
  -- ---- one document and network, and no refusal beside a repairable one
  module _ (made : Generated) (built : Built) (is : IsMadeNetwork words made built) where
    moved : (Q : Document → Network → Type 0) (other : Generated) (last : Built) → IsMadeNetwork words other last → Q other.doc last.net → Q made.doc built.net
    moved Q other last h q =
        let same : made ≡ other = one_made words.number made other is.generated h.generated in
        let P : Generated → Type 0 = λ g. IsBuiltWithin [] 2048 g.doc g.files built in
        let R : Generated → Type 0 = λ g. Q g.doc built.net in
        subst R (sym same) (subst (Q other.doc) (sym (one_network [] 2048 other.doc other.files built.net last.net (subst P same is.is_built).network h.is_built.network)) q)

    not_refused : (list : List Edit) → IsRepairable default_bound built.net made.doc list → (r : FileRefusal) → IsGenerateRefusal words r → ⊥
    not_refused list can r u =
        let valid = moved (λ d n. IsValid n) u.made u.built u.is_made u.valid in
        let fault = moved (λ d n. IsRepairFault n d default_bound (Limit u.what u.count)) u.made u.built u.is_made u.fault in
        kept_or_passed built.net made.doc list default_bound valid can.edits can.limits u.what u.count fault

  pub one_generate_refusal : (r s : FileRefusal) → IsGenerateRefusal words r → IsGenerateRefusal words s → r ≡ s
  one_generate_refusal r s u v =
      let fault = moved u.made u.built u.is_made (λ d n. IsRepairFault n d default_bound (Limit v.what v.count)) v.made v.built v.is_made v.fault in
      u.told
      ∙ limit_refusal document_name u.what v.what u.count v.count (one_fault u.built.net u.made.doc default_bound u.valid u.what v.what u.count v.count u.fault fault)
      ∙ sym v.told

  pub summed_or_refused : (d : Done) → IsSummary words d → (r : FileRefusal) → IsGenerateRefusal words r → ⊥
  summed_or_refused d done =
      not_refused done.made done.built done.is_made done.list
      (can_be default_bound default_conflicts done.made.doc done.built done.made.files done.list done.editable done.answer done.answered)

  -- ---- what an answer leaves
  module _ (files : Files) (d : Done) (done : IsSummary words d) where
    abbrev now : Files
    now = with_files d.writes files

    -- the answer, what is written for it, and the status
    abbrev Gave : Answer → Type 0
    Gave answer =
        IsAnswered default_bound default_conflicts done.built.net done.made.doc done.list answer × (now words.proof ≡ Some (certificate_of done.built.net done.made.doc done.list answer))
        × (d.status ≡ status_of answer)

    after_is : with_files d.writes files ≡ with_file files words.proof (certificate_of done.built.net done.made.doc done.list done.answer)
    after_is = ap (λ (pairs : List (List ℕ × List ℕ)). with_files pairs files) done.writes

    gave : Gave done.answer
    gave = (
      done.answered,
      ap (λ (f : Files). f words.proof) after_is ∙ is_written files words.proof (certificate_of done.built.net done.made.doc done.list done.answer),
      done.status,
    )

    kept : KeepsOthers words.proof files now
    kept name other =
        ap (λ (f : Files). f name) after_is ∙ held_before files words.proof (certificate_of done.built.net done.made.doc done.list done.answer) name (λ e. other (sym e))

    never : IsGenerateRefused words → ⊥
    never r = summed_or_refused d done r.refusal r.refused

    told_repaired : (price : ℕ) (flags : List Bool) (verdicts : List Verdict) (log : Log) → Gave (Claimed (Repaired price default_bound flags verdicts) log) → TellsGenerate words d.status files now
    told_repaired price flags verdicts log (answered, written, zero') =
        let new = patches_are_there [] 2048 done.made.doc done.built done.made.files (chosen_of done.list flags) done.is_made.is_built in
        let shown = shows_cheapest default_bound default_conflicts done.made.doc done.built done.made.files done.list done.editable price flags verdicts log new.0
        (now words.proof) answered new.1 written in
        let has = has_repair default_bound default_conflicts done.made.doc done.built done.made.files done.list done.editable price flags verdicts log answered in
        let found : GeneratesCheapest words files now = record { made = done.made; built = done.built; is_made = done.is_made; repair = shown; kept = kept } in
        let can : GeneratedCannotBeRepaired words → ⊥ = λ cannot.
        not_both default_bound done.built.net done.made.doc done.editable.fit.valid has
        (moved done.made done.built done.is_made (λ e n. HasNoRepair default_bound n e) cannot.made cannot.built cannot.is_made cannot.none) in
        tells_cheapest files now d.status zero' found never can

    told_none : (log : Log) → Gave (Claimed (NoRepair default_bound) log) → TellsGenerate words d.status files now
    told_none log (answered, written, two) =
        let shown = shows_none default_bound default_conflicts done.made.doc done.built done.made.files done.list done.editable log (now words.proof) answered written in
        let none : GeneratesNone words files now = record { made = done.made; built = done.built; is_made = done.is_made; shown = shown; kept = kept } in
        let cannot : GeneratedCanBeRepaired words → ⊥ = λ can.
        not_both default_bound done.built.net done.made.doc done.editable.fit.valid
        (moved done.made done.built done.is_made (λ e n. HasRepair default_bound n e) can.made can.built can.is_made can.repair) shown.none in
        tells_none files now d.status two none never cannot

    told_spent : (log : Log) → Gave (Budget log) → TellsGenerate words d.status files now
    told_spent log (answered, written, three) =
        let shown = shows_spent default_bound default_conflicts done.made.doc done.built done.made.files done.list done.editable log (now words.proof) answered written in
        let spent : GeneratesSpentCertificate words files now = record { made = done.made; built = done.built; is_made = done.is_made; shown = shown; kept = kept } in
        tells_spent files now d.status three spent never

    told_as : (answer : Answer) → Gave answer → TellsGenerate words d.status files now
    told_as (Claimed (Repaired price bound flags verdicts) log) it =
        let P : ℕ → Type 0 = λ b. Gave (Claimed (Repaired price b flags verdicts) log) in
        told_repaired price flags verdicts log (subst P it.0.is_answer.same_bound it)
    told_as (Claimed (NoRepair bound) log) it =
        let P : ℕ → Type 0 = λ b. Gave (Claimed (NoRepair b) log) in
        told_none log (subst P it.0.is_answer.same_bound it)
    told_as (Budget log) it = told_spent log it

  told_refused : (files : Files) (r : FileRefusal) → IsGenerateRefusal words r → TellsGenerate words 5 files files
  told_refused files r refused =
      let is : IsGenerateRefused words = record { refusal = r; refused = refused } in
      let never_can : GeneratedCanBeRepaired words → ⊥ = λ can. not_refused can.made can.built can.is_made can.repair.list can.repair.repairable r refused in
      let never_cannot : GeneratedCannotBeRepaired words → ⊥ = λ cannot. not_refused cannot.made cannot.built cannot.is_made cannot.none.list cannot.none.repairable r refused in
      tells_refused files is never_can never_cannot

pub generate_told : (words : GenerateWords) → IsTold (λ files. IsGenerateRefusal words) (λ files. IsSummary words) (TellsGenerate words)
generate_told words = record {
  answered = λ files d done. told_as words files d done done.answer (gave words files d done);
  refused = told_refused words;
}
