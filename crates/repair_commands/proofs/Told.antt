-- What the status of `repair` says.
use Rattle.std.proofs.Common.{◌≡◌, ℕ, Bool, Some, List, [], ◌∷◌, sym, ◌∙◌, ap, subst, arith}
use Rattle.std.specs.List.{AllZip}
use Rattle.arc_outside.specs.Files.{Files, with_file, with_files}
use Rattle.arc_outside.proofs.OnShelf.{held_before, with_files-push}
use Rattle.net_model.specs.declared.verdicts.Verdict.{Verdict}
use Rattle.edit_list.specs.declared.claims.Claim.TheVariants.{Repaired, NoRepair}
use Rattle.edit_list.specs.declared.edit_kinds.Edit.{Edit}
use Rattle.edit_list.specs.Prices.{chosen_of}
use Rattle.proof_log.specs.declared.steps.Log.{Log}
use Rattle.policy_report.specs.Certificates.{budget_text, certificate_text}
use Rattle.arc_repair.specs.declared.answer.Answer.{Answer}
use Rattle.arc_repair.specs.declared.answer.Answer.TheVariants.{Done as Claimed, Budget}
use Rattle.file_copies.specs.Outputs.{copy_names, IsLeft}
use Rattle.file_copies.proofs.OneMore.{IsFreeLast, free_last, is_written, still_left}
use Rattle.file_copies.proofs.ReadAgain.{texts_left, unchanged_kept}
use Rattle.command_words.specs.declared.commands.RepairWords.{RepairWords}
use Rattle.run_files.specs.declared.outcome.Done.{Done}
use Rattle.run_files.specs.declared.outcome.FileRefusal.{FileRefusal}
use Rattle.run_files.specs.Answers.{IsTold}
use Rattle.run_inputs.specs.Inputs.{contents}
use Rattle.repair_commands.specs.Outcomes.{HasRepair, HasNoRepair, KeepsOthers}
use Rattle.repair_commands.specs.Repairs.{IsAnswered, IsRepaired, IsRepairRefusal, Writes, WritesAnswer}
use Rattle.repair_commands.specs.Tells.{CanBeRepaired, CannotBeRepaired, HasCheapest, HasNone, HoldsSpentCertificate, IsRepairRefused, PutsCheapest, TellsRepair}
use Rattle.repair_commands.proofs.Determined.{moved, not_refused}
use Rattle.repair_commands.proofs.Outcomes.{can_be, has_repair, not_both, shows_cheapest, shows_none, shows_spent, tells_cheapest, tells_none, tells_refused, tells_spent}

module _ (words : RepairWords) (files : Files) where
  -- what an answer leaves
  module _ (d : Done) (done : IsRepaired words files d) where
    abbrev now : Files
    now = with_files d.writes files

    -- the answer, and what is written for it
    abbrev Gave : Answer → Type 0
    Gave answer = IsAnswered words.bound words.conflicts done.built.net done.doc done.list answer × WritesAnswer words done.doc done.built (contents files done.doc) done.list answer d

    free : IsFreeLast (words.document ∷ done.doc.routers) (copy_names words.suffix done.doc.routers) words.proof
    free = free_last (words.document ∷ done.doc.routers) (copy_names words.suffix done.doc.routers) words.proof done.has.free

    -- the files after one more write
    after_is : (told : List ℕ) (changed : List (List ℕ × List ℕ)) (certificate : List ℕ) (status : ℕ) → Writes words told changed certificate status d
        → with_files d.writes files ≡ with_file (with_files changed files) words.proof certificate
    after_is told changed certificate status writes = ap (λ (pairs : List (List ℕ × List ℕ)). with_files pairs files) writes.writes ∙ with_files-push changed words.proof certificate files

    written : (told : List ℕ) (changed : List (List ℕ × List ℕ)) (certificate : List ℕ) (status : ℕ) → Writes words told changed certificate status d
        → with_files d.writes files words.proof ≡ Some certificate
    written told changed certificate status writes =
        ap (λ (f : Files). f words.proof) (after_is told changed certificate status writes) ∙ is_written (with_files changed files) words.proof certificate

    -- if the certificate alone is written, all other files are kept
    alone : (told certificate : List ℕ) (status : ℕ) → Writes words told [] certificate status d → KeepsOthers words.proof files now
    alone told certificate status writes name other =
        ap (λ (f : Files). f name) (after_is told [] certificate status writes) ∙ held_before files words.proof certificate name (λ e. other (sym e))

    -- a repair of the words' bound
    abbrev cheapest : (price : ℕ) (flags : List Bool) (verdicts : List Verdict) (log : Log) → Gave (Claimed (Repaired price words.bound flags verdicts) log) → HasCheapest words files now
    cheapest price flags verdicts log gave =
        let answered = gave.0 in
        let writes = gave.1 in
        let text : List ℕ = certificate_text done.built.net done.doc done.list (Repaired price words.bound flags verdicts) log in
        let chosen : List Edit = chosen_of done.list flags in
        let after_files = after_is _ writes.changed text 0 writes.writes in
        let left = texts_left words.suffix words.document files done.doc done.built chosen writes.changed done.has.input done.editable free.others writes.changes in
        let P : Files → Type 0 = λ after. AllZip (IsLeft words.suffix files after) done.doc.routers writes.changes.new in
        record {
          doc = done.doc;
          built = done.built;
          has = done.has;
          editable = done.editable;
          repair = shows_cheapest words.bound words.conflicts done.doc done.built (contents files done.doc) done.list done.editable price flags verdicts log writes.changes.new (now words.proof)
              answered writes.changes.patched (written _ writes.changed text 0 writes.writes);
          left = subst P (sym after_files) (still_left words.suffix files (with_files writes.changed files) words.proof text words.document done.doc writes.changes.new free left);
          kept = λ name other none.
              ap (λ (f : Files). f name) after_files
              ∙ held_before (with_files writes.changed files) words.proof text name (λ e. other (sym e))
              ∙ unchanged_kept words.suffix done.doc done.built chosen writes.changed files writes.changes name none;
        }

    spent : (log : Log) → Gave (Budget log) → HoldsSpentCertificate words files now
    spent log (answered, writes) =
        let text : List ℕ = budget_text words.conflicts words.bound log in
        record {
          doc = done.doc;
          net = done.built.net;
          has = done.has;
          shown = shows_spent words.bound words.conflicts done.doc done.built (contents files done.doc) done.list done.editable log (now words.proof) answered (written _ [] text 3 writes);
          kept = alone _ text 3 writes;
        }

    pub answered_or_refused : (r : FileRefusal) → IsRepairRefusal words files r → ⊥
    answered_or_refused =
        not_refused words files done.doc done.built.net done.has done.list
        (can_be words.bound words.conflicts done.doc done.built (contents files done.doc) done.list done.editable done.answer done.answered)

    never : IsRepairRefused words files → ⊥
    never r = answered_or_refused r.refusal r.refused

    told_repaired : (price : ℕ) (flags : List Bool) (verdicts : List Verdict) (log : Log) → Gave (Claimed (Repaired price words.bound flags verdicts) log) → TellsRepair words d.status files now
    told_repaired price flags verdicts log gave =
        let has = has_repair words.bound words.conflicts done.doc done.built (contents files done.doc) done.list done.editable price flags verdicts log gave.0 in
        let can : CannotBeRepaired words files → ⊥ = λ cannot.
        not_both words.bound done.built.net done.doc done.editable.fit.valid has
        (moved words files done.doc done.built.net done.has (λ e n. HasNoRepair words.bound n e) cannot.doc cannot.net cannot.has cannot.none) in
        tells_cheapest files now d.status gave.1.writes.status_is (cheapest price flags verdicts log gave) never can

    told_none : (log : Log) → Gave (Claimed (NoRepair words.bound) log) → TellsRepair words d.status files now
    told_none log gave =
        let text : List ℕ = certificate_text done.built.net done.doc done.list (NoRepair words.bound) log in
        let shown = shows_none words.bound words.conflicts done.doc done.built (contents files done.doc) done.list done.editable log (now words.proof) gave.0 (written _ [] text 2 gave.1) in
        let none : HasNone words files now = record { doc = done.doc; net = done.built.net; has = done.has; shown = shown; kept = alone _ text 2 gave.1 } in
        let cannot : CanBeRepaired words files → ⊥ = λ can.
        not_both words.bound done.built.net done.doc done.editable.fit.valid
        (moved words files done.doc done.built.net done.has (λ e n. HasRepair words.bound n e) can.doc can.net can.has can.repair) shown.none in
        tells_none files now d.status gave.1.status_is none never cannot

    told_as : (answer : Answer) → Gave answer → TellsRepair words d.status files now
    told_as (Claimed (Repaired price bound flags verdicts) log) gave =
        let P : ℕ → Type 0 = λ b. Gave (Claimed (Repaired price b flags verdicts) log) in
        told_repaired price flags verdicts log (subst P gave.0.is_answer.same_bound gave)
    told_as (Claimed (NoRepair bound) log) gave =
        let P : ℕ → Type 0 = λ b. Gave (Claimed (NoRepair b) log) in
        told_none log (subst P gave.0.is_answer.same_bound gave)
    told_as (Budget log) gave = tells_spent files now d.status gave.1.status_is (spent log gave) never

    -- the text that is printed is about this repair
    puts : (answer : Answer) → Gave answer → d.status ≡ 0 → PutsCheapest words files d
    puts (Claimed (Repaired price bound flags verdicts) log) gave zero' =
        let P : ℕ → Type 0 = λ b. Gave (Claimed (Repaired price b flags verdicts) log) in
        let it : Gave (Claimed (Repaired price words.bound flags verdicts) log) = subst P gave.0.is_answer.same_bound gave in
        record { found = cheapest price flags verdicts log it; text = it.1.writes.text }
    puts (Claimed (NoRepair bound) log) gave zero' = absurd (omega (arith, zero', gave.1.status_is))
    puts (Budget log) gave zero' = absurd (omega (arith, zero', gave.1.status_is))

  told_refused : (r : FileRefusal) → IsRepairRefusal words files r → TellsRepair words 5 files files
  told_refused r refused =
      let is : IsRepairRefused words files = record { refusal = r; refused = refused } in
      let never_can : CanBeRepaired words files → ⊥ = λ can. not_refused words files can.doc can.net can.has can.repair.list can.repair.repairable r refused in
      let never_cannot : CannotBeRepaired words files → ⊥ = λ cannot. not_refused words files cannot.doc cannot.net cannot.has cannot.none.list cannot.none.repairable r refused in
      tells_refused files is never_can never_cannot

pub edits_told : (words : RepairWords) (files : Files) (done : Done) → IsRepaired words files done → done.status ≡ 0 → PutsCheapest words files done
edits_told words files d done zero' = puts words files d done done.answer (done.answered, done.writes) zero'

pub repair_told : (words : RepairWords) → IsTold (IsRepairRefusal words) (IsRepaired words) (TellsRepair words)
repair_told words = record {
  answered = λ files d done. told_as words files d done done.answer (done.answered, done.writes);
  refused = told_refused words;
}
