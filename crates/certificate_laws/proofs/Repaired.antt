-- The certificate that `repair` wrote is accepted.
use Rattle.std.proofs.Common.{◌≡◌, ◌⊎◌, ◌∙◌, ◌≤◌, ℕ, inl, inr, List, [], length, refl, ap, arith}
use Rattle.std.specs.Prelude.{Some}
use Rattle.arc_outside.specs.Files.{Files, with_files}
use Rattle.arc_outside.proofs.OnShelf.{with_files-push}
use Rattle.edit_list.specs.declared.claims.Claim.{Claim}
use Rattle.edit_list.specs.declared.claims.Claim.TheVariants.{Repaired, NoRepair}
use Rattle.proof_log.specs.declared.steps.Log.{Log}
use Rattle.policy_report.specs.Certificates.{certificate_text}
use Rattle.arc_repair.specs.declared.answer.Answer.{Answer}
use Rattle.arc_repair.specs.declared.answer.Answer.TheVariants.{Done as Claimed, Budget}
use Rattle.file_copies.proofs.OneMore.{is_written}
use Rattle.command_words.specs.declared.commands.RepairWords.{RepairWords}
use Rattle.run_files.specs.declared.limits.Limits.TheVariants.{Editing}
use Rattle.run_files.specs.declared.outcome.Done.{Done}
use Rattle.run_files.specs.Limits.{proof_limit}
use Rattle.run_inputs.specs.Inputs.{HoldTheSame, contents}
use Rattle.run_inputs.proofs.SameInput.{same_input}
use Rattle.repair_commands.specs.Repairs.{IsRepaired, Writes, WritesAnswer}
use Rattle.check_commands.specs.Tells.{IsRepairAccepted}
use Rattle.certificate_laws.specs.Laws.{LeftIsAccepted, RepairedIsAccepted}
use Rattle.certificate_laws.proofs.Certified.{Known, accepted}
use Rattle.certificate_laws.proofs.Kept.{inputs_kept}

module _ (known : Known) (words : RepairWords) (before : Files) (done : Done) (is : IsRepaired words before done) where
  -- a claim that was written is accepted if the inputs are unchanged
  claimed : (claim : Claim) (log : Log) → is.answer ≡ Claimed claim log → (name : List ℕ) (after : Files) → HoldTheSame words.document before after
      → after name ≡ Some (certificate_text is.built.net is.doc is.list claim log) → length (certificate_text is.built.net is.doc is.list claim log) ≤ proof_limit
      → IsRepairAccepted words.document name after
  claimed claim log same name after kept holds short =
      accepted known is.doc is.built (contents before is.doc) is.list words.bound words.conflicts is.answer is.editable is.has.input.network is.answered claim log same words.document name after
      (same_input before after Editing [] words.document is.doc is.built.net kept is.has.input) holds short

  -- the certificate as it was written
  written : (told : List ℕ) (changed : List (List ℕ × List ℕ)) (certificate : List ℕ) (status : ℕ) → Writes words told changed certificate status done
      → with_files done.writes before words.proof ≡ Some certificate
  written told changed certificate status writes =
      ap (λ (pairs : List (List ℕ × List ℕ)). with_files pairs before words.proof) writes.writes
      ∙ ap (λ (f : Files). f words.proof) (with_files-push changed words.proof certificate before)
      ∙ is_written (with_files changed before) words.proof certificate

  by_answer : (answer : Answer) → is.answer ≡ answer → WritesAnswer words is.doc is.built (contents before is.doc) is.list answer done → (done.status ≡ 0) ⊎ (done.status ≡ 2)
      → (name : List ℕ) (after : Files) → HoldTheSame words.document before after → after name ≡ with_files done.writes before words.proof → IsRepairAccepted words.document name after
  by_answer (Claimed (Repaired price bound flags verdicts) log) same writes status name after kept holds =
      claimed (Repaired price bound flags verdicts) log same name after kept (holds ∙ written _ writes.changed _ 0 writes.writes) writes.writes.short
  by_answer (Claimed (NoRepair bound) log) same writes status name after kept holds =
      claimed (NoRepair bound) log same name after kept (holds ∙ written _ [] _ 2 writes) writes.short
  by_answer (Budget log) same writes (inl zero') name after kept holds = absurd (omega (arith, zero', writes.status_is))
  by_answer (Budget log) same writes (inr two) name after kept holds = absurd (omega (arith, two, writes.status_is))

pub repaired_is_accepted : Known → RepairedIsAccepted
repaired_is_accepted known words name before after done is status kept holds = by_answer known words before done is is.answer refl is.writes status name after kept holds

pub left_is_accepted : Known → LeftIsAccepted
left_is_accepted known words before done is status =
    by_answer known words before done is is.answer refl is.writes status words.proof (with_files done.writes before) (inputs_kept words before done is) refl
