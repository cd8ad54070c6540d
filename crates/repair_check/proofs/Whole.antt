-- An accepted text is read as a whole: each line, the first one as the head of a repair and the last one as the end.
use Rattle.std.proofs.Common.{◌≡◌, ℕ, ◌+◌, ◌==◌, ◌||◌, Bool, true, false, not, inl, inr, List, [], ◌∷◌, length, set}
use Rattle.std.specs.Prelude.{MatchBool, MatchOption, Option, Some, None, Ok, Err}
use Rattle.arc_base.specs.declared.certificate.CertKind.TheVariants as kinds
use Rattle.net_model.specs.declared.policies.Document.{Document}
use Rattle.net_model.specs.declared.policies.Policy.{Policy}
use Rattle.net_model.specs.declared.rows.Network.{Network}
use Rattle.edit_list.specs.declared.edit_kinds.Edit as edits
use Rattle.edit_list.specs.Prices.{none_of}
use Rattle.proof_check.specs.declared.faults.StepFault.{StepFault}
use Rattle.proof_check.specs.Knowledge.{Knowledge, after, step_fault}
use Rattle.policy_report.specs.declared.got.Got.TheVariants.{More, Head, Verdict, Edit, Step, End}
use Rattle.policy_report.specs.declared.got.CertForm.TheVariants.{Report, Repaired, NoRepair}
use Rattle.policy_report.specs.Recertifying.{IsWholeRepair}
use Rattle.policy_report.specs.Rereading.{IsWhole}
use Rattle.report_check.specs.declared.outcome.Outcome.TheVariants.{Accepted, Rejected}
use Rattle.report_check.proofs.Rights.{not_accepted}
use Rattle.repair_check.specs.Outcomes.{ReaderAnswers, IsAnswerOutcome, IsBlocksOutcome, IsEditsEnd, IsEditsOutcome, IsEndOutcome, IsHeadOutcome, IsLogOutcome, IsReadyOutcome, is_edit_kind, rejected}
use Rattle.proof_check.specs.Outcomes.{fault_kind}

end_whole : (agrees : Bool) (number : ℕ) (rest : ReaderAnswers) → MatchBool agrees (IsEndOutcome (number + 1) rest Accepted) (Accepted ≡ rejected number kinds.NotRefuted) → IsWhole (Ok End ∷ rest)
end_whole true number [] h = tt
end_whole true number (told ∷ rest) h = absurd (not_accepted (record { line = number + 1; kind = kinds.NoEnd }) h)
end_whole false number rest h = absurd (not_accepted (record { line = number; kind = kinds.NotRefuted }) h)

step_whole : (fault : Option StepFault) (number : ℕ) (P : Type 0) → MatchOption fault P (λ f. Accepted ≡ rejected number (fault_kind f)) → P
step_whole None number P h = h
step_whole (Some f) number P h = absurd (not_accepted (record { line = number; kind = fault_kind f }) h)

log_whole : (needs : Bool) (known : Knowledge) (number : ℕ) (told : ReaderAnswers) → IsLogOutcome needs known number told Accepted → IsWhole told
log_whole needs known number [] h = absurd (cc)
log_whole needs known number (Err fault ∷ rest) h = absurd (cc)
log_whole needs known number (Ok More ∷ rest) h = log_whole needs known (number + 1) rest h
log_whole needs known number (Ok (Step s) ∷ rest) h =
    log_whole needs (after known s) (number + 1) rest (step_whole (step_fault known s) number (IsLogOutcome needs (after known s) (number + 1) rest Accepted) h)
log_whole needs known number (Ok End ∷ rest) h = end_whole (not needs || known.refuted) number rest h
log_whole needs known number (Ok (Head form) ∷ rest) h = absurd (cc)
log_whole needs known number (Ok (Verdict which v) ∷ rest) h = absurd (cc)
log_whole needs known number (Ok (Edit place) ∷ rest) h = absurd (cc)

ready_whole : (known : Knowledge) (number : ℕ) (told : ReaderAnswers) → IsReadyOutcome known number told Accepted → IsWhole told
ready_whole known number [] h = absurd (cc)
ready_whole known number (Err fault ∷ rest) h = absurd (cc)
ready_whole known number (Ok More ∷ rest) h = log_whole true known (number + 1) rest h
ready_whole known number (Ok (Step s) ∷ rest) h = absurd (cc)
ready_whole known number (Ok End ∷ rest) h = absurd (cc)
ready_whole known number (Ok (Head form) ∷ rest) h = absurd (cc)
ready_whole known number (Ok (Verdict which v) ∷ rest) h = absurd (cc)
ready_whole known number (Ok (Edit place) ∷ rest) h = absurd (cc)

either : (b : Bool) (P Q R : Type 0) → (P → R) → (Q → R) → MatchBool b P Q → R
either true P Q R f g h = f h
either false P Q R f g h = g h

blocks_whole : (now : Network) (policies : List Policy) (needs : Bool) (known : Knowledge) (judged first number : ℕ) (told : ReaderAnswers) →
    IsBlocksOutcome now policies needs known judged first number told Accepted → IsWhole told
blocks_whole now policies needs known judged first number [] h = absurd (cc)
blocks_whole now policies needs known judged first number (Err fault ∷ rest) h = absurd (cc)
blocks_whole now policies needs known judged first number (Ok More ∷ rest) h =
    either (judged == length policies) (IsLogOutcome needs known (number + 1) rest Accepted) (IsBlocksOutcome now policies needs known judged first (number + 1) rest Accepted) (IsWhole rest)
    (λ log. log_whole needs known (number + 1) rest log) (λ block. blocks_whole now policies needs known judged first (number + 1) rest block) h
blocks_whole now policies needs known judged first number (Ok (Verdict which v) ∷ rest) h =
    elim h [
      | inl good ↦ blocks_whole now policies needs known (which + 1) (number + 1) (number + 1) rest good.1
      | inr bad ↦ absurd (not_accepted (record { line = first; kind = kinds.Witness }) bad.1)
    ]
blocks_whole now policies needs known judged first number (Ok (Head form) ∷ rest) h = absurd (cc)
blocks_whole now policies needs known judged first number (Ok (Edit place) ∷ rest) h = absurd (cc)
blocks_whole now policies needs known judged first number (Ok (Step s) ∷ rest) h = absurd (cc)
blocks_whole now policies needs known judged first number (Ok End ∷ rest) h = absurd (cc)

module _ (net : Network) (doc : Document) (list : List edits.Edit) (price bound : ℕ) where
  ends_whole : (flags : List Bool) (number : ℕ) (told : ReaderAnswers) → IsEditsEnd net doc list price bound flags number told Accepted → IsWhole told
  ends_whole flags number told (inl wrong) = absurd (not_accepted (record { line = 2; kind = kinds.Price }) wrong.1)
  ends_whole flags number told (inr a) = blocks_whole a.now doc.policies _ _ 0 number number told a.outcome

  edits_whole : (flags : List Bool) (number : ℕ) (told : ReaderAnswers) → IsEditsOutcome net doc list price bound flags number told Accepted → IsWhole told
  edits_whole flags number [] h = ends_whole flags number [] h
  edits_whole flags number (Err fault ∷ rest) h =
      either (is_edit_kind fault.kind) (Accepted ≡ Rejected fault) (IsEditsEnd net doc list price bound flags number (Err fault ∷ rest) Accepted) (IsWhole (Err fault ∷ rest))
      (λ wrong. absurd (not_accepted fault wrong)) (λ end. ends_whole flags number (Err fault ∷ rest) end) h
  edits_whole flags number (Ok (Edit place) ∷ rest) h = edits_whole (set flags place true) (number + 1) rest h
  edits_whole flags number (Ok More ∷ rest) h = ends_whole flags number (Ok More ∷ rest) h
  edits_whole flags number (Ok (Head form) ∷ rest) h = ends_whole flags number (Ok (Head form) ∷ rest) h
  edits_whole flags number (Ok (Verdict which v) ∷ rest) h = ends_whole flags number (Ok (Verdict which v) ∷ rest) h
  edits_whole flags number (Ok (Step s) ∷ rest) h = ends_whole flags number (Ok (Step s) ∷ rest) h
  edits_whole flags number (Ok End ∷ rest) h = ends_whole flags number (Ok End ∷ rest) h

module _ (net : Network) (doc : Document) (list : List edits.Edit) where
  answer_whole : (number : ℕ) (told : ReaderAnswers) → IsAnswerOutcome net doc list number told Accepted → IsWhole told
  answer_whole number [] h = absurd (cc)
  answer_whole number (Err fault ∷ rest) h = absurd (cc)
  answer_whole number (Ok (Head Report) ∷ rest) h = absurd (cc)
  answer_whole number (Ok (Head (Repaired price bound)) ∷ rest) h = edits_whole net doc list price bound (none_of list) (number + 1) rest h
  answer_whole number (Ok (Head (NoRepair bound)) ∷ rest) (inl wrong) = absurd (not_accepted (record { line = 2; kind = kinds.Price }) wrong.1)
  answer_whole number (Ok (Head (NoRepair bound)) ∷ rest) (inr a) = ready_whole _ (number + 1) rest a.outcome
  answer_whole number (Ok More ∷ rest) h = absurd (cc)
  answer_whole number (Ok (Verdict which v) ∷ rest) h = absurd (cc)
  answer_whole number (Ok (Edit place) ∷ rest) h = absurd (cc)
  answer_whole number (Ok (Step s) ∷ rest) h = absurd (cc)
  answer_whole number (Ok End ∷ rest) h = absurd (cc)

  pub head_whole : (number : ℕ) (told : ReaderAnswers) → IsHeadOutcome net doc list number told Accepted → IsWholeRepair told
  head_whole number [] h = absurd (cc)
  head_whole number (Err fault ∷ rest) h = absurd (cc)
  head_whole number (Ok More ∷ rest) h = answer_whole (number + 1) rest h
  head_whole number (Ok (Head form) ∷ rest) h = absurd (cc)
  head_whole number (Ok (Verdict which v) ∷ rest) h = absurd (cc)
  head_whole number (Ok (Edit place) ∷ rest) h = absurd (cc)
  head_whole number (Ok (Step s) ∷ rest) h = absurd (cc)
  head_whole number (Ok End ∷ rest) h = absurd (cc)
