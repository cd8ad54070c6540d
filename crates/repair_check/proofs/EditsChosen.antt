-- The edits that a certificate names, one after another, are those that its claim chooses.
use Rattle.std.proofs.Common.{◌≡◌, ℕ, ◌+◌, Bool, true, false, List, [], ◌∷◌, ◌++◌, length, set, refl, sym, ◌∙◌, ap, subst, arith, append_assoc, length-append}
use Rattle.std.specs.Prelude.{Result, Ok, Err}
use Rattle.std.proofs.Math.Seq.{set-append_seam}
use Rattle.net_model.specs.declared.policies.Document.{Document}
use Rattle.net_model.specs.declared.rows.Network.{Network}
use Rattle.net_model.specs.declared.verdicts.Verdict as verdicts
use Rattle.edit_list.specs.declared.edit_kinds.Edit as edits
use Rattle.edit_list.specs.Prices.{none_of}
use Rattle.policy_report.specs.declared.got.CertFault.{CertFault}
use Rattle.policy_report.specs.declared.got.Got.{Got}
use Rattle.policy_report.specs.declared.got.Got.TheVariants.{More, Head, Verdict, Edit, Step, End}
use Rattle.policy_report.specs.Reports.{witness_lines}
use Rattle.policy_report.specs.Recertifying.{Told, chosen_from, edits_answers, log_answers}
use Rattle.policy_report.specs.Rereading.{blocks_answers, more}
use Rattle.report_check.specs.declared.outcome.Outcome.{Outcome}
use Rattle.repair_check.specs.Outcomes.{ReaderAnswers, IsEditsEnd, IsEditsOutcome}

-- the flags with those at these places set
abbrev pub set_all : List Bool → List ℕ → List Bool
set_all flags [] = flags
set_all flags (place ∷ places) = set_all (set flags place true) places

-- the flags with one more of them done
moved : (done : List Bool) (flag : Bool) (flags : List Bool) (list : List edits.Edit) →
    set_all ((done ++ flag ∷ []) ++ none_of list) (chosen_from (length (done ++ flag ∷ [])) flags) ≡ (done ++ flag ∷ []) ++ flags →
    set_all (done ++ flag ∷ none_of list) (chosen_from (length done + 1) flags) ≡ done ++ flag ∷ flags
moved done flag flags list e =
    let n : length (done ++ flag ∷ []) ≡ length done + 1 = length-append done (flag ∷ []) in
    subst (λ (k : ℕ). set_all (done ++ flag ∷ none_of list) (chosen_from k flags) ≡ done ++ flag ∷ flags) n
    (ap (λ (l : List Bool). set_all l (chosen_from (length (done ++ flag ∷ [])) flags)) (sym (append_assoc done (flag ∷ []) (none_of list))) ∙ e ∙ append_assoc done (flag ∷ []) flags)

chosen_after : (done flags : List Bool) (list : List edits.Edit) → length flags ≡ length list → set_all (done ++ none_of list) (chosen_from (length done) flags) ≡ done ++ flags
chosen_after done [] [] each = refl
chosen_after done [] (e ∷ list) each = absurd (omega (arith, each))
chosen_after done (flag ∷ flags) [] each = absurd (omega (arith, each))
chosen_after done (true ∷ flags) (e ∷ list) each =
    ap (λ (l : List Bool). set_all l (chosen_from (length done + 1) flags)) (set-append_seam done false (none_of list) true) ∙
    moved done true flags list (chosen_after (done ++ true ∷ []) flags list (omega (arith, each)))
chosen_after done (false ∷ flags) (e ∷ list) each = moved done false flags list (chosen_after (done ++ false ∷ []) flags list (omega (arith, each)))

pub all_chosen : (flags : List Bool) (list : List edits.Edit) → length flags ≡ length list → set_all (none_of list) (chosen_from 0 flags) ≡ flags
all_chosen flags list each = chosen_after [] flags list each

-- the line tells a verdict
abbrev IsVerdict : Result Got CertFault → Type 0
IsVerdict (Ok (Verdict which v)) = Unit {0}
IsVerdict other = ⊥

module _ (net : Network) (doc : Document) (list : List edits.Edit) (price bound : ℕ) (o : Outcome) where
  -- the first line of a block is not an edit
  block_ends : (flags : List Bool) (number : ℕ) (ls : List (List ℕ)) (last : Result Got CertFault) (rest : ReaderAnswers) → IsVerdict last →
      IsEditsOutcome net doc list price bound flags number ((more ls ++ last ∷ []) ++ rest) o → IsEditsEnd net doc list price bound flags number ((more ls ++ last ∷ []) ++ rest) o
  block_ends flags number [] (Ok (Verdict which v)) rest is h = h
  block_ends flags number [] (Ok More) rest is h = absurd is
  block_ends flags number [] (Ok (Head form)) rest is h = absurd is
  block_ends flags number [] (Ok (Edit place)) rest is h = absurd is
  block_ends flags number [] (Ok (Step s)) rest is h = absurd is
  block_ends flags number [] (Ok End) rest is h = absurd is
  block_ends flags number [] (Err fault) rest is h = absurd is
  block_ends flags number (line ∷ ls) last rest is h = h

  -- the first line after the edits is not an edit
  ended : (flags : List Bool) (number : ℕ) (vs : List verdicts.Verdict) (told : List Told) →
      IsEditsOutcome net doc list price bound flags number (blocks_answers net 0 vs (log_answers told)) o →
      IsEditsEnd net doc list price bound flags number (blocks_answers net 0 vs (log_answers told)) o
  ended flags number [] told h = h
  ended flags number (v ∷ vs) told h = block_ends flags number (witness_lines net v) (Ok (Verdict 0 v)) (blocks_answers net 1 vs (log_answers told)) tt h

  pub edits_passed : (places : List ℕ) (flags : List Bool) (number : ℕ) (vs : List verdicts.Verdict) (told : List Told) →
      IsEditsOutcome net doc list price bound flags number (edits_answers places (blocks_answers net 0 vs (log_answers told))) o →
      (n : ℕ) × IsEditsEnd net doc list price bound (set_all flags places) n (blocks_answers net 0 vs (log_answers told)) o
  edits_passed [] flags number vs told h = (number, ended flags number vs told h)
  edits_passed (place ∷ places) flags number vs told h = edits_passed places (set flags place true) (number + 1) vs told h
