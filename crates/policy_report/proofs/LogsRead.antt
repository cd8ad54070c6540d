-- The lines of a proof log are read again.
use Rattle.std.proofs.Common.{◌≡◌, ℕ, false, inr, List, [], ◌∷◌, ◌++◌, map, refl, ap, ap₂, sym, subst, ◌∙◌, append_assoc, Option, Some, None, Result, Ok, Err, codes}
use Rattle.std.specs.Prelude.{All, bytes_eq}
use Rattle.std.proofs.lemmas.Bool.{cond-false, false_from_ne_true}
use Rattle.std.proofs.lemmas.Slice.Eq.{bytes_eq-Decides}
use Rattle.arc_base.specs.TextLines.{lines}
use Rattle.edit_list.specs.declared.edit_kinds.Edit.{Edit}
use Rattle.net_model.specs.declared.policies.Document.{Document}
use Rattle.net_model.specs.declared.rows.Network.{Network}
use Rattle.proof_log.specs.declared.reading.LineKind.{LineKind}
use Rattle.proof_log.specs.declared.reading.LineKind.TheVariants.{BadNumber}
use Rattle.proof_log.specs.declared.steps.Step as steps
use Rattle.proof_log.specs.declared.steps.Log.{Log}
use Rattle.proof_log.specs.Reading.{reading}
use Rattle.proof_log.specs.Texts.{HasLine, steps_text, step_text, last_added, log_text}
use Rattle.proof_log.proofs.Again as again
use Rattle.policy_report.specs.declared.got.Got.{Got}
use Rattle.policy_report.specs.declared.got.Got.TheVariants as gots
use Rattle.policy_report.specs.declared.got.Got.TheVariants.{End}
use Rattle.policy_report.specs.declared.stages.Stage.TheVariants as stages
use Rattle.policy_report.specs.Steps.{Step, next_line, logged, proving, goes}
use Rattle.policy_report.specs.Recertifying.{Told, told_answer}
use Rattle.policy_report.proofs.Ended.{EndsLine, nothing_ends, both_end}
use Rattle.policy_report.proofs.ReportsRead.{answers_at}
use Rattle.policy_report.proofs.Spaced.{heads}

-- the lines of steps end
pub steps_end : (last : ℕ) (told : List steps.Step) → EndsLine (steps_text last told)
steps_end last [] = nothing_ends
steps_end last (s ∷ told) =
    subst EndsLine (append_assoc (step_text last s) (10 ∷ []) (steps_text (last_added last s) told))
    (both_end (step_text last s ++ 10 ∷ []) (steps_text (last_added last s) told) (record { is = inr (step_text last s, refl) }) (steps_end (last_added last s) told))

-- the end is no step
end_is_no_step : reading (codes "end") ≡ Err BadNumber
unfolding reading
end_is_no_step = refl

step_is_no_end : (t : List ℕ) (s : Option steps.Step) → reading t ≡ Ok s → bytes_eq t (codes "end") ≡ false
step_is_no_end t s read =
    false_from_ne_true _ (λ e.
    let same : t ≡ codes "end" = (bytes_eq-Decides t (codes "end")).0 e in
    let both : Ok s ≡ Err BadNumber = sym read ∙ ap reading same ∙ end_is_no_step in
    absurd (cc))

-- what a line of the log gives
abbrev got_of : Told → Got
got_of None = gots.More
got_of (Some s) = gots.Step s

module _ (net : Network) (doc : Document) (edits : List Edit) where
  -- a line of the log
  pub line_read : (n : ℕ) (t : List ℕ) (s : Told) → reading t ≡ Ok s → proving (next_line n) t ≡ goes (next_line n) stages.Steps (got_of s)
  line_read n t s read = cond-false (bytes_eq t (codes "end")) _ _ (step_is_no_end t s read) ∙ ap (logged (next_line n)) read ∙ by s
    where
      by : (s : Told) → logged (next_line n) (Ok s) ≡ goes (next_line n) stages.Steps (got_of s)
      by None = refl
      by (Some s) = refl

  -- the lines of the log, and the end
  pub log_read : (ls : List (List ℕ)) (told : List Told) (n : ℕ) → map reading ls ≡ map Ok told →
      answers_at net doc edits n stages.Steps (ls ++ codes "end" ∷ []) ≡ map told_answer told ++ Ok End ∷ []
  log_read [] [] n e = refl
  log_read [] (s ∷ told) n e = absurd (cc)
  log_read (t ∷ ls) [] n e = absurd (cc)
  log_read (t ∷ ls) (s ∷ told) n e =
      let (here, rest) = heads (reading t) (Ok s) (map reading ls) (map Ok told) e in
      ap (λ (w : Step). w.1 ∷ answers_at net doc edits w.0.line w.0.stage (ls ++ codes "end" ∷ [])) (line_read n t s here) ∙
      ap₂ (λ a r. a ∷ r) (by s) (log_read ls told (next_line n) rest)
    where
      by : (s : Told) → Ok (got_of s) ≡ told_answer s
      by None = refl
      by (Some s) = refl

-- a log that is written
pub written_read : (log : Log) → All HasLine log.steps → map reading (lines (log_text log)) ≡ map Ok (map Some log.steps)
written_read log have = again.log_read log have ∙ both log.steps
  where
    both : (ss : List steps.Step) →
        let one : steps.Step → Result Told LineKind = λ s. Ok (Some s) in
        let two : Told → Result Told LineKind = λ s. Ok s in
        map one ss ≡ map two (map Some ss)
    both [] = refl
    both (s ∷ ss) = ap (λ r. Ok (Some s) ∷ r) (both ss)
