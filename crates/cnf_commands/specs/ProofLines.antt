-- The answer of judging the lines of a proof.
use Rattle.std.specs.Prelude.{◌≡◌, ℕ, List, Some, Result}
use Rattle.arc_outside.specs.Files.{Files}
use Rattle.arc_base.specs.TextLines.{lines}
use Rattle.proof_check.specs.declared.rejections.Outcome.{Outcome}
use Rattle.proof_check.specs.Knowledge.{Knowledge}
use Rattle.proof_check.specs.Outcomes.{log_outcome}
use Rattle.run_files.specs.declared.outcome.Stop.{Stop}
use Rattle.run_files.specs.Answers.{Gives}
use Rattle.run_files.specs.Refusals.{bytes_at, read_refusal}

-- the outcome of the lines of a proof, given what is known before them, or a refusal of its file
abbrev pub JudgesProof : ℕ → Files → List ℕ → Knowledge → Result Outcome Stop → Type 0
JudgesProof limit files proof k result =
    Gives (λ r. read_refusal limit files proof ≡ Some r)
    (λ o. o ≡ log_outcome k 1 (lines (bytes_at files proof))) result
