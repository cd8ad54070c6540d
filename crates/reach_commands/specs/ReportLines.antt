-- The answer of reading the lines of an old report.
use Rattle.std.specs.Prelude.{◌≡◌, ℕ, List, Some, Result}
use Rattle.arc_outside.specs.Files.{Files}
use Rattle.net_model.specs.declared.policies.Document.{Document}
use Rattle.net_model.specs.declared.rows.Network.{Network}
use Rattle.net_model.specs.declared.verdicts.Verdict.{Verdict}
use Rattle.run_files.specs.declared.outcome.Stop.{Stop}
use Rattle.run_files.specs.Answers.{Gives}
use Rattle.run_files.specs.Refusals.{bytes_at, read_refusal}
use Rattle.reach_commands.specs.RecheckRuns.{held_of}

-- the verdicts of the blocks that the old report holds, or a refusal of its file
abbrev pub ReadsHeld : ℕ → Network → Document → List ℕ → Files →
    Result (List Verdict) Stop → Type 0
ReadsHeld limit net doc report files result =
    Gives (λ r. read_refusal limit files report ≡ Some r)
    (λ held. held ≡ held_of net doc (bytes_at files report)) result
