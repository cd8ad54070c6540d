-- What the helpers that read files line by line answer.
use Rattle.std.specs.Prelude.{◌≡◌, ◌<◌, ◌≤◌, ℕ, List, [], Bool, true, false, Option, None, Some}
use Rattle.std.specs.Prelude.{Result, Ok, Err, IsSomeAnd, length}
use Rattle.arc_outside.specs.Files.{Files}
use Rattle.arc_outside.specs.Lines.{IsFirstLine}
use Rattle.arc_outside.specs.LinesRead.{left}
use Rattle.arc_outside.specs.declared.fault.Fault.TheVariants as Fault
use Rattle.arc_outside.specs.declared.pieces.Pieces.{Pieces}
use Rattle.arc_outside.specs.declared.reading.ReadAll.{ReadAll}
use Rattle.arc_outside.specs.declared.reading.ReadAll.TheVariants.{Fault as fault, TooLong}
use Rattle.run_files.specs.declared.outcome.Stop.{Stop}
use Rattle.run_files.specs.declared.outcome.Stop.TheVariants.{Refused, Memory, Failed}
use Rattle.run_files.specs.Answers.{Gives}
use Rattle.run_files.specs.Refusals.{read_refusal}

-- the next line of what is left of a file, the end of a file that is not refused, or the file's
-- refusal
abbrev pub MovesOn : Files → List ℕ → Pieces → Pieces → Result Bool Stop → Type 0
MovesOn files name before after (Ok true) =
    IsFirstLine (left before (files name)) after.line.items (left after (files name))
MovesOn files name before after (Ok false) =
    (left before (files name) ≡ []) × (read_refusal before.limit files name ≡ None)
MovesOn files name before after (Err (Refused r)) = read_refusal before.limit files name ≡ Some r
MovesOn files name before after (Err Memory) = Unit {0}
MovesOn files name before after (Err Failed) = Unit {0}

-- What reading past a file answers: how many bytes it has, at most as many as the limit allows;
-- TooLong if it has more; Missing if the name holds nothing.
abbrev pub IsReadPast : Option (List ℕ) → ℕ → Result ℕ ReadAll → Type 0
IsReadPast file limit (Ok n) = IsSomeAnd file (λ bytes. (n ≡ length bytes) × (n ≤ limit))
IsReadPast file limit (Err TooLong) = IsSomeAnd file (λ bytes. limit < length bytes)
IsReadPast file limit (Err (fault Fault.Missing)) = file ≡ None
IsReadPast file limit (Err (fault Fault.Failed)) = Unit {0}
IsReadPast file limit (Err (fault Fault.Memory)) = Unit {0}

-- that a file is not refused, or its refusal
abbrev pub IsWithinLimit : ℕ → Files → List ℕ → Result (Unit {0}) Stop → Type 0
IsWithinLimit limit files name result =
    Gives (λ r. read_refusal limit files name ≡ Some r)
    (λ u. read_refusal limit files name ≡ None) result
