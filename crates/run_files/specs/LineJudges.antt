-- Texts whose lines come to a judge one by one.
use Rattle.std.specs.Prelude.{◌≡◌, ◌⊎◌, ◌+◌, ◌≤◌, ℕ, List, Some, Result}
use Rattle.std.specs.declared.ops.ControlFlow.{ControlFlow}
use Rattle.std.specs.ControlFlow.{MatchControlFlow}
use Rattle.arc_outside.specs.Files.{Files}
use Rattle.arc_base.specs.TextLines.{lines}
use Rattle.run_files.specs.declared.outcome.FileRefusal.{FileRefusal}
use Rattle.run_files.specs.declared.outcome.Stop.{Stop}
use Rattle.run_files.specs.Answers.{Gives}
use Rattle.run_files.specs.Refusals.{bytes_at, read_refusal}

-- another line may come to the next judge, and one line fewer than to this one
pub record GoesOn {J : Type 0} (room : J → ℕ) (CanGoOn : J → Type 0)
    (judge next : J) : Type 0 where
  pub room_left : room judge ≤ room next + 1
  pub can_go_on : CanGoOn next

-- all that the next judge leads to by the lines that are left, the first one leads to by all
pub record LeadsOn {J O : Type 0} (LeadsTo : J → List (List ℕ) → O → Type 0)
    (Refuses : J → List (List ℕ) → FileRefusal → Type 0)
    (judge : J) (all rest : List (List ℕ)) (next : J) : Type 0 where
  pub outcomes : (o : O) → LeadsTo next rest o → LeadsTo judge all o
  pub refusals : (r : FileRefusal) → Refuses next rest r → Refuses judge all r

-- what judging the first of these lines answers: a judge for those that are left, or the outcome
abbrev pub Judges : {J O : Type 0} → (J → List (List ℕ) → O → Type 0) →
    (J → List (List ℕ) → FileRefusal → Type 0) → J → List (List ℕ) → List (List ℕ) →
    ControlFlow O J → Type 0
Judges LeadsTo Refuses judge all rest flow =
    MatchControlFlow flow (LeadsOn LeadsTo Refuses judge all rest) (LeadsTo judge all)

-- what judging the lines of a file answers: what they lead to, or a refusal of the file or by the
-- judge
abbrev pub JudgesText : {O : Type 0} → (List (List ℕ) → O → Type 0) →
    (List (List ℕ) → FileRefusal → Type 0) → ℕ → Files → List ℕ → Result O Stop → Type 0
JudgesText LeadsTo Refuses limit files name result =
    Gives (λ r. (read_refusal limit files name ≡ Some r) ⊎ Refuses (lines (bytes_at files name)) r)
    (LeadsTo (lines (bytes_at files name))) result
