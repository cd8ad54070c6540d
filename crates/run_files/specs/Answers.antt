-- What calls over a store answer, and what they leave of it.
use Rattle.std.specs.Prelude.{◌≡◌, ℕ, ◌≤◌, [], Option, IfSome, Result, Ok, Err, IfErr, IsErrOf}
use Rattle.arc_base.specs.declared.refusal.Kind.TheVariants.{Missing, TooLong}
use Rattle.arc_outside.specs.Causes.{Rose, RoseWhere}
use Rattle.arc_outside.specs.Files.{Files, with_files}
use Rattle.arc_outside.specs.Reads.{TookMore, TookOn}
use Rattle.run_files.specs.declared.outcome.Done.{Done}
use Rattle.run_files.specs.declared.outcome.FileRefusal.{FileRefusal}
use Rattle.run_files.specs.declared.outcome.Reason.TheVariants as reasons
use Rattle.run_files.specs.declared.outcome.Stop.{Stop}
use Rattle.run_files.specs.declared.outcome.Stop.TheVariants as stops

-- The answer is a right value or the first refusal; in place of either, memory may run out or the
-- store may fail.
abbrev pub Gives : {X : Type 0} → (FileRefusal → Type 0) → (X → Type 0) → Result X Stop → Type 0
Gives IsRefusal IsRight (Ok x) = IsRight x
Gives IsRefusal IsRight (Err (stops.Refused r)) = IsRefusal r
Gives IsRefusal IsRight (Err stops.Memory) = Unit {0}
Gives IsRefusal IsRight (Err stops.Failed) = Unit {0}

-- What the function of a command answers: one of the command's own answers, or its first refusal,
-- by what the store holds. Over a store that does not say what it holds, any of the command's own,
-- and any refusal.
abbrev pub Answers : (Done → Type 0) → (Files → FileRefusal → Type 0) → (Files → Done → Type 0) →
    Option Files → Result Done Stop → Type 0
Answers IsOwn IsRefusal IsAnswer held result =
    Gives (λ r. IfSome held (λ files. IsRefusal files r))
    (λ done. IsOwn done × IfSome held (λ files. IsAnswer files done)) result

-- an answer of a command that only judges: status 0 or 1, and no file is written
pub record IsJudging (done : Done) : Type 0 where
  pub status : done.status ≤ 1
  pub writes : done.writes ≡ []

-- A missing file is refused only where the count of absences rose, and one that is too long only
-- where reads took more bytes than it may have.
pub record HasRefusalCause (absent long : Type 0) (r : FileRefusal) : Type 0 where
  pub missing : r.reason ≡ reasons.Kind Missing → absent
  pub too_long : r.reason ≡ reasons.Kind TooLong → long

-- And a failure is answered only if the count of faults rose.
abbrev pub HasStopCause : (failed absent long : Type 0) → Stop → Type 0
HasStopCause failed absent long stops.Memory = Unit {0}
HasStopCause failed absent long stops.Failed = failed
HasStopCause failed absent long (stops.Refused r) = HasRefusalCause absent long r

-- A call that only reads: what the store holds stays, its counts never fall, and a stop has its
-- cause. No file that it refuses as too long has fewer bytes than the limit. A read that fails ends
-- the call, which answers it.
pub record OnlyReads {S X : Type 0} (limit : ℕ) (held : S → Option Files)
    (faults absences taken : S → ℕ) (before after : S) (result : Result X Stop) : Type 0 where
  pub same : held after ≡ held before
  pub cause : IfErr result
      (HasStopCause (Rose (faults before) (faults after)) (Rose (absences before) (absences after))
      (TookMore limit (taken before) (taken after)))
  pub failed : RoseWhere (IsErrOf result stops.Failed) (faults before) (faults after)
  pub absences_rise : absences before ≤ absences after
  pub taken_rise : TookOn (taken before) (taken after)

-- What a command's status says of the files before and after: each of its answers by its status,
-- with its files written, and each first refusal by 5, with nothing written.
pub record IsTold (IsRefusal : Files → FileRefusal → Type 0) (IsAnswer : Files → Done → Type 0)
    (Tells : ℕ → Files → Files → Type 0) : Type 0 where
  pub answered : (files : Files) (done : Done) → IsAnswer files done →
      Tells done.status files (with_files done.writes files)
  pub refused : (files : Files) (r : FileRefusal) → IsRefusal files r → Tells 5 files files
