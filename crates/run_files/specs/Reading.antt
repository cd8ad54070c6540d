-- What the helpers that read files answer.
use Rattle.std.specs.Prelude.{◌≡◌, ◌⊎◌, ℕ, List, map, Some, None, Result, Vec}
use Rattle.std.specs.declared.alloc.Global.{Global}
use Rattle.arc_base.specs.declared.refusal.Kind.{Kind}
use Rattle.arc_base.specs.declared.refusal.Kind.TheVariants as kinds
use Rattle.arc_outside.specs.declared.fault.Fault.TheVariants as faults
use Rattle.arc_outside.specs.declared.reading.ReadAll.{ReadAll}
use Rattle.arc_outside.specs.declared.reading.ReadAll.TheVariants.{Fault, TooLong}
use Rattle.arc_outside.specs.Files.{Files}
use Rattle.run_files.specs.declared.limits.Limits.{Limits}
use Rattle.run_files.specs.declared.outcome.Stop.{Stop}
use Rattle.run_files.specs.declared.outcome.Stop.TheVariants as stops
use Rattle.run_files.specs.Answers.{Gives}
use Rattle.run_files.specs.Refusals.{bytes_at, read_refusal, refusal_of, routers_refusal}

-- the refusal of a file for this, or out of memory
abbrev pub RefusesFor : List ℕ → Kind → Stop → Type 0
RefusesFor name kind stop =
    (stop ≡ stops.Memory) ⊎ (stop ≡ stops.Refused (refusal_of name 0 kind))

-- how a command stops where a file was not read whole
abbrev pub StopsFor : List ℕ → ReadAll → Stop → Type 0
StopsFor name TooLong stop = RefusesFor name kinds.TooLong stop
StopsFor name (Fault faults.Missing) stop = RefusesFor name kinds.Missing stop
StopsFor name (Fault faults.Failed) stop = stop ≡ stops.Failed
StopsFor name (Fault faults.Memory) stop = stop ≡ stops.Memory

-- the bytes of a file that is not refused, or its refusal
abbrev pub ReadsFile : ℕ → Files → List ℕ → Result (Vec ℕ Global) Stop → Type 0
ReadsFile limit files name result =
    Gives (λ r. read_refusal limit files name ≡ Some r)
    (λ v. (read_refusal limit files name ≡ None) × (v.items ≡ bytes_at files name)) result

-- the contents of router files of which none is refused, or the first refusal
abbrev pub ReadsRouters : Limits → Files → List (List ℕ) → Result (List (List ℕ)) Stop → Type 0
ReadsRouters limits files names result =
    Gives (λ r. routers_refusal limits files names ≡ Some r)
    (λ contents. (routers_refusal limits files names ≡ None) ×
    (contents ≡ map (bytes_at files) names)) result
