-- A run that ends with a defined outcome.
use Rattle.std.proofs.Common.{◌≡◌, ℕ, ◌<◌, ◌≤◌, ◌⊎◌, inl, inr, List, length, take, refl, sym, subst, arith}
use Rattle.std.specs.Prelude.{Option, Some, None, IsSome}
use Rattle.arc_outside.specs.Files.{Files, WhereTold}
use Rattle.command_words.specs.declared.commands.Command.{Command}
use Rattle.arc_run.specs.declared.outcome.Outcome.{Outcome}
use Rattle.arc_run.specs.declared.outcome.Outcome.TheVariants as outcomes
use Rattle.arc_run.specs.Outcomes.{IsDefined, HasOutcomeCause, outcome_text, writes_of, status_of}
use Rattle.arc_run.specs.Runs.{Runs, LeavesOutcome, StopsBefore, StopsInText, PartWritten, FailsWithin, WereWritten, WasPut}

-- nothing was written
unwritten : (command : Option Command) (held held' : Option Files) → held' ≡ held → WhereTold (PartWritten command) held held'
unwritten command None held' same = subst (λ (o : Option Files). WhereTold (PartWritten command) None o) (sym same) tt
unwritten command (Some files) held' same = subst (λ (o : Option Files). WhereTold (PartWritten command) (Some files) o) (sym same) (inl refl)

-- a write of the outcome failed
part_written : (command : Option Command) (outcome : Outcome) (held held' : Option Files) → IsDefined command held outcome →
    WhereTold (FailsWithin (writes_of outcome)) held held' → WhereTold (PartWritten command) held held'
part_written command outcome None None defined fails = tt
part_written command outcome None (Some after) defined fails = absurd fails
part_written command outcome (Some before) None defined fails = absurd fails
part_written command outcome (Some before) (Some after) defined fails = inr (outcome, defined, fails)

-- only a command's outcome writes
command_writes : (command : Option Command) (held : Option Files) (outcome : Outcome) → IsDefined command held outcome → 0 < length (writes_of outcome) → IsSome command
command_writes (Some command) held outcome defined some = refl
command_writes None held outcomes.Usage defined some = absurd (omega arith)
command_writes None held (outcomes.Refused r) defined some = absurd defined
command_writes None held (outcomes.Done d) defined some = absurd defined

-- what caused the outcome when it was found also causes it at the end of the run
later_cause : {then now short long : Type 0} (outcome : Outcome) → (then → now) → (short → long) → HasOutcomeCause then short outcome → HasOutcomeCause now long outcome
later_cause outcomes.Usage later longer cause = tt
later_cause (outcomes.Refused r) later longer cause = record { missing = λ is. later (cause.missing is); too_long = λ is. longer (cause.too_long is) }
later_cause (outcomes.Done d) later longer cause = tt

module _ {absent long : Type 0} (command : Option Command) (outcome : Outcome) (held now held' : Option Files) (put put' : Option (List ℕ)) (defined : IsDefined command held outcome)
    (cause : HasOutcomeCause absent long outcome) (same : now ≡ held) where
  leaves : (text : List ℕ) → WereWritten (writes_of outcome) now held' → WasPut text put put' → LeavesOutcome command absent long held held' put put' outcome text
  leaves text written was_put = record {
    defined = defined;
    cause = cause;
    files = subst (λ (o : Option Files). WereWritten (writes_of outcome) o held') same written;
    sink = was_put;
  }

  in_text : WereWritten (writes_of outcome) now held' → (count : ℕ) × WasPut (take count (outcome_text outcome)) put put' → StopsInText command absent long held held' put put'
  in_text written was_put = record { outcome = outcome; count = was_put.0; leaves = leaves (take was_put.0 (outcome_text outcome)) written was_put.1 }

module _ (command : Option Command) (outcome : Outcome) (held now held' : Option Files) (put put' : Option (List ℕ)) (defined : IsDefined command held outcome) (same : now ≡ held) where
  before : WhereTold (FailsWithin (writes_of outcome)) now held' → put' ≡ put → StopsBefore command held held' put put'
  before fails none = record {
    files = part_written command outcome held held' defined (subst (λ (o : Option Files). WhereTold (FailsWithin (writes_of outcome)) o held') same fails);
    sink = none;
  }

-- what a run leaves that came to its end
pub left : {then absent short long : Type 0} (command : Option Command) (outcome : Outcome) (held now held' : Option Files) (put put' : Option (List ℕ)) →
    IsDefined command held outcome → (then → absent) → (short → long) → HasOutcomeCause then short outcome → now ≡ held →
    WereWritten (writes_of outcome) now held' → WasPut (outcome_text outcome) put put' → LeavesOutcome command absent long held held' put put' outcome (outcome_text outcome)
left command outcome held now held' put put' defined later longer cause same written was_put =
    leaves command outcome held now held' put put' defined (later_cause outcome later longer cause) same (outcome_text outcome) written was_put

-- what the ending of a run leaves, given the store and the sink as they were at first
pub finished : {then absent short long failed broken : Type 0} (command : Option Command) (outcome : Outcome) (held now held' : Option Files) (put put' : Option (List ℕ)) (code : ℕ) →
    IsDefined command held outcome → (then → absent) → (short → long) → HasOutcomeCause then short outcome → now ≡ held →
    (code < 6 → (code ≡ status_of outcome) × WereWritten (writes_of outcome) now held' × WasPut (outcome_text outcome) put put') →
    (code ≡ 6 → failed × (0 < length (writes_of outcome)) × WhereTold (FailsWithin (writes_of outcome)) now held' × (put' ≡ put)) →
    (code ≡ 7 → broken × WereWritten (writes_of outcome) now held' × ((count : ℕ) × WasPut (take count (outcome_text outcome)) put put')) →
    (code ≡ 8 → (WhereTold (FailsWithin (writes_of outcome)) now held' × (put' ≡ put)) ⊎ (WereWritten
    (writes_of outcome) now held' × ((count : ℕ) × WasPut (take count (outcome_text outcome)) put put'))) →
    code ≤ 8 → Runs command absent long failed broken held held' put put' code
finished command outcome held now held' put put' code defined later longer cause same ended store_failed sink_failed memory known =
    let cause_now = later_cause outcome later longer cause in
    record {
      ended = λ h. let e = ended h in record { outcome = outcome; status_is = e.0; leaves = leaves command outcome held now held' put put' defined cause_now same (outcome_text outcome) e.1 e.2 };
      store_failed = λ h. let e = store_failed h in (e.0, command_writes command held outcome defined e.1, before command outcome held now held' put put' defined same e.2 e.3);
      sink_failed = λ h. let e = sink_failed h in (e.0, in_text command outcome held now held' put put' defined cause_now same e.1 e.2);
      memory = λ h. elim (memory h) [
        | inl e ↦ inl (before command outcome held now held' put put' defined same e.0 e.1)
        | inr e ↦ inr (in_text command outcome held now held' put put' defined cause_now same e.0 e.1)
      ];
      known = known;
    }

some : (command : Option Command) → (command ≡ None → ⊥) → IsSome command
some None named = absurd (named refl)
some (Some command) named = refl

-- the store failed before there was an outcome
pub failed_before : {absent long failed broken : Type 0} (command : Option Command) (held held' : Option Files) (put : Option (List ℕ)) → failed → (command ≡ None → ⊥) → held' ≡ held
    → Runs command absent long failed broken held held' put put 6
failed_before command held held' put rose named same = record {
  ended = λ h. absurd (omega (arith, h));
  store_failed = λ e. (rose, some command named, record { files = unwritten command held held' same; sink = refl });
  sink_failed = λ e. absurd (omega (arith, e));
  memory = λ e. absurd (omega (arith, e));
  known = omega arith;
}
