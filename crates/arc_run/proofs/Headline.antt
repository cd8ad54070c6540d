-- What the status of a run says, in the words of the subject.
use Rattle.std.proofs.Common.{◌≡◌, ◌<◌, ℕ, List, sym, subst, arith}
use Rattle.std.specs.Prelude.{Option, Some, None, IfSome, IsSomeAnd, option_map}
use Rattle.arc_outside.specs.Causes.{Rose}
use Rattle.arc_outside.specs.Files.{Files, with_files}
use Rattle.command_words.specs.declared.commands.Command.{Command}
use Rattle.command_words.specs.declared.commands.Command.TheVariants.{Verify, Trace, Repair, Check, Apply, Solve, Lrat, Generate, Nodes, Prefers, Recheck}
use Rattle.run_files.specs.Answers.{IsTold}
use Rattle.apply_commands.proofs.Told.{apply_told}
use Rattle.check_commands.proofs.Told.{any_check_told}
use Rattle.cnf_commands.proofs.Refuting.{lrat_told}
use Rattle.cnf_commands.proofs.SolveHeadline.{solve_told}
use Rattle.generate_commands.proofs.Told.{generate_told}
use Rattle.reach_commands.proofs.NodesTold.{nodes_told}
use Rattle.reach_commands.proofs.PrefersTold.{prefers_told}
use Rattle.reach_commands.proofs.RecheckTold.{recheck_told}
use Rattle.repair_commands.proofs.Told.{repair_told}
use Rattle.verify_commands.proofs.Traced.{trace_told}
use Rattle.verify_commands.proofs.Verified.{verify_told}
use Rattle.arc_run.specs.declared.outcome.Outcome.{Outcome}
use Rattle.arc_run.specs.declared.outcome.Outcome.TheVariants as outcomes
use Rattle.arc_run.specs.Headline.{Tells}
use Rattle.arc_run.specs.Outcomes.{IsCommandAnswer, IsDefined, IsRefusal, status_of, writes_of}
use Rattle.arc_run.specs.Runs.{Runs}

-- the status of each command says what `Tells` says
command_told : (command : Command) → IsTold (IsRefusal command) (IsCommandAnswer command) (Tells command)
command_told (Verify document) = verify_told document
command_told (Trace words) = trace_told words
command_told (Repair words) = repair_told words
command_told (Check document certificate) = any_check_told document certificate
command_told (Apply words) = apply_told words
command_told (Solve words) = solve_told words
command_told (Lrat cnf proof) = lrat_told cnf proof
command_told (Generate words) = generate_told words
command_told (Nodes words) = nodes_told words
command_told (Prefers words) = prefers_told words
command_told (Recheck words) = recheck_told words

-- an outcome, with its files written
told_of : (command : Command) (files : Files) (outcome : Outcome) → IsDefined (Some command) (Some files) outcome
    → Tells command (status_of outcome) files (with_files (writes_of outcome) files)
told_of command files outcomes.Usage defined = absurd defined
told_of command files (outcomes.Refused r) defined = (command_told command).refused files r defined
told_of command files (outcomes.Done d) defined = (command_told command).answered files d defined.1

told : (held held' : Option Files) (outcome : Outcome) (command : Command) → IsDefined (Some command) held outcome
    → held' ≡ option_map (with_files (writes_of outcome)) held → IfSome held (λ before. IsSomeAnd held' (Tells command (status_of outcome) before))
told None held' outcome command defined written = tt
told (Some files) held' outcome command defined written =
    subst (λ (o : Option Files). IsSomeAnd o (Tells command (status_of outcome) files)) (sym written) (told_of command files outcome defined)

pub tells : {absent long failed broken : Type 0} {held held' : Option Files} {put put' : Option (List ℕ)} {code : ℕ} (words : Option Command)
    → Runs words absent long failed broken held held' put put' code → (command : Command) → words ≡ Some command → code < 6
    → IfSome held (λ before. IsSomeAnd held' (Tells command code before))
tells {held = held} {held' = held'} words runs command is below =
    let end = runs.ended below in
    let P : ℕ → Type 0 = λ n. IfSome held (λ before. IsSomeAnd held' (Tells command n before)) in
    let Q : Option Command → Type 0 = λ c. IsDefined c held end.outcome in
    subst P (sym end.status_is) (told held held' end.outcome command (subst Q is end.leaves.defined) end.leaves.files)

never : Rose 0 0 → ⊥
never rose = omega arith

-- if no count can rise, there is no status of a failure outside
pub sure : {absent long : Type 0} {held held' : Option Files} {put put' : Option (List ℕ)} {code : ℕ} (command : Option Command) →
    Runs command absent long (Rose 0 0) (Rose 0 0) held held' put put' code → Runs command absent long ⊥ ⊥ held held' put put' code
sure command runs = record {
  ended = runs.ended;
  store_failed = λ h. absurd (never (runs.store_failed h).0);
  sink_failed = λ h. absurd (never (runs.sink_failed h).0);
  memory = runs.memory;
  known = runs.known;
}
