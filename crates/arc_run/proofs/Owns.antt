-- The statuses of outcomes: a command's own are at most 3, and 4 means that there is no command.
use Rattle.std.proofs.Common.{◌≤◌, inl, inr, ◌≡◌, ◌∙◌, ◌⊎◌, ℕ, List, refl, sym, arith}
use Rattle.std.specs.Prelude.{Option, Some, None}
use Rattle.arc_outside.specs.Files.{Files}
use Rattle.command_words.specs.declared.commands.Command.{Command}
use Rattle.command_words.specs.declared.commands.Command.TheVariants.{Verify, Trace, Repair, Check, Apply, Solve, Lrat, Generate, Nodes, Prefers, Recheck}
use Rattle.run_files.specs.declared.outcome.Done.{Done}
use Rattle.arc_run.specs.declared.outcome.Outcome.{Outcome}
use Rattle.arc_run.specs.declared.outcome.Outcome.TheVariants as outcomes
use Rattle.arc_run.specs.Outcomes.{IsDefined, IsOwn, status_of}
use Rattle.arc_run.specs.Runs.{Runs}

of_three : (n : ℕ) → (n ≡ 0) ⊎ ((n ≡ 2) ⊎ (n ≡ 3)) → n ≤ 3
of_three n (inl e) = omega (arith, e)
of_three n (inr (inl e)) = omega (arith, e)
of_three n (inr (inr e)) = omega (arith, e)

pub own_small : (command : Command) (d : Done) → IsOwn command d → d.status ≤ 3
own_small (Verify document) d own = omega (arith, own.status)
own_small (Trace words) d own = omega (arith, own.status)
own_small (Repair words) d own = of_three d.status own.status
own_small (Check document certificate) d own = omega (arith, own.status)
own_small (Apply words) d own = omega (arith, own.status)
own_small (Solve words) d own = of_three d.status own.status
own_small (Lrat cnf proof) d own = omega (arith, own.status)
own_small (Generate words) d own = of_three d.status own.status
own_small (Nodes words) d own = omega (arith, own.status)
own_small (Prefers words) d own = omega (arith, own.status)
own_small (Recheck words) d own = omega (arith, own.status)

four : (command : Option Command) (held : Option Files) (outcome : Outcome) → IsDefined command held outcome → status_of outcome ≡ 4 → command ≡ None
four None held outcome defined is = refl
four (Some command) held outcomes.Usage defined is = absurd defined
four (Some command) held (outcomes.Refused r) defined is = absurd (omega (arith, is))
four (Some command) held (outcomes.Done d) defined is = absurd (omega (arith, own_small command d defined.0, is))

-- a run that ends with 4 has no command
pub usage_only : {absent long failed broken : Type 0} {held held' : Option Files} {put put' : Option (List ℕ)} {code : ℕ} (command : Option Command)
    → Runs command absent long failed broken held held' put put' code → code ≡ 4 → command ≡ None
usage_only {held = held} command runs is =
    let end = runs.ended (omega (arith, is)) in
    four command held end.outcome end.leaves.defined (sym end.status_is ∙ is)
