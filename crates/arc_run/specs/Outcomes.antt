-- The outcomes that the words and the files define.
use Rattle.std.specs.Prelude.{ℕ, List, [], Option, Some, None, IfSome}
use Rattle.arc_outside.specs.Files.{Files}
use Rattle.command_words.specs.declared.commands.Command.{Command}
use Rattle.command_words.specs.declared.commands.Command.TheVariants.{Verify, Trace, Repair, Check}
use Rattle.command_words.specs.declared.commands.Command.TheVariants.{Apply, Solve, Lrat, Generate}
use Rattle.command_words.specs.declared.commands.Command.TheVariants.{Nodes, Prefers, Recheck}
use Rattle.run_files.specs.declared.limits.Limits.TheVariants.{Judging}
use Rattle.run_files.specs.declared.outcome.Done.{Done}
use Rattle.run_files.specs.declared.outcome.FileRefusal.{FileRefusal}
use Rattle.run_files.specs.Answers.{HasRefusalCause, IsJudging}
use Rattle.run_inputs.specs.Counts.{IsJudgingRefusal}
use Rattle.run_files.specs.Refusals.{refusal_line}
use Rattle.apply_commands.specs.Applies.{IsApplied, IsApplyRefusal, WritesCopies}
use Rattle.check_commands.specs.RepairChecks.{IsAnyChecked, IsAnyRefusal}
use Rattle.cnf_commands.specs.Lrats.{IsJudged, IsLratRefusal}
use Rattle.cnf_commands.specs.Solves.{IsSolved, IsSolveRefusal, WritesProof}
use Rattle.generate_commands.specs.Generates.{IsGenerateRefusal, IsSummary, WritesOne}
use Rattle.repair_commands.specs.Repairs.{IsRepaired, IsRepairRefusal, WritesCertificate}
use Rattle.verify_commands.specs.Traces.{IsTraced, IsTraceRefusal}
use Rattle.verify_commands.specs.Verifies.{IsVerified}
use Rattle.reach_commands.specs.Nodes.{IsNodesAnswer, IsNodesRefusal}
use Rattle.reach_commands.specs.PreferRuns.{IsPrefersAnswer, IsPrefersRefusal}
use Rattle.reach_commands.specs.RecheckRuns.{IsRecheckAnswer, IsRecheckRefusal}
use Rattle.arc_run.specs.declared.outcome.Outcome.{Outcome}
use Rattle.arc_run.specs.declared.outcome.Outcome.TheVariants as outcomes
use Rattle.arc_run.specs.Words.{usage}

-- the first refusal of a command
abbrev pub IsRefusal : Command → Files → FileRefusal → Type 0
IsRefusal (Verify document) = IsJudgingRefusal Judging document
IsRefusal (Trace words) = IsTraceRefusal words
IsRefusal (Repair words) = IsRepairRefusal words
IsRefusal (Check document certificate) = IsAnyRefusal document certificate
IsRefusal (Apply words) = IsApplyRefusal words
IsRefusal (Solve words) = IsSolveRefusal words
IsRefusal (Lrat cnf proof) = IsLratRefusal cnf proof
IsRefusal (Generate words) = λ files. IsGenerateRefusal words
IsRefusal (Nodes words) = IsNodesRefusal words
IsRefusal (Prefers words) = IsPrefersRefusal words
IsRefusal (Recheck words) = IsRecheckRefusal words

-- what a command may answer if it is not refused
abbrev pub IsCommandAnswer : Command → Files → Done → Type 0
IsCommandAnswer (Verify document) = IsVerified document
IsCommandAnswer (Trace words) = IsTraced words
IsCommandAnswer (Repair words) = IsRepaired words
IsCommandAnswer (Check document certificate) = IsAnyChecked document certificate
IsCommandAnswer (Apply words) = IsApplied words
IsCommandAnswer (Solve words) = IsSolved words
IsCommandAnswer (Lrat cnf proof) = IsJudged cnf proof
IsCommandAnswer (Generate words) = λ files. IsSummary words
IsCommandAnswer (Nodes words) = IsNodesAnswer words
IsCommandAnswer (Prefers words) = IsPrefersAnswer words
IsCommandAnswer (Recheck words) = IsRecheckAnswer words

-- what each answer of a command is, whatever the store holds: which status it has, and which files
-- it writes
abbrev pub IsOwn : Command → Done → Type 0
IsOwn (Verify document) = IsJudging
IsOwn (Trace words) = IsJudging
IsOwn (Repair words) = WritesCertificate words
IsOwn (Check document certificate) = IsJudging
IsOwn (Apply words) = WritesCopies words
IsOwn (Solve words) = WritesProof words
IsOwn (Lrat cnf proof) = IsJudging
IsOwn (Generate words) = WritesOne words
IsOwn (Nodes words) = IsJudging
IsOwn (Prefers words) = IsJudging
IsOwn (Recheck words) = IsJudging

-- the text of an outcome
abbrev pub outcome_text : Outcome → List ℕ
outcome_text outcomes.Usage = usage
outcome_text (outcomes.Refused r) = refusal_line r
outcome_text (outcomes.Done d) = d.text

-- the files that an outcome writes, in order
abbrev pub writes_of : Outcome → List (List ℕ × List ℕ)
writes_of outcomes.Usage = []
writes_of (outcomes.Refused r) = []
writes_of (outcomes.Done d) = d.writes

-- the status of an outcome
abbrev pub status_of : Outcome → ℕ
status_of outcomes.Usage = 4
status_of (outcomes.Refused r) = 5
status_of (outcomes.Done d) = d.status

-- The defined outcomes: the usage line exactly if the words match no command, and else a command's
-- first refusal or one of its answers. Over a store that does not say what it holds, any refusal
-- and any of the command's own answers.
abbrev pub IsDefined : Option Command → Option Files → Outcome → Type 0
IsDefined None held outcomes.Usage = Unit {0}
IsDefined None held (outcomes.Refused r) = ⊥
IsDefined None held (outcomes.Done d) = ⊥
IsDefined (Some command) held outcomes.Usage = ⊥
IsDefined (Some command) held (outcomes.Refused r) =
    IfSome held (λ files. IsRefusal command files r)
IsDefined (Some command) held (outcomes.Done d) =
    IsOwn command d × IfSome held (λ files. IsCommandAnswer command files d)

-- A missing file is refused only if the count of absences rose, and one that is too long only if
-- reads returned that many bytes.
abbrev pub HasOutcomeCause : (absent long : Type 0) → Outcome → Type 0
HasOutcomeCause absent long outcomes.Usage = Unit {0}
HasOutcomeCause absent long (outcomes.Refused r) = HasRefusalCause absent long r
HasOutcomeCause absent long (outcomes.Done d) = Unit {0}
