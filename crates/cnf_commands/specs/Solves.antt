-- The command `solve CNF --proof NAME`.
use Rattle.std.specs.Prelude.{◌≡◌, ◌↔◌, ◌⊎◌, ℕ, ◌<◌, ◌≤◌, ◌^◌, Bool, if◌then◌else◌, List, [], ◌∷◌}
use Rattle.std.specs.Prelude.{◌++◌, map, length, All, Option, Some, None, Ok, bytes_eq, codes}
use Rattle.std.specs.Prelude.{decimal}
use Rattle.std.specs.List.{enumerate_from}
use Rattle.arc_base.specs.declared.refusal.Kind.TheVariants.{OutputName}
use Rattle.arc_outside.specs.Files.{Files, with_files}
use Rattle.cnf_types.specs.declared.clauses.Formula.{Formula}
use Rattle.cnf_types.specs.Dimacs.{reading}
use Rattle.cnf_types.specs.Formulas.{Satisfies, value_at}
use Rattle.arc_base.specs.TextLines.{lines}
use Rattle.proof_log.specs.declared.steps.Log.{Log}
use Rattle.proof_log.specs.declared.steps.Step.{Step}
use Rattle.proof_log.specs.Texts.{before_spaces, log_text, HasLine}
use Rattle.proof_check.specs.Knowledge.{start}
use Rattle.proof_check.specs.Logs.{IsAccepted, IsRefuting}
use Rattle.proof_check.specs.Outcomes.{steps_of}
use Rattle.clean_logs.specs.CleanLogs.{IsClean, IsSpent, additions}
use Rattle.sat_search.specs.declared.found.Found.{Found}
use Rattle.sat_search.specs.declared.found.Found.TheVariants.{Model, Refuted, Budget}
use Rattle.command_words.specs.declared.commands.SolveWords.{SolveWords}
use Rattle.run_files.specs.declared.outcome.Done.{Done}
use Rattle.run_files.specs.declared.outcome.FileRefusal.{FileRefusal}
use Rattle.run_files.specs.Limits.{proof_limit}
use Rattle.run_files.specs.Refusals.{bytes_at, refusal_of}
use Rattle.std.specs.Option.{option_or}
use Rattle.cnf_commands.specs.Formulas.{cnf_refusal}
use Rattle.cnf_commands.specs.Lrats.{IsRefuted}

-- the refusal of the proof's name, if the proof would be written over the formula
abbrev pub name_refusal : SolveWords → Option FileRefusal
name_refusal words =
    if bytes_eq words.proof words.formula
    then Some (refusal_of words.formula 0 OutputName) else None

-- the first refusal: that of the formula's file, and then that of the proof's name
abbrev pub solve_refusal : SolveWords → Files → Option FileRefusal
solve_refusal words files = option_or (cnf_refusal words.formula files) (name_refusal words)

-- this is the first refusal of the formula or the proof's name
abbrev pub IsSolveRefusal : SolveWords → Files → FileRefusal → Type 0
IsSolveRefusal words files r = solve_refusal words files ≡ Some r

-- the literal of a variable with this value: its number, after a minus sign if it is false
abbrev pub value_text : ℕ → Bool → List ℕ
value_text var value = if value then decimal var else 45 ∷ decimal var

-- the literals of the variables from 1 on with these values, each with a space after it
abbrev pub values_text : List Bool → List ℕ
values_text values = before_spaces (map (λ p. value_text p.0 p.1) (enumerate_from 1 values))

-- the text of what a search found
abbrev pub found_text : Found → List ℕ
found_text (Model values) = codes "s SATISFIABLE\nv " ++ values_text values ++ codes "0\n"
found_text Refuted = codes "s UNSATISFIABLE\n"
found_text Budget = codes "s UNKNOWN\n"

-- the status of what a search found
abbrev pub found_status : Found → ℕ
found_status (Model values) = 0
found_status Refuted = 2
found_status Budget = 3

-- an answer of the command: status 0, 2 or 3, and the proof is written and nothing else
pub record WritesProof (words : SolveWords) (done : Done) : Type 0 where
  pub status : (done.status ≡ 0) ⊎ ((done.status ≡ 2) ⊎ (done.status ≡ 3))
  pub proof : List ℕ
  pub writes : done.writes ≡ (words.proof, proof) ∷ []

-- each variable has a value, and the assignment satisfies the formula
pub record IsModel (formula : Formula) (values : List Bool) : Type 0 where
  pub one_each : length values ≡ formula.vars
  pub satisfies : Satisfies (value_at values) formula

-- The result of a search is right: the values are a model, and the log is clean, so that each
-- clause that it adds is new and none is empty; or the log adds the empty clause, and no assignment
-- satisfies the formula; or the log is spent at the limit, so that it is clean and adds exactly
-- that many clauses.
abbrev pub IsSearchResult : Formula → ℕ → Log → Found → Type 0
IsSearchResult formula limit log (Model values) =
    IsModel formula values × IsClean formula None [] log.steps
IsSearchResult formula limit log Refuted =
    IsRefuting log.steps × ((assignment : ℕ → Bool) → Satisfies assignment formula → ⊥)
IsSearchResult formula limit log Budget = IsSpent formula None [] limit log.steps

-- the log is accepted for the formula, and each of its steps has a line
pub record IsLogFor (formula : Formula) (log : Log) : Type 0 where
  pub accepted : IsAccepted (start formula None []) log.steps
  pub has_lines : All HasLine log.steps

-- The answer: what was found, in words, and the text of the search's log as the one file that is
-- written. The log adds at most as many clauses as the words allow.
pub record IsSolved (words : SolveWords) (files : Files) (done : Done) : Type 0 where
  pub held : solve_refusal words files ≡ None
  pub formula : Formula
  pub formula_is : reading (bytes_at files words.formula) ≡ Ok formula
  pub found : Found
  pub log : Log
  pub log_is : IsLogFor formula log
  pub few : additions log.steps ≤ words.conflicts
  pub is_found : IsSearchResult formula words.conflicts log found
  pub text : done.text ≡ found_text found
  pub writes : done.writes ≡ (words.proof, log_text log) ∷ []
  pub short : length (log_text log) ≤ proof_limit
  pub status : done.status ≡ found_status found

-- the formula is held, and some assignment satisfies it
pub record IsSatisfiable (words : SolveWords) (files : Files) : Type 0 where
  pub held : solve_refusal words files ≡ None
  pub formula : Formula
  pub formula_is : reading (bytes_at files words.formula) ≡ Ok formula
  pub assignment : ℕ → Bool
  pub satisfies : Satisfies assignment formula

-- the formula is held, and no assignment satisfies it
pub record IsUnsatisfiable (words : SolveWords) (files : Files) : Type 0 where
  pub held : solve_refusal words files ≡ None
  pub formula : Formula
  pub formula_is : reading (bytes_at files words.formula) ≡ Ok formula
  pub unsatisfiable : (assignment : ℕ → Bool) → Satisfies assignment formula → ⊥

-- the formula's file, or the name of the proof, is refused
pub record IsSolveRefused (words : SolveWords) (files : Files) : Type 0 where
  pub refusal : FileRefusal
  pub refused : solve_refusal words files ≡ Some refusal

-- the formula is held, and so is the text of a log that is spent for it: the log is accepted, adds
-- exactly as many clauses as the words allow, and each of them is new and none empty. A formula of
-- V variables, V at most 6, has such a log only for limits below 3^V.
pub record HoldsSpentProof (words : SolveWords) (files : Files) : Type 0 where
  pub formula : Formula
  pub formula_is : reading (bytes_at files words.formula) ≡ Ok formula
  pub steps : List Step
  pub steps_are : steps_of (lines (bytes_at files words.proof)) ≡ Some steps
  pub spent : IsSpent formula None [] words.conflicts steps
  pub variables : formula.vars ≤ 6 → words.conflicts < 3 ^ formula.vars

-- the formula is held, and after it the text of a log that is accepted for it and adds at most as
-- many clauses as the words allow
pub record HoldsLog (words : SolveWords) (before after : Files) : Type 0 where
  pub formula : Formula
  pub formula_is : reading (bytes_at before words.formula) ≡ Ok formula
  pub log : Log
  pub log_is : IsLogFor formula log
  pub few : additions log.steps ≤ words.conflicts
  pub written : after words.proof ≡ Some (log_text log)

-- What the status says of the files before and after: 0 for satisfiable, 2 for unsatisfiable, and
-- then `lrat` accepts what was written, 3 in place of either if what was written is a spent log,
-- and 5 for refused, with nothing written. The proof is written in all other cases, and all names
-- but its own hold what they held.
pub record TellsSolution (words : SolveWords) (status : ℕ) (before after : Files) : Type 0 where
  pub satisfiable : status ≡ 0 → IsSatisfiable words before
  pub unsatisfiable : status ≡ 2 →
      IsUnsatisfiable words before × IsRefuted words.formula words.proof after
  pub undecided : status ≡ 3 → HoldsSpentProof words after
  pub written : ¬ (status ≡ 5) → HoldsLog words before after
  pub kept : (name : List ℕ) → ¬ (name ≡ words.proof) → after name ≡ before name
  pub refused_exactly : (status ≡ 5) ↔ IsSolveRefused words before
  pub nothing_written : status ≡ 5 → after ≡ before
  pub zero_or_three : IsSatisfiable words before → (status ≡ 0) ⊎ (status ≡ 3)
  pub two_or_three : IsUnsatisfiable words before → (status ≡ 2) ⊎ (status ≡ 3)
  pub nothing_else : (status ≡ 0) ⊎ ((status ≡ 2) ⊎ ((status ≡ 3) ⊎ (status ≡ 5)))

-- if no assignment satisfies the formula, the log that `solve` wrote is a proof of that, and `lrat`
-- accepts it
abbrev pub SolvedIsRefuted : Type 0
SolvedIsRefuted =
    (words : SolveWords) (files : Files) (done : Done) → IsSolved words files done →
    done.status ≡ 2 → IsRefuted words.formula words.proof (with_files done.writes files)
