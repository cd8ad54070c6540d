-- The command `repair DOC --out SUFFIX --proof NAME [--max-price N] [--conflicts N]`: its first
-- refusal and its answer.
use Rattle.std.specs.Prelude.{◌≡◌, ◌⊎◌, ℕ, ◌≤◌, Bool, true, false, List, [], ◌∷◌, ◌++◌, length, All}
use Rattle.std.specs.Prelude.{codes, decimal}
use Rattle.arc_base.specs.declared.refusal.Kind.TheVariants.{Limit, OutputName}
use Rattle.arc_base.specs.declared.refusal.LimitKind.{LimitKind}
use Rattle.arc_outside.specs.Files.{Files}
use Rattle.net_model.specs.declared.policies.Document.{Document}
use Rattle.net_model.specs.declared.rows.Network.{Network}
use Rattle.net_model.specs.Validity.{IsValid}
use Rattle.net_build.specs.declared.built.Built.{Built}
use Rattle.clean_logs.specs.CleanLogs.{additions}
use Rattle.edit_list.specs.declared.claims.Claim.{Claim}
use Rattle.edit_list.specs.declared.claims.Claim.TheVariants.{Repaired, NoRepair}
use Rattle.edit_list.specs.declared.edit_kinds.Edit.{Edit}
use Rattle.edit_list.specs.declared.edit_kinds.EditFault.TheVariants as faults
use Rattle.edit_list.specs.EditLists.{AreEdits}
use Rattle.edit_list.specs.Prices.{chosen_of, none_of}
use Rattle.proof_log.specs.declared.steps.Log.{Log}
use Rattle.proof_log.specs.Texts.{HasLine}
use Rattle.policy_report.specs.Certificates.{budget_text, certificate_text}
use Rattle.policy_report.specs.Edits.{edit_lines}
use Rattle.arc_repair.specs.declared.answer.Answer.{Answer}
use Rattle.arc_repair.specs.declared.answer.Answer.TheVariants.{Done as Claimed, Budget}
use Rattle.arc_repair.specs.Answers.{AnswersFew, IsRepairAnswer, IsRepairFault, IsUntouched}
use Rattle.arc_repair.specs.Answers.{KeepsLimits, answer_steps}
use Rattle.arc_repair.specs.Repairs.{Mends}
use Rattle.file_copies.specs.Outputs.{clashes, copy_names, wrote_lines, IsCopyName}
use Rattle.file_copies.specs.Changes.{Changes, IsEditable}
use Rattle.command_words.specs.declared.commands.RepairWords.{RepairWords}
use Rattle.run_files.specs.declared.limits.Limits.TheVariants.{Editing}
use Rattle.run_files.specs.declared.outcome.Done.{Done}
use Rattle.run_files.specs.declared.outcome.FileRefusal.{FileRefusal}
use Rattle.run_files.specs.Limits.{proof_limit}
use Rattle.run_files.specs.Refusals.{refusal_of}
use Rattle.run_inputs.specs.Inputs.{HoldsDocument, HoldsInput, IsDocumentRefusal, IsFilesRefusal}
use Rattle.run_inputs.specs.Inputs.{contents}

-- the files that the command may write: a copy of each router file, and the certificate
abbrev pub output_names : RepairWords → Document → List (List ℕ)
output_names words doc = copy_names words.suffix doc.routers ++ words.proof ∷ []

-- whether one of these outputs has the name of a file that is read, or of another output
abbrev pub has_clash : RepairWords → Document → Bool
has_clash words doc = clashes (words.document ∷ doc.routers) (output_names words doc)

-- the document is held, and the name of an output is taken
pub record RefusesOutputs (words : RepairWords) (files : Files) (r : FileRefusal) : Type 0 where
  pub doc : Document
  pub document_is : HoldsDocument words.document files doc
  pub clash : has_clash words doc ≡ true
  pub told : r ≡ refusal_of words.document 0 OutputName

-- no name is taken, and the router files or their network are refused
pub record RefusesSources (words : RepairWords) (files : Files) (r : FileRefusal) : Type 0 where
  pub doc : Document
  pub document_is : HoldsDocument words.document files doc
  pub free : has_clash words doc ≡ false
  pub refused : IsFilesRefusal Editing [] words.document files r

-- no name is taken, and the document and its files have a network
pub record HasNetwork (words : RepairWords) (files : Files) (doc : Document)
    (net : Network) : Type 0 where
  pub free : has_clash words doc ≡ false
  pub input : HoldsInput Editing [] words.document files doc net

-- the document and its files have a network, and its classes, its edits or the variables or
-- literals of its formula are too many
pub record RefusesCounts (words : RepairWords) (files : Files) (r : FileRefusal) : Type 0 where
  pub doc : Document
  pub net : Network
  pub has : HasNetwork words files doc net
  pub valid : IsValid net
  pub what : LimitKind
  pub count : ℕ
  pub fault : IsRepairFault net doc words.bound (faults.Limit what count)
  pub told : r ≡ refusal_of words.document 0 (Limit what count)

-- The first refusal: of the document; of the names of the outputs; of the router files and their
-- network; or of a count.
abbrev pub IsRepairRefusal : RepairWords → Files → FileRefusal → Type 0
IsRepairRefusal words files r =
    IsDocumentRefusal words.document files r
    ⊎ (RefusesOutputs words files r ⊎ (RefusesSources words files r ⊎ RefusesCounts words files r))

-- what is printed and written: the lines of the answer, the copies of changed files, the
-- certificate, and the status
pub record Writes (words : RepairWords) (told : List ℕ) (changed : List (List ℕ × List ℕ))
    (certificate : List ℕ) (status : ℕ) (done : Done) : Type 0 where
  pub writes : done.writes ≡ changed ++ (words.proof, certificate) ∷ []
  pub text : done.text ≡ told ++ wrote_lines done.writes
  pub short : length certificate ≤ proof_limit
  pub status_is : done.status ≡ status

-- the lines of a repair: its price, and its edits
abbrev pub repair_lines : Network → List Edit → ℕ → List Bool → List ℕ
repair_lines net list price flags =
    codes "repaired " ++ decimal price ++ codes "\n" ++ edit_lines net (chosen_of list flags)

-- a repair prints its price and its edits, and writes copies of the files that these change, and
-- its certificate
pub record WritesRepair (words : RepairWords) (doc : Document) (built : Built)
    (olds : List (List ℕ)) (list : List Edit) (price : ℕ)
    (flags : List Bool) (certificate : List ℕ) (done : Done) : Type 0 where
  pub changed : List (List ℕ × List ℕ)
  pub changes : Changes words.suffix doc built olds (chosen_of list flags) changed
  pub writes : Writes words (repair_lines built.net list price flags) changed certificate 0 done

-- a claim of a repair prints and writes this repair; a claim that there is none prints its bound,
-- and writes its certificate
abbrev pub WritesClaim : RepairWords → Document → Built → List (List ℕ) → List Edit →
    Claim → Log → Done → Type 0
WritesClaim words doc built olds list (Repaired price bound flags verdicts) log done =
    WritesRepair words doc built olds list price flags
    (certificate_text built.net doc list (Repaired price bound flags verdicts) log) done
WritesClaim words doc built olds list (NoRepair bound) log done =
    Writes words (codes "none " ++ decimal bound ++ codes "\n") []
    (certificate_text built.net doc list (NoRepair bound) log) 2 done

-- an answer prints and writes its claim; a spent log prints the limit of conflicts, and is written
-- as it is
abbrev pub WritesAnswer : RepairWords → Document → Built → List (List ℕ) → List Edit →
    Answer → Done → Type 0
WritesAnswer words doc built olds list (Claimed claim log) done =
    WritesClaim words doc built olds list claim log done
WritesAnswer words doc built olds list (Budget log) done =
    Writes words (codes "budget " ++ decimal words.conflicts ++ codes "\n") []
    (budget_text words.conflicts words.bound log) 3 done

-- an answer of the command: status 0, 2 or 3; copies of router files are written after 0 only, and
-- the last file that is written is the certificate
pub record WritesCertificate (words : RepairWords) (done : Done) : Type 0 where
  pub status : (done.status ≡ 0) ⊎ ((done.status ≡ 2) ⊎ (done.status ≡ 3))
  pub changed : List (List ℕ × List ℕ)
  pub copies : All (λ write. IsCopyName words.suffix write.0) changed
  pub only : (done.status ≡ 0) ⊎ (changed ≡ [])
  pub certificate : List ℕ
  pub writes : done.writes ≡ changed ++ (words.proof, certificate) ∷ []

-- the answer of a repair of the network, within a bound on its price and a limit of conflicts: over
-- its edits, which are few, as is its formula; each verdict shows few sides or paths. A network
-- that meets the document is left as it is.
pub record IsAnswered (bound conflicts : ℕ) (net : Network) (doc : Document) (list : List Edit)
    (answer : Answer) : Type 0 where
  pub edits : AreEdits net doc list
  pub limits : KeepsLimits net doc list bound
  pub is_answer : IsRepairAnswer net doc list bound conflicts answer
  pub lines : All HasLine (answer_steps answer)
  pub few : AnswersFew answer
  pub within : additions (answer_steps answer) ≤ conflicts
  pub untouched : Mends net doc list (none_of list) → IsUntouched list answer

-- The answer for the network and its edits, with what it writes.
pub record IsRepaired (words : RepairWords) (files : Files) (done : Done) : Type 0 where
  pub doc : Document
  pub built : Built
  pub has : HasNetwork words files doc built.net
  pub editable : IsEditable doc built (contents files doc)
  pub list : List Edit
  pub answer : Answer
  pub answered : IsAnswered words.bound words.conflicts built.net doc list answer
  pub writes : WritesAnswer words doc built (contents files doc) list answer done
