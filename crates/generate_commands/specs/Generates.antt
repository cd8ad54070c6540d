-- The command `generate N --proof NAME`: what it answers, and what it would be refused for.
use Rattle.std.specs.Prelude.{◌≡◌, ◌⊎◌, ℕ, ◌≤◌, Bool, List, [], ◌∷◌, ◌++◌, length, codes}
use Rattle.arc_base.specs.declared.limits.TheConstants.{EDITED_ENTRY_LIMIT, DEFAULT_PRICE}
use Rattle.arc_base.specs.declared.limits.TheConstants.{DEFAULT_CONFLICTS}
use Rattle.arc_base.specs.declared.refusal.Kind.TheVariants.{Limit}
use Rattle.arc_base.specs.declared.refusal.LimitKind.{LimitKind}
use Rattle.net_model.specs.declared.policies.Document.{Document}
use Rattle.net_model.specs.declared.rows.Network.{Network}
use Rattle.net_build.specs.declared.built.Built.{Built}
use Rattle.net_build.specs.Networks.{IsBuiltWithin}
use Rattle.net_gen.specs.declared.generating.Generated.{Generated}
use Rattle.net_gen.specs.Generated.{IsGenerated}
use Rattle.net_model.specs.Validity.{IsValid}
use Rattle.edit_list.specs.declared.claims.Claim.TheVariants.{Repaired, NoRepair}
use Rattle.edit_list.specs.declared.edit_kinds.Edit.{Edit}
use Rattle.edit_list.specs.declared.edit_kinds.EditFault.TheVariants as faults
use Rattle.edit_list.specs.After.{IsAfter}
use Rattle.edit_list.specs.Prices.{chosen_of}
use Rattle.policy_report.specs.Certificates.{budget_text, certificate_text}
use Rattle.arc_repair.specs.declared.answer.Answer.{Answer}
use Rattle.arc_repair.specs.declared.answer.Answer.TheVariants.{Done as Claimed, Budget}
use Rattle.arc_repair.specs.Answers.{IsRepairFault}
use Rattle.file_copies.specs.Changes.{IsEditable}
use Rattle.command_words.specs.declared.commands.GenerateWords.{GenerateWords}
use Rattle.file_copies.specs.Outputs.{wrote_lines}
use Rattle.run_files.specs.declared.outcome.Done.{Done}
use Rattle.run_files.specs.declared.outcome.FileRefusal.{FileRefusal}
use Rattle.run_files.specs.Limits.{proof_limit}
use Rattle.run_files.specs.Refusals.{refusal_of}
use Rattle.repair_commands.specs.Repairs.{IsAnswered}
use Rattle.generate_commands.specs.declared.tallies.Tally.{Tally}
use Rattle.generate_commands.specs.Summaries.{given_up_line, made_line, none_line, repair_line}
use Rattle.generate_commands.specs.Summaries.{tally_line}
use Rattle.generate_commands.specs.Tallies.{IsTally}

-- the bound on the price that `repair` has by default
abbrev pub default_bound : ℕ
default_bound = DEFAULT_PRICE

-- the limit of conflicts that `repair` has by default
abbrev pub default_conflicts : ℕ
default_conflicts = DEFAULT_CONFLICTS

-- what a refusal calls the document, which is no file
abbrev pub document_name : List ℕ
document_name = codes "net.json"

-- the document and the router files of a network of this many routers, and what is built from them
pub record IsMadeNetwork (words : GenerateWords) (made : Generated) (built : Built) : Type 0 where
  pub generated : IsGenerated words.number made
  pub is_built : IsBuiltWithin [] EDITED_ENTRY_LIMIT made.doc made.files built

-- the certificate of an answer of the repair
abbrev pub certificate_of : Network → Document → List Edit → Answer → List ℕ
certificate_of net doc list (Claimed claim log) = certificate_text net doc list claim log
certificate_of net doc list (Budget log) = budget_text default_conflicts default_bound log

-- the status of an answer
abbrev pub status_of : Answer → ℕ
status_of (Claimed (Repaired price bound flags verdicts) log) = 0
status_of (Claimed (NoRepair bound) log) = 2
status_of (Budget log) = 3

-- the lines of a repair: its price and its number of edits, and how many policies the network after
-- these edits meets, how many it breaks, and how many are not clear in it
pub record TellsAfter (net : Network) (doc : Document) (list : List Edit) (price : ℕ)
    (flags : List Bool) (lines : List ℕ) : Type 0 where
  pub after : Network
  pub is_after : IsAfter net (chosen_of list flags) after
  pub tally : Tally
  pub is_tally : IsTally after doc.policies tally
  pub lines_are :
      lines ≡ repair_line price (length (chosen_of list flags)) ++ tally_line (codes "after") tally

-- the lines of an answer
abbrev pub TellsAnswer : Network → Document → List Edit → Answer → List ℕ → Type 0
TellsAnswer net doc list (Claimed (Repaired price bound flags verdicts) log) lines =
    TellsAfter net doc list price flags lines
TellsAnswer net doc list (Claimed (NoRepair bound) log) lines = lines ≡ none_line
TellsAnswer net doc list (Budget log) lines = lines ≡ given_up_line

-- The answer: what was made; how many of its policies the network meets, how many it breaks, and
-- how many are not clear in it; and the answer of its repair, one of those that `repair` gives by
-- default. The certificate is written, and nothing else.
pub record IsSummary (words : GenerateWords) (done : Done) : Type 0 where
  pub made : Generated
  pub built : Built
  pub is_made : IsMadeNetwork words made built
  pub editable : IsEditable made.doc built made.files
  pub list : List Edit
  pub answer : Answer
  pub answered : IsAnswered default_bound default_conflicts built.net made.doc list answer
  pub tally : Tally
  pub is_tally : IsTally built.net made.doc.policies tally
  pub lines : List ℕ
  pub tells : TellsAnswer built.net made.doc list answer lines
  pub writes : done.writes ≡ (words.proof, certificate_of built.net made.doc list answer) ∷ []
  pub short : length (certificate_of built.net made.doc list answer) ≤ proof_limit
  pub text :
      done.text ≡ (made_line words.number ++ (tally_line (codes "verdicts") tally ++ lines)) ++
      wrote_lines done.writes
  pub status : done.status ≡ status_of answer

-- an answer of the command: status 0, 2 or 3, and the certificate alone is written
pub record WritesOne (words : GenerateWords) (done : Done) : Type 0 where
  pub status : (done.status ≡ 0) ⊎ ((done.status ≡ 2) ⊎ (done.status ≡ 3))
  pub certificate : List ℕ
  pub writes : done.writes ≡ (words.proof, certificate) ∷ []

-- what the command would be refused for: the classes of what it made, its edits, or the variables
-- or literals of its formula are too many
pub record IsGenerateRefusal (words : GenerateWords) (r : FileRefusal) : Type 0 where
  pub made : Generated
  pub built : Built
  pub is_made : IsMadeNetwork words made built
  pub valid : IsValid built.net
  pub what : LimitKind
  pub count : ℕ
  pub fault : IsRepairFault built.net made.doc default_bound (faults.Limit what count)
  pub told : r ≡ refusal_of document_name 0 (Limit what count)
