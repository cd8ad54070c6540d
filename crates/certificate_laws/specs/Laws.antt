-- `check` accepts what `verify` printed, and what `repair` and `generate` wrote.
use Rattle.std.specs.Prelude.{◌≡◌, ◌⊎◌, ℕ, List, map, Some}
use Rattle.arc_outside.specs.Files.{Files, with_files}
use Rattle.net_gen.specs.declared.generating.Generated.{Generated}
use Rattle.generated_network_laws.specs.Laws.{IsGeneratedWithin}
use Rattle.command_words.specs.declared.commands.GenerateWords.{GenerateWords}
use Rattle.command_words.specs.declared.commands.RepairWords.{RepairWords}
use Rattle.run_files.specs.declared.outcome.Done.{Done}
use Rattle.run_inputs.specs.Inputs.{HoldsDocument, HoldTheSame}
use Rattle.repair_commands.specs.Repairs.{IsRepaired}
use Rattle.generate_commands.specs.Generates.{IsSummary}
use Rattle.check_commands.specs.ReportChecks.{IsAcceptedReport}
use Rattle.check_commands.specs.Tells.{IsRepairAccepted}
use Rattle.verify_commands.specs.Verifies.{IsVerified}

-- the text that `verify` printed is an accepted certificate once it is saved under a name, if the
-- document and its router files are unchanged
abbrev pub VerifiedIsAccepted : Type 0
VerifiedIsAccepted =
    (document certificate : List ℕ) (before after : Files) (done : Done) →
    IsVerified document before done → HoldTheSame document before after
    → after certificate ≡ Some done.text → IsAcceptedReport document certificate after

-- the certificate that `repair` wrote, of a repair or that there is none, is accepted whatever name
-- it is saved under, if the document and its router files are unchanged
abbrev pub RepairedIsAccepted : Type 0
RepairedIsAccepted =
    (words : RepairWords) (certificate : List ℕ) (before after : Files) (done : Done) →
    IsRepaired words before done →
    (done.status ≡ 0) ⊎ (done.status ≡ 2) → HoldTheSame words.document before after →
    after certificate ≡ with_files done.writes before words.proof →
    IsRepairAccepted words.document certificate after

-- the certificate that `repair` wrote is accepted among the files that the command left
abbrev pub LeftIsAccepted : Type 0
LeftIsAccepted =
    (words : RepairWords) (before : Files) (done : Done) → IsRepaired words before done →
    (done.status ≡ 0) ⊎ (done.status ≡ 2) →
    IsRepairAccepted words.document words.proof (with_files done.writes before)

-- the generated network is written to files: this name holds its document, and the name of each
-- router file that file's text
pub record IsLaidOut (made : Generated) (document : List ℕ) (files : Files) : Type 0 where
  pub document_is : HoldsDocument document files made.doc
  pub routers_are : map files made.doc.routers ≡ map Some made.files

-- the certificate that `generate` wrote, of a repair or that there is none, is accepted whatever
-- name it is saved under, once the generated network is written to files, whatever else those files
-- hold
abbrev pub GeneratedIsAccepted : Type 0
GeneratedIsAccepted =
    (words : GenerateWords) (made : Generated) (document certificate : List ℕ)
    (before files : Files) (done : Done) → IsSummary words done →
    (done.status ≡ 0) ⊎ (done.status ≡ 2) → IsGeneratedWithin words.number made →
    IsLaidOut made document files → files certificate ≡ with_files done.writes before words.proof →
    IsRepairAccepted document certificate files
