-- The files that a repair leaves, after they replace the old ones.
use Rattle.std.specs.Prelude.{◌≡◌, Some}
use Rattle.std.specs.List.{AllZip}
use Rattle.arc_outside.specs.Files.{Files}
use Rattle.command_words.specs.declared.commands.RepairWords.{RepairWords}
use Rattle.repair_commands.specs.Tells.{HasCheapest}
use Rattle.verify_commands.specs.Verifies.{SaysYes}

-- later the document is as it was before the repair, and the name of each router file holds the
-- repaired text: that of its copy, or its own if there is nothing to change
pub record HoldRepaired (words : RepairWords) (before after later : Files)
    (found : HasCheapest words before after) : Type 0 where
  pub document_is : later words.document ≡ before words.document
  pub routers_are :
      AllZip (λ name text. later name ≡ Some text) found.doc.routers found.repair.new

-- if the repaired files replace the old ones, the document and its files are not refused, and the
-- network meets each policy
abbrev pub RepairedFilesAreVerified : Type 0
RepairedFilesAreVerified =
    (words : RepairWords) (before after later : Files) (found : HasCheapest words before after) →
    HoldRepaired words before after later found → SaysYes words.document later
