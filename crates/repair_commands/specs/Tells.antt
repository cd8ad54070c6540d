-- What the status of `repair` says.
use Rattle.std.specs.Prelude.{◌≡◌, ℕ, ◌++◌, List, Contains}
use Rattle.std.specs.List.{AllZip}
use Rattle.arc_outside.specs.Files.{Files, with_files}
use Rattle.net_model.specs.declared.policies.Document.{Document}
use Rattle.net_model.specs.declared.rows.Network.{Network}
use Rattle.net_build.specs.declared.built.Built.{Built}
use Rattle.file_copies.specs.Outputs.{IsLeft, wrote_lines}
use Rattle.file_copies.specs.Changes.{changed_names, IsEditable}
use Rattle.command_words.specs.declared.commands.RepairWords.{RepairWords}
use Rattle.run_files.specs.declared.outcome.Done.{Done}
use Rattle.run_files.specs.declared.outcome.FileRefusal.{FileRefusal}
use Rattle.run_inputs.specs.Inputs.{contents}
use Rattle.repair_commands.specs.Outcomes.{HasRepair, HasNoRepair, KeepsOthers, ShowsCheapest}
use Rattle.repair_commands.specs.Outcomes.{ShowsNone, ShowsSpent, TellsOutcome}
use Rattle.repair_commands.specs.Repairs.{repair_lines, HasNetwork, IsRepairRefusal}

-- The cheapest repair of the network of the document and its files was found, and its certificate
-- written. The patches of the router files are left: each is held under the name of its copy, or is
-- the file as it was if there is nothing to change. All names but that of the certificate and those
-- of the copies of changed files hold what they held.
pub record HasCheapest (words : RepairWords) (before after : Files) : Type 0 where
  pub doc : Document
  pub built : Built
  pub has : HasNetwork words before doc built.net
  pub editable : IsEditable doc built (contents before doc)
  pub repair :
      ShowsCheapest words.bound words.conflicts doc built (contents before doc) (after words.proof)
  pub left : AllZip (IsLeft words.suffix before after) doc.routers repair.new
  pub kept : (name : List ℕ) → ¬ (name ≡ words.proof)
      → ¬ Contains (changed_names words.suffix doc before repair.new) name
      → after name ≡ before name

-- the cheapest repair was found and written, and the printed text has its price, its edits, and the
-- names of the written files
pub record PutsCheapest (words : RepairWords) (files : Files) (done : Done) : Type 0 where
  pub found : HasCheapest words files (with_files done.writes files)
  pub text : done.text
      ≡ repair_lines found.built.net found.repair.list found.repair.price found.repair.flags
      ++ wrote_lines done.writes

-- there is no repair of the network within the bound; the certificate of this was written, and
-- nothing else
pub record HasNone (words : RepairWords) (before after : Files) : Type 0 where
  pub doc : Document
  pub net : Network
  pub has : HasNetwork words before doc net
  pub shown : ShowsNone words.bound words.conflicts net doc (after words.proof)
  pub kept : KeepsOthers words.proof before after

-- a spent log was written, and nothing else
pub record HoldsSpentCertificate (words : RepairWords) (before after : Files) : Type 0 where
  pub doc : Document
  pub net : Network
  pub has : HasNetwork words before doc net
  pub shown : ShowsSpent words.bound words.conflicts net doc (after words.proof)
  pub kept : KeepsOthers words.proof before after

-- the document and its files have a network that has a repair within the bound
pub record CanBeRepaired (words : RepairWords) (files : Files) : Type 0 where
  pub doc : Document
  pub net : Network
  pub has : HasNetwork words files doc net
  pub repair : HasRepair words.bound net doc

-- the document and its files have a network that has no repair within the bound
pub record CannotBeRepaired (words : RepairWords) (files : Files) : Type 0 where
  pub doc : Document
  pub net : Network
  pub has : HasNetwork words files doc net
  pub none : HasNoRepair words.bound net doc

-- the document, a name of an output, the router files, their network or a count is refused
pub record IsRepairRefused (words : RepairWords) (files : Files) : Type 0 where
  pub refusal : FileRefusal
  pub refused : IsRepairRefusal words files refusal

-- what the status of `repair` says of the files before and after
abbrev pub TellsRepair : RepairWords → ℕ → Files → Files → Type 0
TellsRepair words status before after =
    TellsOutcome (HasCheapest words before after) (HasNone words before after)
    (HoldsSpentCertificate words before after) (IsRepairRefused words before)
    (CanBeRepaired words before) (CannotBeRepaired words before) status before after
