-- What the status of `generate` says.
use Rattle.std.specs.Prelude.{ℕ}
use Rattle.arc_outside.specs.Files.{Files}
use Rattle.net_build.specs.declared.built.Built.{Built}
use Rattle.net_gen.specs.declared.generating.Generated.{Generated}
use Rattle.command_words.specs.declared.commands.GenerateWords.{GenerateWords}
use Rattle.run_files.specs.declared.outcome.FileRefusal.{FileRefusal}
use Rattle.repair_commands.specs.Outcomes.{HasRepair, HasNoRepair, KeepsOthers, ShowsCheapest}
use Rattle.repair_commands.specs.Outcomes.{ShowsNone, ShowsSpent, TellsOutcome}
use Rattle.generate_commands.specs.Generates.{IsGenerateRefusal, IsMadeNetwork, default_bound}
use Rattle.generate_commands.specs.Generates.{default_conflicts}

-- the cheapest repair of the generated network was found; its certificate was written, and nothing
-- else
pub record GeneratesCheapest (words : GenerateWords) (before after : Files) : Type 0 where
  pub made : Generated
  pub built : Built
  pub is_made : IsMadeNetwork words made built
  pub repair : ShowsCheapest default_bound default_conflicts made.doc built made.files
      (after words.proof)
  pub kept : KeepsOthers words.proof before after

-- there is no repair of the generated network within the bound; the certificate of this was
-- written, and nothing else
pub record GeneratesNone (words : GenerateWords) (before after : Files) : Type 0 where
  pub made : Generated
  pub built : Built
  pub is_made : IsMadeNetwork words made built
  pub shown : ShowsNone default_bound default_conflicts built.net made.doc (after words.proof)
  pub kept : KeepsOthers words.proof before after

-- a spent log was written, and nothing else
pub record GeneratesSpentCertificate (words : GenerateWords) (before after : Files) : Type 0 where
  pub made : Generated
  pub built : Built
  pub is_made : IsMadeNetwork words made built
  pub shown : ShowsSpent default_bound default_conflicts built.net made.doc (after words.proof)
  pub kept : KeepsOthers words.proof before after

-- the generated network has a repair within the bound
pub record GeneratedCanBeRepaired (words : GenerateWords) : Type 0 where
  pub made : Generated
  pub built : Built
  pub is_made : IsMadeNetwork words made built
  pub repair : HasRepair default_bound built.net made.doc

-- the generated network has no repair within the bound
pub record GeneratedCannotBeRepaired (words : GenerateWords) : Type 0 where
  pub made : Generated
  pub built : Built
  pub is_made : IsMadeNetwork words made built
  pub none : HasNoRepair default_bound built.net made.doc

-- the generated network is too large to be repaired
pub record IsGenerateRefused (words : GenerateWords) : Type 0 where
  pub refusal : FileRefusal
  pub refused : IsGenerateRefusal words refusal

-- what the status of `generate` says of the files before and after
abbrev pub TellsGenerate : GenerateWords → ℕ → Files → Files → Type 0
TellsGenerate words status before after =
    TellsOutcome (GeneratesCheapest words before after) (GeneratesNone words before after)
    (GeneratesSpentCertificate words before after) (IsGenerateRefused words)
    (GeneratedCanBeRepaired words) (GeneratedCannotBeRepaired words) status before after
