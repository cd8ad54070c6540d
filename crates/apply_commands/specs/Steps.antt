-- The answers of the steps of `apply`.
use Rattle.std.specs.Prelude.{◌≡◌, ◌⊎◌, ℕ, List, Result, Ok, Err}
use Rattle.arc_outside.specs.Files.{Files}
use Rattle.net_model.specs.declared.policies.Document.{Document}
use Rattle.net_model.specs.declared.rows.Network.{Network}
use Rattle.net_build.specs.declared.built.Built.{Built}
use Rattle.edit_list.specs.declared.edit_kinds.Edit.{Edit}
use Rattle.edit_list.specs.Determined.{IsCountable}
use Rattle.edit_reader.specs.EditFiles.{line_texts, chosen_by, AreEditLines}
use Rattle.file_copies.specs.Outputs.{wrote_lines}
use Rattle.file_copies.specs.Changes.{Changes}
use Rattle.command_words.specs.declared.commands.ApplyWords.{ApplyWords}
use Rattle.run_files.specs.declared.outcome.Done.{Done}
use Rattle.run_files.specs.declared.outcome.Stop.{Stop}
use Rattle.run_files.specs.declared.outcome.Stop.TheVariants as stops
use Rattle.run_files.specs.Answers.{Gives}
use Rattle.run_files.specs.Refusals.{bytes_at}
use Rattle.apply_commands.specs.Applies.{AreFewEdits, HasWrongLine, IsReady, IsReadyRefusal}
use Rattle.apply_commands.specs.Applies.{PassesLimit}
use Rattle.apply_commands.specs.declared.applying.Chosen.{Chosen}
use Rattle.apply_commands.specs.declared.applying.Ready.{Ready}

-- the document is held with free names of copies, and this is the text of the edit file
pub record HoldsReady (words : ApplyWords) (files : Files) (ready : Ready) : Type 0 where
  pub is_ready : IsReady words files ready.doc
  pub text : ready.text.items ≡ bytes_at files words.edits

-- the answer of reading the document and the edit file: both, or the first refusal
abbrev pub ReadsReady : ApplyWords → Files → Result Ready Stop → Type 0
ReadsReady words files result = Gives (IsReadyRefusal words files) (HoldsReady words files) result

-- the text names edits of the network, each once, and just these are chosen
pub record IsChoice (net : Network) (doc : Document) (text : List ℕ)
    (chosen : Chosen) : Type 0 where
  pub edits : AreFewEdits net doc chosen.list
  pub countable : IsCountable net
  pub lines : AreEditLines net chosen.list (line_texts text)
  pub flags : chosen.flags ≡ chosen_by net chosen.list (line_texts text)

-- the answer of choosing the edits that the text names: these edits, or the refusal of a count or a
-- line
abbrev pub Chooses : ApplyWords → Network → Document → List ℕ → Result Chosen Stop → Type 0
Chooses words net doc text (Ok chosen) = IsChoice net doc text chosen
Chooses words net doc text (Err (stops.Refused r)) =
    PassesLimit words net doc r ⊎ HasWrongLine words net doc text r
Chooses words net doc text (Err stops.Memory) = Unit {0}
Chooses words net doc text (Err stops.Failed) = ⊥

-- the copies of the changed files are written, and a line prints the name of each
pub record IsWritten (suffix : List ℕ) (doc : Document) (built : Built) (olds : List (List ℕ))
    (chosen : List Edit) (done : Done) : Type 0 where
  pub changes : Changes suffix doc built olds chosen done.writes
  pub text : done.text ≡ wrote_lines done.writes
  pub status : done.status ≡ 0
