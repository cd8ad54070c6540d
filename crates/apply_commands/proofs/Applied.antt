-- The answers of `apply`.
use Rattle.std.proofs.Common.{◌≡◌, ℕ, ◌≤◌, inl, inr, Bool, List, [], length, refl, sym, ◌∙◌, ap, subst}
use Rattle.std.specs.Prelude.{Option, Some, None, IfSome, Ok, Err, All}
use Rattle.arc_outside.specs.Files.{Files}
use Rattle.net_model.specs.declared.policies.Document.{Document}
use Rattle.net_doc.specs.Documents.{IsWellFormed}
use Rattle.net_build.specs.Networks.{IsBuiltWithin}
use Rattle.edit_list.specs.declared.edit_kinds.Edit.{Edit}
use Rattle.edit_list.specs.Prices.{chosen_of}
use Rattle.edit_reader.specs.EditFiles.{chosen_by, line_texts, AreEditLines}
use Rattle.file_copies.specs.Changes.{Changes, IsEditable}
use Rattle.file_copies.proofs.ReadAgain.{copies_named}
use Rattle.command_words.specs.declared.commands.ApplyWords.{ApplyWords}
use Rattle.run_files.specs.declared.limits.Limits.TheVariants.{Editing}
use Rattle.run_files.specs.declared.outcome.Done.{Done}
use Rattle.run_files.specs.declared.outcome.Stop.{Stop}
use Rattle.run_files.specs.declared.outcome.Stop.TheVariants as stops
use Rattle.run_files.specs.Answers.{Answers}
use Rattle.run_files.specs.Refusals.{bytes_at}
use Rattle.run_files.proofs.Answering.{stopped}
use Rattle.run_inputs.specs.declared.inputs.Sources.{Sources}
use Rattle.run_inputs.specs.Inputs.{AreFit, HoldsDocument, ReadsSources}
use Rattle.apply_commands.specs.declared.applying.Chosen.{Chosen}
use Rattle.apply_commands.specs.declared.applying.Ready.{Ready}
use Rattle.file_copies.specs.Outputs.{IsCopyName}
use Rattle.apply_commands.specs.Applies.{edit_texts, named_edits, IsApplied, IsApplyRefusal, IsReadyRefusal, HasWrongLine, WritesCopies}
use Rattle.apply_commands.specs.Steps.{Chooses, HoldsReady, IsChoice, IsWritten, ReadsReady}

abbrev pub AppliedAs : ApplyWords → Option Files → Stop → Type 0
AppliedAs words held stop = Answers (WritesCopies words) (IsApplyRefusal words) (IsApplied words) held (Err stop)

pub ready_stopped : (held : Option Files) (words : ApplyWords) (stop : Stop) → IfSome held (λ files. ReadsReady words files (Err stop)) → AppliedAs words held stop
ready_stopped held words stop told =
    stopped (WritesCopies words) (IsApplyRefusal words) (IsApplied words) (IsReadyRefusal words) (HoldsReady words) held stop (λ files r u. inl u) told

-- the document and the edit file that were read
abbrev pub ReadBefore : ApplyWords → Option Files → Ready → Type 0
ReadBefore words held ready = IfSome held (λ files. ReadsReady words files (Ok ready))

none_told : (words : ApplyWords) (stop : Stop) → AppliedAs words None stop
none_told words (stops.Refused r) = tt
none_told words stops.Memory = tt
none_told words stops.Failed = tt

-- the router files that were read, with their network
abbrev pub ReadSources : ApplyWords → Option Files → Ready → Sources → Type 0
ReadSources words held ready sources = IfSome held (λ files. HoldsDocument words.document files ready.doc → ReadsSources Editing [] words.document ready.doc files (Ok sources))

choice_told : (files : Files) (words : ApplyWords) (ready : Ready) (sources : Sources) (text : List ℕ) (stop : Stop) → text ≡ ready.text.items → HoldsReady words files ready
    → ReadsSources Editing [] words.document ready.doc files (Ok sources) → AreFit ready.doc sources.built.net → Chooses words sources.built.net ready.doc text (Err stop) →
    AppliedAs words (Some files) stop
choice_told files words ready sources text (stops.Refused r) text_is is read fit (inl passes) =
    inr (inr (inl (record { doc = ready.doc; net = sources.built.net; has = record { ready = is.is_ready; input = read.input }; valid = fit.valid; passes = passes })))
choice_told files words ready sources text (stops.Refused r) text_is is read fit (inr line) =
    inr (inr (inr (record { doc = ready.doc; net = sources.built.net; has = record { ready = is.is_ready; input = read.input }; valid = fit.valid; line = moved (text_is ∙ is.text) line })))
  where
    moved : text ≡ bytes_at files words.edits → HasWrongLine words sources.built.net ready.doc text r → HasWrongLine words sources.built.net ready.doc (bytes_at files words.edits) r
    moved e line = subst (λ (t : List ℕ). HasWrongLine words sources.built.net ready.doc t r) e line
choice_told files words ready sources text stops.Memory text_is is read fit chooses = tt
choice_told files words ready sources text stops.Failed text_is is read fit chooses = tt

pub choice_stopped : (held one : Option Files) → one ≡ held → (words : ApplyWords) (ready : Ready) (sources : Sources) (text : List ℕ) (stop : Stop) → text ≡ ready.text.items
    → ReadBefore words held ready → ReadSources words one ready sources → AreFit ready.doc sources.built.net → Chooses words sources.built.net ready.doc text (Err stop) → AppliedAs words held stop
choice_stopped held one same words ready sources text stop text_is before told fit chooses = go held before (subst P same told)
  where
    P : Option Files → Type 0
    P o = ReadSources words o ready sources

    go : (h : Option Files) → ReadBefore words h ready → P h → AppliedAs words h stop
    go None b t = none_told words stop
    go (Some files) b t = choice_told files words ready sources text stop text_is b (t b.is_ready.document_is) fit chooses

-- the written files are copies
own : (words : ApplyWords) (ready : Ready) (sources : Sources) (chosen : List Edit) (done : Done) → IsWritten words.suffix ready.doc sources.built sources.files chosen done → WritesCopies words done
own words ready sources chosen done written =
    let P : List (List ℕ × List ℕ) → Type 0 = λ pairs. All (λ (write : List ℕ × List ℕ). IsCopyName words.suffix write.0) pairs in
    record {
      status = written.status;
      copies = subst P (sym written.changes.writes_are)
          (copies_named words.suffix (IsCopyName words.suffix) (λ name. record { router = name; named = refl }) ready.doc.routers sources.files written.changes.new);
      text = written.text;
    }

done_told : (files : Files) (words : ApplyWords) (ready : Ready) (sources : Sources) (text : List ℕ) (chosen : Chosen) (done : Done) → text ≡ ready.text.items → HoldsReady words files ready
    → ReadsSources Editing [] words.document ready.doc files (Ok sources) → IsWellFormed ready.doc → AreFit ready.doc sources.built.net → IsBuiltWithin [] 2048 ready.doc sources.files sources.built
    → length sources.files ≡ length ready.doc.routers → All (λ t. length t ≤ 1048576) sources.files → IsChoice sources.built.net ready.doc text chosen
    → IsWritten words.suffix ready.doc sources.built sources.files (chosen_of chosen.list chosen.flags) done → IsApplied words files done
done_told files words ready sources text chosen done text_is is read well_formed fit built count bytes choice written =
    let doc : Document = ready.doc in
    let text_held : text ≡ bytes_at files words.edits = text_is ∙ is.text in
    let flags_are : chosen.flags ≡ chosen_by sources.built.net chosen.list (edit_texts words files) =
    choice.flags ∙ ap (λ (t : List ℕ). chosen_by sources.built.net chosen.list (line_texts t)) text_held in
    let Lines : List ℕ → Type 0 = λ t. AreEditLines sources.built.net chosen.list (line_texts t) in
    let Editable : List (List ℕ) → Type 0 = λ fs. IsEditable doc sources.built fs in
    let ByFlags : List Bool → Type 0 = λ flags. Changes words.suffix doc sources.built sources.files (chosen_of chosen.list flags) done.writes in
    let ByFiles : List (List ℕ) → Type 0 = λ fs. Changes words.suffix doc sources.built fs (named_edits words files sources.built.net chosen.list) done.writes in
    record {
      doc = doc;
      built = sources.built;
      has = record { ready = is.is_ready; input = read.input };
      editable = subst Editable read.files_are (record { well_formed = well_formed; fit = fit; countable = choice.countable; is_built = built; count = count; bytes = bytes });
      list = chosen.list;
      edits = choice.edits;
      lines = subst Lines text_held choice.lines;
      changes = subst ByFiles read.files_are (subst ByFlags flags_are written.changes);
      text = written.text;
      status = written.status;
    }

pub applied : (held one : Option Files) → one ≡ held → (words : ApplyWords) (ready : Ready) (sources : Sources) (text : List ℕ) (chosen : Chosen) (done : Done) → text ≡ ready.text.items
    → ReadBefore words held ready → ReadSources words one ready sources → IsWellFormed ready.doc → AreFit ready.doc sources.built.net → IsBuiltWithin [] 2048 ready.doc sources.files sources.built
    → length sources.files ≡ length ready.doc.routers → All (λ t. length t ≤ 1048576) sources.files → IsChoice sources.built.net ready.doc text chosen
    → IsWritten words.suffix ready.doc sources.built sources.files (chosen_of chosen.list chosen.flags) done
    → Answers (WritesCopies words) (IsApplyRefusal words) (IsApplied words) held (Ok done)
applied held one same words ready sources text chosen done text_is before told well_formed fit built count bytes choice written = go held before (subst P same told)
  where
    P : Option Files → Type 0
    P o = ReadSources words o ready sources

    go : (h : Option Files) → ReadBefore words h ready → P h → Answers (WritesCopies words) (IsApplyRefusal words) (IsApplied words) h (Ok done)
    go None b t = (own words ready sources (chosen_of chosen.list chosen.flags) done written, tt)
    go (Some files) b t = (
      own words ready sources (chosen_of chosen.list chosen.flags) done written,
      done_told files words ready sources text chosen done text_is b (t b.is_ready.document_is) well_formed fit built count bytes choice written,
    )
