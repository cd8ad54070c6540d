-- The answers of `repair`.
use Rattle.std.proofs.Common.{◌≡◌, ℕ, ◌≤◌, inl, inr, false, List, [], length, refl, sym, subst}
use Rattle.std.specs.Prelude.{Option, Some, None, IfSome, Ok, Err, All}
use Rattle.arc_base.specs.declared.refusal.Kind.TheVariants.{Limit}
use Rattle.arc_base.specs.declared.refusal.LimitKind.{LimitKind}
use Rattle.arc_outside.specs.Files.{Files}
use Rattle.net_model.specs.declared.policies.Document.{Document}
use Rattle.net_model.specs.declared.rows.Network.{Network}
use Rattle.net_doc.specs.Documents.{IsWellFormed}
use Rattle.net_build.specs.Networks.{IsBuiltWithin}
use Rattle.edit_list.specs.declared.claims.Claim.TheVariants.{Repaired, NoRepair}
use Rattle.edit_list.specs.declared.edit_kinds.Edit.{Edit}
use Rattle.edit_list.specs.declared.edit_kinds.EditFault.{EditFault}
use Rattle.edit_list.specs.declared.edit_kinds.EditFault.TheVariants as faults
use Rattle.policy_report.specs.Certificates.{budget_text, certificate_text}
use Rattle.arc_repair.specs.declared.answer.Answer.{Answer}
use Rattle.arc_repair.specs.declared.answer.Answer.TheVariants.{Done as Claimed, Budget}
use Rattle.arc_repair.specs.Answers.{IsRepairAnswer, IsRepairFault}
use Rattle.std.proofs.lemmas.List.Elements.{All-nil}
use Rattle.std.proofs.lemmas.Slice.Zip.{AllZip-long}
use Rattle.file_copies.specs.Changes.{IsEditable}
use Rattle.file_copies.proofs.ReadAgain.{copies_named}
use Rattle.file_copies.specs.Outputs.{IsCopyName}
use Rattle.command_words.specs.declared.commands.RepairWords.{RepairWords}
use Rattle.run_files.specs.declared.limits.Limits.TheVariants.{Editing}
use Rattle.run_files.specs.declared.outcome.Done.{Done}
use Rattle.run_files.specs.declared.outcome.Stop.{Stop}
use Rattle.run_files.specs.Answers.{Answers}
use Rattle.run_files.specs.Refusals.{refusal_of}
use Rattle.run_inputs.specs.declared.inputs.Sources.{Sources}
use Rattle.run_inputs.specs.Counts.{StopsFor}
use Rattle.run_inputs.proofs.EditFaults.{limit_refused}
use Rattle.run_inputs.specs.Inputs.{AreFit, HoldsDocument, ReadsDocumentAt, ReadsSources}
use Rattle.repair_commands.specs.Repairs.{has_clash, IsRepaired, IsRepairRefusal, WritesAnswer, WritesCertificate}
use Rattle.repair_commands.specs.Steps.{IsFound, IsWholeAnswer}

-- the command stops for this reason
abbrev pub StoppedAs : RepairWords → Option Files → Stop → Type 0
StoppedAs words held stop = Answers (WritesCertificate words) (IsRepairRefusal words) (IsRepaired words) held (Err stop)

-- the document that was read
abbrev pub ReadBefore : RepairWords → Option Files → Document → Type 0
ReadBefore words held doc = IfSome held (λ files. ReadsDocumentAt words.document files (Ok doc))

-- the router files that were read, and what was built from them
abbrev pub ReadSources : RepairWords → Option Files → Document → Sources → Type 0
ReadSources words held doc sources = IfSome held (λ files. HoldsDocument words.document files doc → ReadsSources Editing [] words.document doc files (Ok sources))

-- the refusal of a count
counts_told : (held : Option Files) (words : RepairWords) (doc : Document) (sources : Sources) (what : LimitKind) (count : ℕ) → ReadBefore words held doc → has_clash words doc ≡ false
    → ReadSources words held doc sources → AreFit doc sources.built.net → IsRepairFault sources.built.net doc words.bound (faults.Limit what count)
    → IfSome held (λ files. IsRepairRefusal words files (refusal_of words.document 0 (Limit what count)))
counts_told None words doc sources what count before free told fit fault = tt
counts_told (Some files) words doc sources what count before free told fit fault =
    inr (inr (inr (record {
      doc = doc;
      net = sources.built.net;
      has = record { free = free; input = (told before).input };
      valid = fit.valid;
      what = what;
      count = count;
      fault = fault;
      told = refl;
    })))

counted : (held : Option Files) (words : RepairWords) (doc : Document) (sources : Sources) (fault : EditFault) (stop : Stop) → ReadBefore words held doc → has_clash words doc ≡ false
    → ReadSources words held doc sources → AreFit doc sources.built.net → IsRepairFault sources.built.net doc words.bound fault → StopsFor words.document fault stop → StoppedAs words held stop
counted held words doc sources fault stop before free told fit is_fault is =
    limit_refused (IsRepairFault sources.built.net doc words.bound) (λ r. IfSome held (λ files. IsRepairRefusal words files r))
    (λ (done : Done). WritesCertificate words done × IfSome held (λ files. IsRepaired words files done)) words.document
    (λ what count passed. counts_told held words doc sources what count before free told fit passed) fault stop is is_fault

pub counts_stopped : (held one : Option Files) → one ≡ held → (words : RepairWords) (doc : Document) (sources : Sources) (fault : EditFault) (stop : Stop) →
    ReadBefore words held doc → has_clash words doc ≡ false
    → ReadSources words one doc sources → AreFit doc sources.built.net → IsRepairFault sources.built.net doc words.bound fault → StopsFor words.document fault stop → StoppedAs words held stop
counts_stopped held one same words doc sources fault stop before free told fit is_fault is =
    let P : Option Files → Type 0 = λ o. ReadSources words o doc sources in
    counted held words doc sources fault stop before free (subst P same told) fit is_fault is

-- an answer is whole
pub whole : (net : Network) (doc : Document) (list : List Edit) (most conflicts : ℕ) (answer : Answer) → IsRepairAnswer net doc list most conflicts answer → IsWholeAnswer doc list answer
whole net doc list most conflicts (Claimed (Repaired price bound flags verdicts) log) is =
    (is.certificate.right.one_each, AllZip-long _ doc.policies verdicts is.certificate.right.judged)
whole net doc list most conflicts (Claimed (NoRepair bound) log) is = tt
whole net doc list most conflicts (Budget log) is = tt

-- the files that are written
own : (words : RepairWords) (doc : Document) (sources : Sources) (list : List Edit) (answer : Answer) (done : Done) →
    WritesAnswer words doc sources.built sources.files list answer done → WritesCertificate words done
own words doc sources list (Claimed (Repaired price bound flags verdicts) log) done w = record {
  status = inl w.writes.status_is;
  changed = w.changed;
  copies = subst (All (λ (write : List ℕ × List ℕ). IsCopyName words.suffix write.0)) (sym w.changes.writes_are)
      (copies_named words.suffix (IsCopyName words.suffix) (λ name. record { router = name; named = refl }) doc.routers sources.files w.changes.new);
  only = inl w.writes.status_is;
  certificate = certificate_text sources.built.net doc list (Repaired price bound flags verdicts) log;
  writes = w.writes.writes;
}
own words doc sources list (Claimed (NoRepair bound) log) done w = record {
  status = inr (inl w.status_is);
  changed = [];
  copies = All-nil _;
  only = inr refl;
  certificate = certificate_text sources.built.net doc list (NoRepair bound) log;
  writes = w.writes;
}
own words doc sources list (Budget log) done w = record {
  status = inr (inr w.status_is);
  changed = [];
  copies = All-nil _;
  only = inr refl;
  certificate = budget_text words.conflicts words.bound log;
  writes = w.writes;
}

done_told : (files : Files) (words : RepairWords) (doc : Document) (sources : Sources) (list : List Edit) (answer : Answer) (done : Done) →
    HoldsDocument words.document files doc → has_clash words doc ≡ false
    → ReadsSources Editing [] words.document doc files (Ok sources) → IsWellFormed doc → AreFit doc sources.built.net → IsBuiltWithin [] 2048 doc sources.files sources.built
    → length sources.files ≡ length doc.routers → All (λ t. length t ≤ 1048576) sources.files → IsFound words.bound words.conflicts sources.built.net doc list answer
    → WritesAnswer words doc sources.built sources.files list answer done → IsRepaired words files done
done_told files words doc sources list answer done is free read well_formed fit built count bytes found writes =
    let Editable : List (List ℕ) → Type 0 = λ fs. IsEditable doc sources.built fs in
    let Written : List (List ℕ) → Type 0 = λ fs. WritesAnswer words doc sources.built fs list answer done in
    record {
      doc = doc;
      built = sources.built;
      has = record { free = free; input = read.input };
      editable = subst Editable read.files_are (record { well_formed = well_formed; fit = fit; countable = found.countable; is_built = built; count = count; bytes = bytes });
      list = list;
      answer = answer;
      answered = found.answered;
      writes = subst Written read.files_are writes;
    }

pub repaired : (held one : Option Files) → one ≡ held →
    (words : RepairWords) (doc : Document) (sources : Sources) (list : List Edit) (answer : Answer) (done : Done) → ReadBefore words held doc → has_clash words doc ≡ false
    → ReadSources words one doc sources → IsWellFormed doc → AreFit doc sources.built.net → IsBuiltWithin [] 2048 doc sources.files sources.built
    → length sources.files ≡ length doc.routers → All (λ t. length t ≤ 1048576) sources.files → IsFound words.bound words.conflicts sources.built.net doc list answer
    → WritesAnswer words doc sources.built sources.files list answer done → Answers (WritesCertificate words) (IsRepairRefusal words) (IsRepaired words) held (Ok done)
repaired held one same words doc sources list answer done before free told well_formed fit built count bytes found writes = go held before (subst P same told)
  where
    P : Option Files → Type 0
    P o = ReadSources words o doc sources

    go : (h : Option Files) → ReadBefore words h doc → P h → Answers (WritesCertificate words) (IsRepairRefusal words) (IsRepaired words) h (Ok done)
    go None b t = (own words doc sources list answer done writes, tt)
    go (Some files) b t = (own words doc sources list answer done writes, done_told files words doc sources list answer done b free (t b) well_formed fit built count bytes found writes)
