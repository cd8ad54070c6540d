-- The command `apply DOC EDITS --out SUFFIX`.
use Rattle.std.specs.Prelude.{◌≡◌, ◌↔◌, ◌⊎◌, ◌||◌, ◌≤◌, ℕ, Bool, true, false, List, [], ◌∷◌, length}
use Rattle.std.specs.Prelude.{Some, None, All, Contains, bytes_eq}
use Rattle.std.specs.List.{list_any}
use Rattle.arc_base.specs.declared.limits.TheConstants.{EDIT_LIMIT, EDIT_FILE_LIMIT}
use Rattle.arc_base.specs.declared.refusal.Kind.TheVariants.{EditLine, Limit, OutputName}
use Rattle.arc_base.specs.declared.refusal.LimitKind.{LimitKind}
use Rattle.arc_outside.specs.Files.{Files}
use Rattle.net_model.specs.declared.policies.Document.{Document}
use Rattle.net_model.specs.declared.rows.Network.{Network}
use Rattle.net_model.specs.Validity.{IsValid}
use Rattle.net_build.specs.declared.built.Built.{Built}
use Rattle.net_build.specs.Networks.{IsNetworkOf}
use Rattle.edit_list.specs.declared.edit_kinds.Edit.{Edit}
use Rattle.edit_list.specs.declared.edit_kinds.EditFault.TheVariants as faults
use Rattle.edit_list.specs.After.{IsAfter}
use Rattle.edit_list.specs.EditLists.{AreEdits, DocumentHasFewClasses, NamesLimit}
use Rattle.edit_list.specs.Prices.{chosen_of}
use Rattle.edit_reader.specs.EditFiles.{line_texts, chosen_by, AreEditLines, IsWrongLine}
use Rattle.file_copies.specs.Outputs.{clashes, copy_names, wrote_lines, IsCopyName}
use Rattle.file_copies.specs.Changes.{changed_names, AreLeftPatched, Changes, IsEditable}
use Rattle.command_words.specs.declared.commands.ApplyWords.{ApplyWords}
use Rattle.run_files.specs.declared.limits.Limits.TheVariants.{Editing}
use Rattle.run_files.specs.declared.outcome.Done.{Done}
use Rattle.run_files.specs.declared.outcome.FileRefusal.{FileRefusal}
use Rattle.run_files.specs.Refusals.{bytes_at, read_refusal, refusal_of}
use Rattle.run_inputs.specs.Inputs.{HoldsDocument, HoldsInput, IsDocumentRefusal, IsFilesRefusal}
use Rattle.run_inputs.specs.Inputs.{contents}

-- how many bytes an edit file may have
abbrev pub edit_file_limit : ℕ
edit_file_limit = EDIT_FILE_LIMIT

-- whether a copy of a router file would have the name of a file that is read, or of another copy
abbrev pub has_copy_clash : ApplyWords → Document → Bool
has_copy_clash words doc =
    clashes (words.document ∷ doc.routers) (copy_names words.suffix doc.routers)
    || list_any (λ name. bytes_eq name words.edits) (copy_names words.suffix doc.routers)

-- the lines of the edit file
abbrev pub edit_texts : ApplyWords → Files → List (List ℕ)
edit_texts words files = line_texts (bytes_at files words.edits)

-- the edits of this list that the edit file names
abbrev pub named_edits : ApplyWords → Files → Network → List Edit → List Edit
named_edits words files net list = chosen_of list (chosen_by net list (edit_texts words files))

-- the document is held, the names of the copies are free, and the edit file is held
pub record IsReady (words : ApplyWords) (files : Files) (doc : Document) : Type 0 where
  pub document_is : HoldsDocument words.document files doc
  pub free : has_copy_clash words doc ≡ false
  pub edits_held : read_refusal edit_file_limit files words.edits ≡ None

-- the document is held, and the name of a copy is not free
pub record RefusesNames (words : ApplyWords) (files : Files) (r : FileRefusal) : Type 0 where
  pub doc : Document
  pub document_is : HoldsDocument words.document files doc
  pub clash : has_copy_clash words doc ≡ true
  pub told : r ≡ refusal_of words.document 0 OutputName

-- the names are free, and the edit file is missing or too long
pub record RefusesEditFile (words : ApplyWords) (files : Files) (r : FileRefusal) : Type 0 where
  pub doc : Document
  pub document_is : HoldsDocument words.document files doc
  pub free : has_copy_clash words doc ≡ false
  pub refused : read_refusal edit_file_limit files words.edits ≡ Some r

-- the edit file is held, and the router files or their network are refused
pub record RefusesRouterFiles (words : ApplyWords) (files : Files) (r : FileRefusal) : Type 0 where
  pub doc : Document
  pub ready : IsReady words files doc
  pub refused : IsFilesRefusal Editing [] words.document files r

-- the document is ready with its edit file, and it and its router files have a network
pub record IsReadyWithNetwork (words : ApplyWords) (files : Files) (doc : Document)
    (net : Network) : Type 0 where
  pub ready : IsReady words files doc
  pub input : HoldsInput Editing [] words.document files doc net

-- the list has the edits of the network, and there are not too many classes or edits
pub record AreFewEdits (net : Network) (doc : Document) (list : List Edit) : Type 0 where
  pub are : AreEdits net doc list
  pub few : length list ≤ EDIT_LIMIT
  pub few_classes : DocumentHasFewClasses net doc

-- the network has too many classes or edits
pub record PassesLimit (words : ApplyWords) (net : Network) (doc : Document)
    (r : FileRefusal) : Type 0 where
  pub what : LimitKind
  pub count : ℕ
  pub many : NamesLimit net doc (faults.Limit what count)
  pub told : r ≡ refusal_of words.document 0 (Limit what count)

-- a line of this text names no edit of the network, or one that an earlier line names, and it is
-- the first such line
pub record HasWrongLine (words : ApplyWords) (net : Network) (doc : Document) (text : List ℕ)
    (r : FileRefusal) : Type 0 where
  pub list : List Edit
  pub edits : AreFewEdits net doc list
  pub number : ℕ
  pub wrong : IsWrongLine net list (line_texts text) number
  pub told : r ≡ refusal_of words.edits number EditLine

-- the document and its files have a network with too many classes or edits
pub record RefusesEditCounts (words : ApplyWords) (files : Files) (r : FileRefusal) : Type 0 where
  pub doc : Document
  pub net : Network
  pub has : IsReadyWithNetwork words files doc net
  pub valid : IsValid net
  pub passes : PassesLimit words net doc r

-- the document and its files have a network with few classes and edits, and a line of the edit file
-- is wrong
pub record RefusesLine (words : ApplyWords) (files : Files) (r : FileRefusal) : Type 0 where
  pub doc : Document
  pub net : Network
  pub has : IsReadyWithNetwork words files doc net
  pub valid : IsValid net
  pub line : HasWrongLine words net doc (bytes_at files words.edits) r

-- the first refusal before the router files are read: of the document; of the names of the copies;
-- or of the edit file
abbrev pub IsReadyRefusal : ApplyWords → Files → FileRefusal → Type 0
IsReadyRefusal words files r =
    IsDocumentRefusal words.document files r ⊎
    (RefusesNames words files r ⊎ RefusesEditFile words files r)

-- The first refusal: one before the router files are read; of the router files and their network;
-- of the number of classes or edits; or of a line of the edit file.
abbrev pub IsApplyRefusal : ApplyWords → Files → FileRefusal → Type 0
IsApplyRefusal words files r =
    IsReadyRefusal words files r ⊎
    (RefusesRouterFiles words files r ⊎
    (RefusesEditCounts words files r ⊎ RefusesLine words files r))

-- an answer of the command: status 0, with copies of files written and their names printed
pub record WritesCopies (words : ApplyWords) (done : Done) : Type 0 where
  pub status : done.status ≡ 0
  pub copies : All (λ write. IsCopyName words.suffix write.0) done.writes
  pub text : done.text ≡ wrote_lines done.writes

-- The answer: each line of the edit file names an edit of the network, no edit twice; a copy is
-- written of each router file that these edits change, which is its patch, and a line prints the
-- copy's name.
pub record IsApplied (words : ApplyWords) (files : Files) (done : Done) : Type 0 where
  pub doc : Document
  pub built : Built
  pub has : IsReadyWithNetwork words files doc built.net
  pub editable : IsEditable doc built (contents files doc)
  pub list : List Edit
  pub edits : AreFewEdits built.net doc list
  pub lines : AreEditLines built.net list (edit_texts words files)
  pub changes : Changes words.suffix doc built (contents files doc)
      (named_edits words files built.net list) done.writes
  pub text : done.text ≡ wrote_lines done.writes
  pub status : done.status ≡ 0

-- The document and its files have a network, the names of the copies are free, and each line of the
-- edit file names one of its edits, none twice.
pub record CanBeApplied (words : ApplyWords) (files : Files) : Type 0 where
  pub doc : Document
  pub net : Network
  pub has : IsReadyWithNetwork words files doc net
  pub list : List Edit
  pub edits : AreFewEdits net doc list
  pub lines : AreEditLines net list (edit_texts words files)

-- The router files as the command left them are the patches, by the edits of the edit file, of
-- those that were read; these patches, read again, have exactly the network after these edits. All
-- names but those of the copies of changed files hold what they held.
pub record IsLeftApplied (words : ApplyWords) (before after : Files) : Type 0 where
  pub doc : Document
  pub built : Built
  pub has : IsReadyWithNetwork words before doc built.net
  pub editable : IsEditable doc built (contents before doc)
  pub list : List Edit
  pub edits : AreFewEdits built.net doc list
  pub lines : AreEditLines built.net list (edit_texts words before)
  pub patched :
      AreLeftPatched words.suffix doc built before after (named_edits words before built.net list)
  pub changed : Network
  pub is_after : IsAfter built.net (named_edits words before built.net list) changed
  pub read_again : IsNetworkOf doc patched.new changed
  pub kept : (name : List ℕ) → ¬ Contains (changed_names words.suffix doc before patched.new) name →
      after name ≡ before name

-- the document, the name of a copy, the edit file, the router files, their network, a count or a
-- line of the edit file is refused
pub record CannotBeApplied (words : ApplyWords) (files : Files) : Type 0 where
  pub refusal : FileRefusal
  pub refused : IsApplyRefusal words files refusal

-- What the status says of the files before and after: 0 if the edits were applied, and 5 if they
-- were refused and nothing was written.
pub record TellsApply (words : ApplyWords) (status : ℕ) (before after : Files) : Type 0 where
  pub applied_exactly : (status ≡ 0) ↔ CanBeApplied words before
  pub applied : status ≡ 0 → IsLeftApplied words before after
  pub refused_exactly : (status ≡ 5) ↔ CannotBeApplied words before
  pub nothing_written : status ≡ 5 → after ≡ before
  pub nothing_else : (status ≡ 0) ⊎ (status ≡ 5)
