-- What a command over a document begins with: the document, the router files that it names, and
-- their network.
use Rattle.std.specs.Prelude.{◌≡◌, ◌⊎◌, ℕ, zero, suc, List, map, get_or, [], Some, None, Result, Ok}
use Rattle.std.specs.Prelude.{Err, All}
use Rattle.arc_outside.specs.Files.{Files}
use Rattle.net_model.specs.declared.policies.Document.{Document}
use Rattle.net_model.specs.declared.rows.Network.{Network}
use Rattle.net_doc.specs.declared.fault.Refusal.{Refusal}
use Rattle.net_doc.specs.declared.fault.NetFault.TheVariants as faults
use Rattle.net_doc.specs.Documents.{ReadsDocument}
use Rattle.net_model.specs.Packets.{subject}
use Rattle.net_model.specs.Forwarding.{HasEnds}
use Rattle.net_model.specs.Validity.{IsValid}
use Rattle.net_model.specs.Policies.{HasFewFailures}
use Rattle.net_build.specs.Networks.{IsBuiltWithin, IsNetworkWithin, IsFirstRefusalWithin}
use Rattle.run_files.specs.declared.outcome.FileRefusal.{FileRefusal}
use Rattle.run_files.specs.declared.outcome.Reason.TheVariants as reasons
use Rattle.run_files.specs.declared.outcome.Stop.{Stop}
use Rattle.run_inputs.specs.declared.inputs.Input.{Input}
use Rattle.run_inputs.specs.declared.inputs.Sources.{Sources}
use Rattle.run_files.specs.declared.limits.Limits.{Limits}
use Rattle.run_files.specs.Answers.{Gives}
use Rattle.run_files.specs.Limits.{document_limit, entries_limit}
use Rattle.run_files.specs.Refusals.{bytes_at, read_refusal, routers_refusal}

-- the name of a file, given its number: 0 is the document, and i the i-th router file
abbrev pub name_of : List ℕ → List (List ℕ) → ℕ → List ℕ
name_of document routers zero = document
name_of document routers (suc i) = get_or routers i []

-- the refusal with the name of its file
abbrev pub named : List ℕ → List (List ℕ) → Refusal → FileRefusal
named document routers r = record {
  name = name_of document routers r.file;
  number = r.number;
  reason = reasons.Kind r.kind;
}

-- the contents of the router files
abbrev pub contents : Files → Document → List (List ℕ)
contents files doc = map (bytes_at files) doc.routers

-- the name holds this document
pub record HoldsDocument (document : List ℕ) (files : Files) (doc : Document) : Type 0 where
  pub held : read_refusal document_limit files document ≡ None
  pub read : ReadsDocument (bytes_at files document) (Ok doc)

-- the name holds this document, and none of the router files that it names is missing or too long
pub record HoldsFiles (limits : Limits) (document : List ℕ) (files : Files)
    (doc : Document) : Type 0 where
  pub document_is : HoldsDocument document files doc
  pub held : routers_refusal limits files doc.routers ≡ None

-- the name holds this document, its router files are held, and this is the network of the document
-- and these files, where links of these numbers are to be down
pub record HoldsInput (limits : Limits) (down : List ℕ) (document : List ℕ) (files : Files)
    (doc : Document) (net : Network) : Type 0 where
  pub files_are : HoldsFiles limits document files doc
  pub network : IsNetworkWithin down (entries_limit limits) doc (contents files doc) net

-- the file of this name is no document, for this reason
pub record RefusesDocument (document : List ℕ) (files : Files) (r : FileRefusal) : Type 0 where
  pub held : read_refusal document_limit files document ≡ None
  pub refusal : Refusal
  pub refused : ReadsDocument (bytes_at files document) (Err (faults.Refused refusal))
  pub is_named : r ≡ named document [] refusal

-- a router file is missing or too long
pub record RefusesFile (limits : Limits) (document : List ℕ) (files : Files)
    (r : FileRefusal) : Type 0 where
  pub doc : Document
  pub document_is : HoldsDocument document files doc
  pub refused : routers_refusal limits files doc.routers ≡ Some r

-- the document and its router files have no network with links of these numbers to be down, for
-- this reason
pub record RefusesInputNetwork (limits : Limits) (down : List ℕ) (document : List ℕ) (files : Files)
    (r : FileRefusal) : Type 0 where
  pub doc : Document
  pub files_are : HoldsFiles limits document files doc
  pub refusal : Refusal
  pub refused : IsFirstRefusalWithin down (entries_limit limits) doc (contents files doc) refusal
  pub is_named : r ≡ named document doc.routers refusal

-- the document is missing, too long or of a wrong form
abbrev pub IsDocumentRefusal : List ℕ → Files → FileRefusal → Type 0
IsDocumentRefusal document files r =
    (read_refusal document_limit files document ≡ Some r) ⊎ RefusesDocument document files r

-- the router files of a document, or the network of the document and them, are refused
abbrev pub IsFilesRefusal : Limits → List ℕ → List ℕ → Files → FileRefusal → Type 0
IsFilesRefusal limits down document files r =
    RefusesFile limits document files r ⊎ RefusesInputNetwork limits down document files r

-- The first refusal: the document is missing or too long; it has a wrong form; a router file is
-- missing or too long; or the document and the files have no network with links of these numbers.
abbrev pub IsInputRefusal : Limits → List ℕ → List ℕ → Files → FileRefusal → Type 0
IsInputRefusal limits down document files r =
    (read_refusal document_limit files document ≡ Some r) ⊎
    (RefusesDocument document files r ⊎ IsFilesRefusal limits down document files r)

-- the answer of reading the document: the document, or its refusal
abbrev pub ReadsDocumentAt : List ℕ → Files → Result Document Stop → Type 0
ReadsDocumentAt document files result =
    Gives (IsDocumentRefusal document files) (HoldsDocument document files) result

-- the router files of a document that is held, as they are, and what is built from them
pub record AreSources (limits : Limits) (down : List ℕ) (document : List ℕ) (doc : Document)
    (files : Files) (sources : Sources) : Type 0 where
  pub input : HoldsInput limits down document files doc sources.built.net
  pub files_are : sources.files ≡ contents files doc
  pub built : IsBuiltWithin down (entries_limit limits) doc sources.files sources.built

-- the answer of reading the router files of a document that is held: the files and what is built
-- from them, or the first refusal
abbrev pub ReadsSources : Limits → List ℕ → List ℕ → Document → Files → Result Sources Stop → Type 0
ReadsSources limits down document doc files result =
    Gives (IsFilesRefusal limits down document files)
    (AreSources limits down document doc files) result

-- the answer of making a network alone of the router files of a document that is held: the network,
-- or the first refusal
abbrev pub ReadsRouterFiles : Limits → List ℕ → List ℕ → Files → Result Input Stop → Type 0
ReadsRouterFiles limits down document files result =
    Gives (IsFilesRefusal limits down document files)
    (λ input. HoldsInput limits down document files input.doc input.net) result

-- the answer of reading the input: the document and its network, or the first refusal
abbrev pub ReadsInput : Limits → List ℕ → List ℕ → Files → Result Input Stop → Type 0
ReadsInput limits down document files result =
    Gives (IsInputRefusal limits down document files)
    (λ input. HoldsInput limits down document files input.doc input.net) result

-- the document's policies can be judged over the network
pub record AreFit (doc : Document) (net : Network) : Type 0 where
  pub valid : IsValid net
  pub ends : All (λ policy. HasEnds net (subject policy)) doc.policies
  pub failures : All (λ policy. HasFewFailures policy.kind) doc.policies

-- the policies of the input's document can be judged over its network
abbrev pub IsFit : Input → Type 0
IsFit input = AreFit input.doc input.net

-- the name of the document, and the names of its router files, hold the same before and after
pub record HoldTheSame (document : List ℕ) (before after : Files) : Type 0 where
  pub document_is : after document ≡ before document
  pub routers_are : (doc : Document) → HoldsDocument document before doc →
      All (λ name. after name ≡ before name) doc.routers
