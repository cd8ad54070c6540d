-- The network of a document and its router files, or the first reason why there is none.
use Rattle.std.specs.Prelude.{◌≡◌, ℕ, ◌+◌, ◌⊎◌, List, [], map, take, slice_get, Result, Ok, Err}
use Rattle.std.specs.Prelude.{Some}
use Rattle.std.specs.List.{AllZip}
use Rattle.arc_base.specs.declared.limits.TheConstants.{ENTRY_LIMIT}
use Rattle.arc_base.specs.declared.refusal.Kind.{Kind}
use Rattle.arc_base.specs.declared.refusal.Kind.TheVariants as kinds
use Rattle.net_doc.specs.declared.fault.Refusal.{Refusal}
use Rattle.net_doc.specs.declared.fault.NetFault.{NetFault}
use Rattle.net_doc.specs.declared.fault.NetFault.TheVariants.{Refused, Memory}
use Rattle.net_model.specs.declared.policies.Document.{Document}
use Rattle.net_model.specs.declared.rows.Network.{Network}
use Rattle.ios_lines.specs.declared.line.Lines.{Lines}
use Rattle.ios_lines.specs.Lines.{AreLinesOf, HasOrphanAt, HasOpenBannerAt}
use Rattle.ios_config.specs.declared.settings.Config.{Config}
use Rattle.ios_config.specs.Configs.{IsConfigOf, IsRefused}
use Rattle.net_build.specs.declared.built.Built.{Built}
use Rattle.net_build.specs.declared.files.ReadFile.{ReadFile}
use Rattle.net_build.specs.declared.files.ReadFiles.{ReadFiles}
use Rattle.net_rules.specs.Rows.{AreRows}
use Rattle.net_build.specs.Order.{tries, RefusesWithin, IsFirstOf, AreClear, AnswersTries}
use Rattle.net_build.specs.Places.{places_of}

-- no indented line of the text is outside a block, and each banner ends
pub record HasBlocks (text : List ℕ) : Type 0 where
  pub no_orphan : (line : ℕ) → ¬ HasOrphanAt text line
  pub no_open_banner : (line : ℕ) → ¬ HasOpenBannerAt text line

-- the text is a router file with these settings
pub record HasSettings (text : List ℕ) (config : Config) : Type 0 where
  pub has_blocks : HasBlocks text
  pub lines : Lines
  pub are_lines : AreLinesOf text lines
  pub is_config : IsConfigOf text lines config

-- each line of the text has its block, and its settings are refused at this line for this reason
pub record SaysWrong (text : List ℕ) (line : ℕ) (kind : Kind) : Type 0 where
  pub has_blocks : HasBlocks text
  pub lines : Lines
  pub are_lines : AreLinesOf text lines
  pub refused : IsRefused text lines line kind

-- why the text is no router file, and at which line: first an indented line in no block, then a
-- banner that does not end, and then what its lines say
abbrev pub IsFaulty : List ℕ → ℕ → Kind → Type 0
IsFaulty text line kind =
    ((kind ≡ kinds.OrphanLine) × HasOrphanAt text line)
    ⊎ (((kind ≡ kinds.BadWord)
    × HasOpenBannerAt text line × ((other : ℕ) → ¬ HasOrphanAt text other))
    ⊎ SaysWrong text line kind)

-- the refusal of the first text that is no router file
pub record IsFirstFaulty (files : List (List ℕ)) (r : Refusal) : Type 0 where
  pub place : ℕ
  pub text : List ℕ
  pub at_place : slice_get files place ≡ Some text
  pub configs : List Config
  pub earlier : AllZip HasSettings (take place files) configs
  pub file : r.file ≡ place + 1
  pub faulty : IsFaulty text r.number r.kind

-- the answer on one file: its lines and settings, or its first refusal
abbrev pub ReadsFile : ℕ → List ℕ → Result ReadFile NetFault → Type 0
ReadsFile place text (Ok read) = AreLinesOf text read.lines × HasSettings text read.config
ReadsFile place text (Err (Refused r)) = (r.file ≡ place + 1) × IsFaulty text r.number r.kind
ReadsFile place text (Err Memory) = Unit {0}

-- the answer on all files: the lines and settings of each, or the first refusal
abbrev pub ReadsFiles : List (List ℕ) → Result ReadFiles NetFault → Type 0
ReadsFiles files (Ok read) = AllZip AreLinesOf files read.lines ×
    AllZip HasSettings files read.configs
ReadsFiles files (Err (Refused r)) = IsFirstFaulty files r
ReadsFiles files (Err Memory) = Unit {0}

-- the answer on the settings of all files, or the first refusal
abbrev pub ReadsConfigs : List (List ℕ) → Result (List Config) NetFault → Type 0
ReadsConfigs files (Ok configs) = AllZip HasSettings files configs
ReadsConfigs files (Err (Refused r)) = IsFirstFaulty files r
ReadsConfigs files (Err Memory) = Unit {0}

-- the answer on the settings of all files: their network, or the first refusal of the tries
abbrev pub Assembles : List ℕ → ℕ → Document → List Config → Result Network NetFault → Type 0
Assembles down most_entries doc configs result =
    AnswersTries (RefusesWithin down most_entries doc configs) tries (AreRows doc configs) result

-- The network of the document and the texts of its router files: these have settings, the network
-- has their rows, and no try refuses them, where the links of these numbers are to be down and no
-- list may have more than `most_entries` entries.
pub record IsNetworkWithin (down : List ℕ) (most_entries : ℕ) (doc : Document)
    (files : List (List ℕ)) (net : Network) : Type 0 where
  pub configs : List Config
  pub said : AllZip HasSettings files configs
  pub rows : AreRows doc configs net
  pub clear : AreClear (RefusesWithin down most_entries doc configs) tries

-- the network, with the lines of its files and the places in them that its parts come from
pub record IsBuiltWithin (down : List ℕ) (most_entries : ℕ) (doc : Document) (files : List (List ℕ))
    (built : Built) : Type 0 where
  pub network : IsNetworkWithin down most_entries doc files built.net
  pub lines : AllZip AreLinesOf files built.lines
  pub places : built.places ≡ map places_of network.configs

-- the first refusal of the tries, where each file has settings
pub record IsTriedWithin (down : List ℕ) (most_entries : ℕ) (doc : Document) (files : List (List ℕ))
    (r : Refusal) : Type 0 where
  pub configs : List Config
  pub said : AllZip HasSettings files configs
  pub first : IsFirstOf (RefusesWithin down most_entries doc configs) tries r

-- the first refusal: the first text that is no router file, or else the first refusal of the tries
-- in their order
abbrev pub IsFirstRefusalWithin : List ℕ → ℕ → Document → List (List ℕ) → Refusal → Type 0
IsFirstRefusalWithin down most_entries doc files r =
    IsFirstFaulty files r ⊎ IsTriedWithin down most_entries doc files r

-- the answer is the network, or the first reason why there is none, or out of memory
abbrev pub BuildsWithin : List ℕ → ℕ → Document → List (List ℕ) → Result Built NetFault → Type 0
BuildsWithin down most_entries doc files (Ok built) =
    IsBuiltWithin down most_entries doc files built
BuildsWithin down most_entries doc files (Err (Refused r)) =
    IsFirstRefusalWithin down most_entries doc files r
BuildsWithin down most_entries doc files (Err Memory) = Unit {0}

-- the answer is the network alone, or the first reason why there is none, or out of memory
abbrev pub FindsWithin : List ℕ → ℕ → Document → List (List ℕ) → Result Network NetFault → Type 0
FindsWithin down most_entries doc files (Ok net) = IsNetworkWithin down most_entries doc files net
FindsWithin down most_entries doc files (Err (Refused r)) =
    IsFirstRefusalWithin down most_entries doc files r
FindsWithin down most_entries doc files (Err Memory) = Unit {0}

-- the network of the document and the texts of its router files, with no link to be down and at
-- most ENTRY_LIMIT entries in a list
abbrev pub IsNetworkOf : Document → List (List ℕ) → Network → Type 0
IsNetworkOf doc files net = IsNetworkWithin [] ENTRY_LIMIT doc files net

-- the network of the document and the texts of its router files, with its lines and places, no link
-- to be down, and at most ENTRY_LIMIT entries in a list
abbrev pub IsBuilt : Document → List (List ℕ) → Built → Type 0
IsBuilt doc files built = IsBuiltWithin [] ENTRY_LIMIT doc files built

-- the answer on a document and the texts of its router files: the network with its lines and
-- places, or the first reason why there is none, or out of memory
abbrev pub Builds : Document → List (List ℕ) → Result Built NetFault → Type 0
Builds doc files result = BuildsWithin [] ENTRY_LIMIT doc files result
