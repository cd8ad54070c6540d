-- What is asked of the routers by themselves: a name, one process, one area, an AS of its own. One
-- definition for each reason.
use Rattle.std.specs.Prelude.{◌≡◌, ◌≢◌, ℕ, ◌<◌, ◌⊎◌, Option, Some, None, IsSomeAnd, unwrap_or, List}
use Rattle.std.specs.Prelude.{[], ◌∷◌, ◌++◌, take, slice_get, Any, Contains, MatchOption}
use Rattle.std.specs.Prelude.{option_map, option_and_then}
use Rattle.std.specs.List.{filter_map}
use Rattle.arc_base.specs.declared.refusal.Kind.TheVariants as kinds
use Rattle.net_doc.specs.declared.fault.Refusal.{Refusal}
use Rattle.net_model.specs.declared.rows.Protocol.{Protocol}
use Rattle.net_model.specs.declared.rows.Protocol.TheVariants.{Ospf, Bgp}
use Rattle.ios_words.specs.declared.commands.Command.{Command}
use Rattle.ios_words.specs.declared.commands.Command.TheVariants as commands
use Rattle.ios_config.specs.declared.settings.Given.{Given}
use Rattle.ios_config.specs.declared.settings.Config.{Config}
use Rattle.ios_config.specs.declared.settings.FaceText.{FaceText}
use Rattle.ios_config.specs.declared.settings.ProcessText.{ProcessText}
use Rattle.ios_config.specs.declared.settings.ProcessKind.{ProcessKind}
use Rattle.ios_config.specs.declared.settings.ProcessKind.TheVariants as processes
use Rattle.net_rules.specs.Settings.{process_of, lines_of}
use Rattle.net_rules.specs.Reasons.{InFiles}

-- the file gives its router this name
abbrev pub NamesRouter : List ℕ → Config → Type 0
NamesRouter name config = IsSomeAnd config.hostname (λ s. s.name ≡ name)

-- the router has no name, or one of the routers before it has the same
abbrev pub HasNoOwnName : List Config → ℕ → Config → ℕ → Type 0
HasNoOwnName configs place config line =
    MatchOption config.hostname (line ≡ 0) (λ s.
    (line ≡ s.line) × Any (NamesRouter s.name) (take place configs))

-- a router that has no name of its own
abbrev pub RefusesHostname : List Config → Refusal → Type 0
RefusesHostname configs = InFiles kinds.Hostname (HasNoOwnName configs) configs

-- the protocol that a process runs
abbrev pub protocol_of_kind : ProcessKind → Protocol
protocol_of_kind processes.Ospf = Ospf
protocol_of_kind processes.Bgp = Bgp

-- the protocol of the network is that of the first router's process
abbrev pub protocol_of : List Config → Protocol
protocol_of [] = Ospf
protocol_of (config ∷ configs) =
    unwrap_or (option_map (λ p. protocol_of_kind p.kind) (process_of config)) Ospf

-- an interface takes part in an OSPF process of another number, by this line
abbrev pub NamesOtherProcess : ProcessText → ℕ → FaceText → Type 0
NamesOtherProcess process line face =
    IsSomeAnd face.area (λ g. (line ≡ g.line) × (g.value.process ≢ process.number))

-- the process block has this head and runs another protocol
abbrev pub RunsOther : Protocol → ℕ → ProcessText → Type 0
RunsOther protocol line process = (line ≡ process.head) × (protocol_of_kind process.kind ≢ protocol)

-- what is wrong in a file whose first process is this: it has a second one, names another one at an
-- interface, or runs another protocol
abbrev pub MixesProcesses : Protocol → Config → ProcessText → ℕ → Type 0
MixesProcesses protocol config process line =
    IsSomeAnd (slice_get config.process 1) (λ second. line ≡ second.head)
    ⊎ (Any (NamesOtherProcess process line) config.faces
    ⊎ Any (RunsOther protocol line) config.process)

-- the router has no process, or that is wrong
abbrev pub HasNoOwnProcess : List Config → ℕ → Config → ℕ → Type 0
HasNoOwnProcess configs place config line =
    MatchOption (process_of config) (line ≡ 0) (λ process.
    MixesProcesses (protocol_of configs) config process line)

-- a router that has not just one process, of the network's protocol
abbrev pub RefusesProtocol : List Config → Refusal → Type 0
RefusesProtocol configs = InFiles kinds.Protocol (HasNoOwnProcess configs) configs

-- the area of a network statement
abbrev pub area_of_command : Command → Option ℕ
area_of_command (commands.Covers prefix area) = Some area
area_of_command other = None

-- the area of a line, with the line: that of a network statement
abbrev pub line_area : Given Command → Option (Given ℕ)
line_area g = option_map (λ area. record { value = area; line = g.line }) (area_of_command g.value)

-- the area in which an interface is enabled, with the line that says so
abbrev pub face_area : FaceText → Option (Given ℕ)
face_area face = option_map (λ g. record { value = g.value.area; line = g.line }) face.area

-- the OSPF areas that the file names: those of the network statements of its process, and those of
-- its interfaces
abbrev pub areas_of : Config → List (Given ℕ)
areas_of config = filter_map line_area (lines_of config) ++ filter_map face_area config.faces

-- the area is the first that is named, by router and then by line
pub record IsFirstArea (configs : List Config) (area : ℕ) : Type 0 where
  pub place : ℕ
  pub config : Config
  pub at_place : slice_get configs place ≡ Some config
  pub given : Given ℕ
  pub named : Contains (areas_of config) given
  pub is_area : given.value ≡ area
  pub first : (k : ℕ) (c : Config) (other : Given ℕ) → slice_get configs k ≡ Some c →
      Contains (areas_of c) other → ¬ ((k < place) ⊎ ((k ≡ place) × (other.line < given.line)))

-- the area is at this line, and is another than that
abbrev pub IsOther : ℕ → ℕ → Given ℕ → Type 0
IsOther area line given = (line ≡ given.line) × (given.value ≢ area)

-- the line of the file names another area than the first
pub record NamesOtherArea (configs : List Config) (config : Config) (line : ℕ) : Type 0 where
  pub first : ℕ
  pub is_first : IsFirstArea configs first
  pub other : Any (IsOther first line) (areas_of config)

-- a line that names another OSPF area than the first
abbrev pub RefusesTwoAreas : List Config → Refusal → Type 0
RefusesTwoAreas configs =
    InFiles kinds.TwoAreas (λ place config line. NamesOtherArea configs config line) configs

-- the file gives this number, where it may give one at a line
abbrev pub GivesNumber : (Config → Option (Given ℕ)) → ℕ → Config → Type 0
GivesNumber number_of n config = IsSomeAnd (number_of config) (λ given. given.value ≡ n)

-- one of the files before gives the same number as this one, which gives it at this line
abbrev pub Repeats : (Config → Option (Given ℕ)) → List Config → ℕ → Config → ℕ → Type 0
Repeats number_of configs place config line =
    IsSomeAnd (number_of config) (λ given.
    (line ≡ given.line) × Any (GivesNumber number_of given.value) (take place configs))

-- the AS of a BGP process, with the line at which its block begins
abbrev pub as_of_process : ProcessKind → ProcessText → Option (Given ℕ)
as_of_process processes.Ospf process = None
as_of_process processes.Bgp process = Some (record { value = process.number; line = process.head })

-- the AS of the file's process
abbrev pub as_of : Config → Option (Given ℕ)
as_of config = option_and_then (λ p. as_of_process p.kind p) (process_of config)

-- a router with the same AS as one before it
abbrev pub RefusesSameAs : List Config → Refusal → Type 0
RefusesSameAs configs = InFiles kinds.SameAs (Repeats as_of configs) configs
