-- What is asked of the lines of BGP processes: neighbours that are there, and networks that are
-- connected. One definition for each reason.
use Rattle.std.specs.Prelude.{◌≡◌, ℕ, Some, IsSome, List, Any, Contains, option_map}
use Rattle.arc_base.specs.declared.refusal.Kind.TheVariants as kinds
use Rattle.arc_base.specs.declared.prefix.Prefix.{Prefix}
use Rattle.net_doc.specs.declared.fault.Refusal.{Refusal}
use Rattle.net_model.specs.declared.policies.Document.{Document}
use Rattle.ios_words.specs.declared.commands.Command.{Command}
use Rattle.ios_words.specs.declared.commands.Command.TheVariants as commands
use Rattle.ios_config.specs.declared.settings.Given.{Given}
use Rattle.ios_config.specs.declared.settings.Config.{Config}
use Rattle.ios_config.specs.declared.settings.FaceText.{FaceText}
use Rattle.net_rules.specs.Settings.{lines_of, address_of}
use Rattle.net_rules.specs.Sites.{Site, sites, host_name, full_name, AreJoined}
use Rattle.net_rules.specs.Neighbors.{names_peer, remote_of}
use Rattle.net_rules.specs.Rows.{IsSubnet}
use Rattle.net_rules.specs.Reasons.{InFiles}

-- the address is that of the far end of one of the router's links
pub record IsFarEnd (doc : Document) (configs : List Config) (config : Config)
    (peer : ℕ) : Type 0 where
  pub near : FaceText
  pub is_near : Contains config.faces near
  pub far : Site
  pub is_far : Contains (sites configs) far
  pub joined : AreJoined doc.links (host_name config, near.name) (full_name far)
  pub address : option_map (λ a. a.0) (address_of far.face) ≡ Some peer

-- the neighbour is known: it is a far end and has an AS
pub record IsKnown (doc : Document) (configs : List Config) (config : Config)
    (peer : ℕ) : Type 0 where
  pub far_end : IsFarEnd doc configs config peer
  pub remote : IsSome (remote_of (lines_of config) peer)

-- the line names a neighbour that is none of those known
abbrev pub NamesOther : (ℕ → Type 0) → ℕ → Given Command → Type 0
NamesOther IsAmong line g =
    (line ≡ g.line) × ((peer : ℕ) × (names_peer g.value ≡ Some peer) × ¬ IsAmong peer)

-- a line of BGP that names a neighbour which is not known
abbrev pub RefusesNeighbor : Document → List Config → Refusal → Type 0
RefusesNeighbor doc configs =
    InFiles kinds.NeighborUnknown
    (λ place config line. Any (NamesOther (IsKnown doc configs config) line) (lines_of config))
    configs

-- the prefix is the connected subnet of the interface
abbrev pub IsConnectedAt : FaceText → Prefix → Type 0
IsConnectedAt face p = IsSubnet (address_of face) (Some p)

-- the prefix is the connected subnet of one of the interfaces
abbrev pub IsConnected : List FaceText → Prefix → Type 0
IsConnected faces p = Any (λ face. IsConnectedAt face p) faces

-- the line is a BGP network statement for a prefix that is not connected
abbrev pub TellsUnconnected : Config → ℕ → Given Command → Type 0
TellsUnconnected config line g =
    (line ≡ g.line) × ((p : Prefix) × (g.value ≡ commands.Tells p) × ¬ IsConnected config.faces p)

-- a BGP network statement for a prefix that is not connected
abbrev pub RefusesNetwork : List Config → Refusal → Type 0
RefusesNetwork configs =
    InFiles kinds.NetworkNotConnected
    (λ place config line. Any (TellsUnconnected config line) (lines_of config)) configs
