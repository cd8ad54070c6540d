-- What the index of a process keeps of its lines.
use Rattle.std.specs.Prelude.{◌≡◌, ◌↔◌, ℕ, Bool, Option, Some, None, List, Any, bytes_eq}
use Rattle.std.specs.Prelude.{if◌then◌else◌}
use Rattle.std.specs.Option.{option_or}
use denote.Ref.{Bor}
use Rattle.indexmap.specs.IndexMap.{get_by}
use Rattle.arc_base.specs.declared.prefix.Prefix.{Prefix}
use Rattle.net_model.specs.declared.rows.Protocol.{Protocol}
use Rattle.net_model.specs.declared.rows.Protocol.TheVariants.{Ospf, Bgp}
use Rattle.ios_words.specs.declared.commands.Command.{Command}
use Rattle.ios_words.specs.declared.commands.Command.TheVariants as commands
use Rattle.row_making.specs.declared.process_index.PassiveIndex.{PassiveIndex}
use Rattle.row_making.specs.declared.process_index.ProcessIndex.{ProcessIndex}
use Rattle.net_rules.specs.Settings.{lines_of, reference_of, last_said, says_passive}
use Rattle.net_rules.specs.Prefixes.{HasPrefix}

-- the prefix of a BGP network statement
abbrev pub told_prefix : Command → Option Prefix
told_prefix (commands.Tells prefix) = Some prefix
told_prefix other = None

-- the prefix of an OSPF network statement
abbrev pub covered_prefix : Command → Option Prefix
covered_prefix (commands.Covers prefix area) = Some prefix
covered_prefix other = None

-- the prefix of a network statement of the protocol
abbrev pub network_prefix : Protocol → Command → Option Prefix
network_prefix Ospf command = covered_prefix command
network_prefix Bgp command = told_prefix command

-- what a setting says of the interface of this name
abbrev pub by_face : List ℕ → Bool → Option (List ℕ) → Option Bool
by_face name on None = Some on
by_face name on (Some face) = if bytes_eq face name then Some on else None

-- what the index has of the interface of this name, or else of all
abbrev pub said_of : PassiveIndex → List ℕ → Option Bool
said_of index name =
    option_or (get_by (λ (k : Bor (List ℕ)). bytes_eq name k.now) index.named) index.all

-- the index keeps what the lines of its file's process say
pub record IsIndex (index : ProcessIndex) : Type 0 where
  pub reference : index.reference ≡ reference_of (lines_of index.config.now)
  pub told : (p : Prefix) → HasPrefix index.told.keys p ↔
      Any (λ g. g.value ≡ commands.Tells p) (lines_of index.config.now)
  pub covered : (p : Prefix) → HasPrefix index.covered.keys p ↔
      Any (λ g. covered_prefix g.value ≡ Some p) (lines_of index.config.now)
  pub passive : (name : List ℕ) →
      said_of index.passive name ≡ last_said (says_passive name) (lines_of index.config.now)
