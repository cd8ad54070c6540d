-- The processes of routers, file by file.
use Rattle.std.proofs.Common.{◌≡◌, ℕ, List, sym, ◌∙◌, ap, subst}
use Rattle.std.specs.Prelude.{MatchOption}
use Rattle.net_model.specs.declared.rows.Protocol.{Protocol}
use Rattle.ios_config.specs.declared.settings.Config.{Config}
use Rattle.net_rules.specs.Settings.{process_of}
use Rattle.ios_config.specs.Least.{IsLeast}
use Rattle.net_rules.specs.Routers.{protocol_of, MixesProcesses, HasNoOwnProcess}

-- what is wrong with the process of a file in a network of this protocol
abbrev pub IsWrong : Protocol → Config → ℕ → Type 0
IsWrong protocol config line = MatchOption (process_of config) (line ≡ 0) (λ process. MixesProcesses protocol config process line)

module _ (items configs : List Config) (protocol : Protocol) (same : items ≡ configs) (is : protocol ≡ protocol_of configs) where
  known : protocol ≡ protocol_of items
  known = is ∙ sym (ap protocol_of same)

  pub least_wrong : (place : ℕ) (config : Config) (line : ℕ) → IsLeast (IsWrong protocol config) line → IsLeast (HasNoOwnProcess items place config) line
  least_wrong place config line least = subst (λ (p : Protocol). IsLeast (IsWrong p config) line) known least

  pub none_wrong : (place : ℕ) (config : Config) → ((line : ℕ) → ¬ IsWrong protocol config line) → (line : ℕ) → ¬ HasNoOwnProcess items place config line
  none_wrong place config none = subst (λ (p : Protocol). (line : ℕ) → ¬ IsWrong p config line) known none
