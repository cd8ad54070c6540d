use Rattle.std.proofs.Common.{ℕ}
use Rattle.std.specs.Prelude.{Any}
use Rattle.ios_config.specs.declared.settings.Config.{Config}
use Rattle.arc_base.specs.declared.refusal.Kind.TheVariants as kinds
use Rattle.net_rules.specs.Settings.{lines_of}
use Rattle.net_rules.specs.Peers.{TellsUnconnected}
use Rattle.net_rules.proofs.Firsts.{ClearTo}
use Rattle.net_checks.proofs.peers.try_networks.Given as goal

abbrev pub invariant-loop-place : goal.invariant-loop-place
invariant-loop-place l = ClearTo kinds.NetworkNotConnected (λ (place : ℕ) (config : Config) (line : ℕ). Any (TellsUnconnected config line) (lines_of config)) l.config-items l.place
