use Rattle.std.proofs.Common.{◌≡◌, Some, take, ◌↔◌}
use Rattle.std.specs.Prelude.{Any}
use Rattle.arc_base.specs.declared.prefix.Prefix.{Prefix}
use Rattle.ios_words.specs.declared.commands.Command.{Command}
use Rattle.ios_config.specs.declared.settings.Given.{Given}
use Rattle.net_rules.specs.Prefixes.{HasPrefix}
use Rattle.row_making.specs.Indexes.{network_prefix}
use Rattle.row_making.proofs.process_index.prefixes.Given as goal

abbrev pub invariant-loop-line : goal.invariant-loop-line
invariant-loop-line l = (p : Prefix) → HasPrefix l.prefixes.keys p ↔ Any (λ (g : Given Command). network_prefix l.protocol g.value ≡ Some p) (take l.line-index l.lines)
