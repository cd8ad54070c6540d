use Rattle.std.proofs.Common.{◌≡◌, take}
use Rattle.ios_config.specs.Texts.{router_name}
use Rattle.ios_config.proofs.configs.router_name.Given as goal

abbrev pub invariant-loop-c : goal.invariant-loop-c
invariant-loop-c l = l.found ≡ router_name (take l.c-index l.commands)
