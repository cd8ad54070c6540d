use Rattle.arc_base.specs.declared.refusal.Kind.TheVariants as kinds
use Rattle.net_rules.specs.Routers.{HasNoOwnProcess}
use Rattle.net_rules.proofs.Firsts.{ClearTo}
use Rattle.net_checks.proofs.routers.try_processes.Given as goal

abbrev pub invariant-loop-place : goal.invariant-loop-place
invariant-loop-place l = ClearTo kinds.Protocol (HasNoOwnProcess l.config-items) l.config-items l.place
