use Rattle.arc_base.specs.declared.refusal.Kind.TheVariants as kinds
use Rattle.net_rules.proofs.Firsts.{ClearTo}
use Rattle.net_checks.proofs.AreaLines.{NamesOtherThan}
use Rattle.net_checks.proofs.areas.try_areas.Given as goal

abbrev pub invariant-loop-place : goal.invariant-loop-place
invariant-loop-place l = ClearTo kinds.TwoAreas (NamesOtherThan l.area) l.config-items l.place
