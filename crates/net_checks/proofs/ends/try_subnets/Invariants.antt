use Rattle.std.specs.Prelude.{ℕ}
use Rattle.net_model.specs.declared.rows.LinkRow.{LinkRow}
use Rattle.arc_base.specs.declared.refusal.Kind.TheVariants as kinds
use Rattle.net_rules.specs.Linking.{FitsSubnets}
use Rattle.net_rules.proofs.Firsts.{NoneTo}
use Rattle.net_checks.proofs.ends.try_subnets.Given as goal

abbrev pub invariant-loop-place : goal.invariant-loop-place
invariant-loop-place l = NoneTo kinds.LinkSubnets (λ (place : ℕ) (link : LinkRow). ¬ FitsSubnets l.net link) l.link-items l.place
