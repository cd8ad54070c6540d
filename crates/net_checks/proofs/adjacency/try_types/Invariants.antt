use Rattle.std.specs.Prelude.{ℕ}
use Rattle.net_model.specs.declared.rows.LinkRow.{LinkRow}
use Rattle.arc_base.specs.declared.refusal.Kind.TheVariants as kinds
use Rattle.net_rules.specs.Linking.{TypesDiffer}
use Rattle.net_rules.proofs.Firsts.{NoneTo}
use Rattle.net_checks.proofs.adjacency.try_types.Given as goal

abbrev pub invariant-loop-place : goal.invariant-loop-place
invariant-loop-place l = NoneTo kinds.AdjacencyForm (λ (place : ℕ) (link : LinkRow). TypesDiffer l.configs link) l.link-items l.place
