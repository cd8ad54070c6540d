use Rattle.std.proofs.Common.{ℕ, take}
use Rattle.std.specs.Prelude.{Any, Contains}
use Rattle.arc_base.specs.declared.refusal.Kind.TheVariants as kinds
use Rattle.net_rules.specs.Routers.{GivesNumber, Repeats}
use Rattle.net_rules.specs.Linking.{router_id_of}
use Rattle.net_rules.proofs.Firsts.{ClearTo}
use Rattle.net_checks.proofs.adjacency.try_router_ids.Given as goal

abbrev pub invariant-loop-place : goal.invariant-loop-place
invariant-loop-place l = record {
  held : (id : ℕ) → Contains l.ids.keys id → Any (GivesNumber router_id_of id) (take l.place l.config-items);
  holds : (id : ℕ) → Any (GivesNumber router_id_of id) (take l.place l.config-items) → Contains l.ids.keys id;
  clear : ClearTo kinds.AdjacencyForm (Repeats router_id_of l.config-items) l.config-items l.place;
}
