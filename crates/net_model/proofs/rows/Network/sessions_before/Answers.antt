use Rattle.std.proofs.Common.{rules, ◌≡◌, ◌<◌, ◌≤◌, ℕ, List, ltb, sym, subst}
use Rattle.std.specs.List.Sorted.{IsPartitionPoint, IsNonDecreasingBy}
use Rattle.std.proofs.lemmas.Bool.{ltb-true, ltb-false}
use Rattle.std.proofs.lemmas.List.Sorted.{IsPartitionPoint-from_clause, IsPartitionedBy-ltb}
use Rattle.net_model.specs.declared.rows.SessionRow.{SessionRow}
use Rattle.net_model.specs.Tables.{router_at}
use Rattle.net_model.proofs.rows.Network.sessions_before.Goals as goal

-- src/sessions.rt:36:5
pub returns-clause-point : goal.returns-clause-point
returns-clause-point c =
    let key : SessionRow → ℕ = λ s. router_at c.args.self.now s.face in
    let xs : List SessionRow = c.slice.result.now in
    let same : xs ≡ c.args.self.now.sessions = c.slice.ensures.items in
    let up : IsNonDecreasingBy key xs = subst (IsNonDecreasingBy key) (sym same) c.requires.rising in
    let point = IsPartitionPoint-from_clause (λ (s : SessionRow). ltb (key s) c.args.router) xs c.partition_point.result
    c.partition_point.ensures.partitioned (IsPartitionedBy-ltb key xs c.args.router up) (λ a r q k. search rules) in
    subst (λ (ys : List SessionRow). IsPartitionPoint (λ s. key s < c.args.router) (λ s. c.args.router ≤ key s) ys c.partition_point.result) same
    (λ k d a b. ltb-true _ _ (point.0 k d a b), λ k d a b. ltb-false _ _ (point.1 k d a b))
