use Rattle.std.proofs.Common.{rules, ltb}
use Rattle.std.proofs.lemmas.Bool.{ltb-true, ltb-false}
use Rattle.std.proofs.lemmas.List.Sorted.{IsPartitionPoint-from_clause, IsPartitionedBy-ltb}
use Rattle.arc_base.specs.declared.prefix.Prefix.{Prefix}
use Rattle.traffic_classes.proofs.MarksInside.{first_address}
use Rattle.traffic_classes.proofs.sorted_marks.count_before.Goals as goal

pub returns-clause-point : goal.returns-clause-point
returns-clause-point c =
    let point = IsPartitionPoint-from_clause (λ (p : Prefix). ltb p.addr c.args.address) c.args.sorted.now c.partition_point.result
    c.partition_point.ensures.partitioned (IsPartitionedBy-ltb first_address c.args.sorted.now c.args.address c.requires) (λ a r q k. search rules) in
    (λ k d a b. ltb-true _ _ (point.0 k d a b), λ k d a b. ltb-false _ _ (point.1 k d a b))
