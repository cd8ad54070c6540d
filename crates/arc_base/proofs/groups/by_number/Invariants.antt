use Rattle.std.proofs.Common.{◌≡◌, List, take}
use Rattle.std.specs.List.{flat_map}
use Rattle.arc_base.proofs.groups.by_number.Given as goal

abbrev pub invariant-loop-group : goal.invariant-loop-group
invariant-loop-group g l =
    let whole : List g.row.T.Denot → List g.row.T.Denot = λ group. group in
    l.list.items ≡ flat_map whole (take l.group-index l.group-items)
