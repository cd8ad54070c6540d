use Rattle.std.proofs.Common.{drop}
use Rattle.std.specs.Prelude.{◌↔◌, AllPairs}
use Rattle.witness_check.specs.Cases.{ends_in}
use Rattle.arc_nodecut.specs.NodePaths.{GoesOff}
use Rattle.arc_nodecut.proofs.apart.are_apart.Given as goal

abbrev pub invariant-loop-place : goal.invariant-loop-place
invariant-loop-place l =
    AllPairs (GoesOff l.case.net.now (ends_in l.case)) l.paths ↔ AllPairs (GoesOff l.case.net.now (ends_in l.case)) (drop l.place l.paths)
