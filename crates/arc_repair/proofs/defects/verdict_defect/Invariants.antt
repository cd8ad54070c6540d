use Rattle.std.proofs.Common.{drop}
use Rattle.arc_repair.proofs.VerdictDefects.{Leaves}
use Rattle.arc_repair.proofs.defects.verdict_defect.Given as goal

abbrev pub invariant-loop-place : goal.invariant-loop-place
invariant-loop-place l = Leaves l.net l.policies l.verdicts (drop l.place l.policies) (drop l.place l.verdicts)
