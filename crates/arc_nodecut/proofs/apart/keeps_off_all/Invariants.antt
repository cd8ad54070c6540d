use Rattle.std.proofs.Common.{ℕ, ◌<◌, get_or}
use Rattle.net_model.specs.declared.verdicts.LinkPath.{LinkPath}
use Rattle.witness_check.specs.Cases.{ends_in}
use Rattle.arc_nodecut.specs.NodePaths.{GoesOff}
use Rattle.arc_nodecut.proofs.apart.keeps_off_all.Given as goal

abbrev pub invariant-loop-other : goal.invariant-loop-other
invariant-loop-other l = (k : ℕ) → k < l.other-index → (d : LinkPath) → GoesOff l.case.net.now (ends_in l.case) l.path (get_or l.others k d)
