use Rattle.std.proofs.Common.{ℕ, ◌<◌, get_or}
use Rattle.net_model.specs.declared.verdicts.LinkPath.{LinkPath}
use Rattle.witness_check.specs.Cases.{ends_in}
use Rattle.arc_nodecut.specs.NodeWitnesses.{GoesBy}
use Rattle.arc_nodecut.proofs.apart.all_go_by.Given as goal

abbrev pub invariant-loop-path : goal.invariant-loop-path
invariant-loop-path l = (k : ℕ) → k < l.path-index → (d : LinkPath) → GoesBy l.case.net.now (ends_in l.case) (get_or l.paths k d)
