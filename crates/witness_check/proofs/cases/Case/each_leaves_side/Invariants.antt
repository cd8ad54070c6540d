use Rattle.std.proofs.Common.{ℕ, ◌<◌, get_or}
use Rattle.arc_base.specs.declared.place.Link.{Link}
use Rattle.witness_check.specs.Cuts.{LeavesOver}
use Rattle.witness_check.proofs.cases.Case.each_leaves_side.Given as goal

abbrev pub invariant-loop-link : goal.invariant-loop-link
invariant-loop-link l = (k : ℕ) → k < l.link-index → (d : Link) → LeavesOver l.self.net.now l.self.to l.side (get_or l.links k d).0
