use Rattle.std.proofs.Common.{◌<◌}
use Rattle.std.specs.Prelude.{Contains}
use Rattle.arc_base.specs.declared.place.Link.{Link}
use Rattle.witness_check.specs.Cuts.{LeavesOver}
use Rattle.witness_check.proofs.cases.Case.cuts_all.Given as goal

abbrev pub invariant-loop-place : goal.invariant-loop-place
invariant-loop-place l = (link : Link) → link.0 < l.place → LeavesOver l.self.net.now l.self.to l.side link.0 → Contains l.links link
