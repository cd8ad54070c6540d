use Rattle.std.proofs.Common.{ℕ, ◌+◌, ◌<◌, get_or}
use Rattle.arc_base.specs.declared.place.Link.{Link}
use Rattle.witness_check.proofs.cuts.are_rising.Given as goal

abbrev pub invariant-loop-place : goal.invariant-loop-place
invariant-loop-place l = (k : ℕ) → k + 1 < l.place → (d : Link) → (get_or l.links k d).0 < (get_or l.links (k + 1) d).0
