use Rattle.std.proofs.Common.{◌≡◌, ◌<◌, ℕ}
use Rattle.graph_flow.specs.declared.search.Mark.TheVariants.{Unseen}
use Rattle.graph_flow.specs.Marks.{mark_at}
use Rattle.graph_flow.proofs.search.Search.begin.Given as goal

abbrev pub invariant-loop-mark : goal.invariant-loop-mark
invariant-loop-mark l = (k : ℕ) → k < l.mark-index → mark_at l.mark-items k ≡ Unseen
