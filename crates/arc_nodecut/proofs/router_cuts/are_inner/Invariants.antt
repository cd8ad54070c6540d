use Rattle.std.proofs.Common.{ℕ, ◌<◌, get_or}
use Rattle.arc_base.specs.declared.place.Router.{Router}
use Rattle.witness_check.specs.Cases.{ends_in}
use Rattle.arc_nodecut.specs.CutParts.{IsInner}
use Rattle.arc_nodecut.proofs.router_cuts.are_inner.Given as goal

abbrev pub invariant-loop-router : goal.invariant-loop-router
invariant-loop-router l = (k : ℕ) → k < l.router-index → (d : Router) → IsInner l.case.net.now (ends_in l.case) (get_or l.routers k d)
