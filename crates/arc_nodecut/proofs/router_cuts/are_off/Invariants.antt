use Rattle.std.proofs.Common.{ℕ, ◌<◌, get_or}
use Rattle.arc_base.specs.declared.place.Router.{Router}
use Rattle.arc_nodecut.specs.CutParts.{IsOff}
use Rattle.arc_nodecut.proofs.router_cuts.are_off.Given as goal

abbrev pub invariant-loop-router : goal.invariant-loop-router
invariant-loop-router l = (k : ℕ) → k < l.router-index → (d : Router) → IsOff l.side (get_or l.routers k d)
