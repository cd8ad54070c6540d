use Rattle.std.proofs.Common.{arith, subst, ◌↔◌, IsTrue, List}
use Rattle.arc_base.specs.declared.place.Link.{Link}
use Rattle.net_model.specs.Forwarding.{source_router, target_router}
use Rattle.witness_check.specs.Cases.{ends_in}
use Rattle.witness_check.specs.Trails.{IsTrailOnce}
use Rattle.arc_nodecut.proofs.KeptOff.{goes_by_if}
use Rattle.arc_nodecut.proofs.apart.goes_by.Goals as goal

pub returns : goal.returns
returns c =
    goes_by_if c.args.case.now.net.now (ends_in c.args.case.now) c.args.path.now (λ one. omega (arith, one)) c.goes_once.result
    (subst (λ (links : List Link). IsTrue c.goes_once.result ↔ IsTrailOnce c.args.case.now.net.now c.args.case.now.to (source_router (ends_in c.args.case.now)) links
    (target_router (ends_in c.args.case.now)))
    c.slice.ensures.items c.goes_once.ensures)
